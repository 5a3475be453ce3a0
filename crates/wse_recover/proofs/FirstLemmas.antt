-- A new store over the tree of a disk.
use Rattle.std.proofs.Common.{◌≡◌, ◌≤◌, ℕ, true, ◌&&◌, List, map, Option, Some, None}
use Rattle.std.specs.Prelude.{nat_le}
use Rattle.std.specs.FinMap.{is_sorted}
use Rattle.std.proofs.lemmas.Bool.{leb-true}
use Rattle.wse_path.specs.Path.{Path}
use Rattle.wse_path.specs.Order.{path_cmp}
use Rattle.wse_path.specs.Tree.{Entries}
use Rattle.wse_path.specs.Limits.{standard}
use Rattle.wse_path.specs.declared.limits.Limits.{Limits}
use Rattle.wse_path.proofs.EntryLemmas.{and_parts}
use Rattle.wse_apply.specs.Limit.{are_within}
use Rattle.wse_disk.specs.Standing.{Standing}
use Rattle.wse_disk.specs.Told.{ReadsAnImage}
use Rattle.wse_disk.specs.Calls.{ReadsNames}
use Rattle.wse_recover.specs.First.{SpellsNew, SpellsNewStore}

pub files_within : (limits : Limits) → are_within limits standard ≡ true → limits.files ≤ 65536
files_within limits h =
    let a = nat_le limits.files standard.files in
    let b = nat_le limits.file_bytes standard.file_bytes in
    let t = nat_le limits.tree_bytes standard.tree_bytes in
    let k = nat_le limits.known standard.known in
    let w = nat_le limits.weight standard.weight in
    let s = nat_le limits.serial standard.serial in
    let five = and_parts ((((a && b) && t) && k) && w) s h in
    let four = and_parts (((a && b) && t) && k) w five.0 in
    let three = and_parts ((a && b) && t) k four.0 in
    let two = and_parts (a && b) t three.0 in
    leb-true limits.files 65536 (and_parts a b two.0).0

pub spells_told : (told : Option Standing) (paths : List Path) (bytes : List ℕ) → ReadsAnImage told → ReadsNames told paths
    → ((files : Entries) → paths ≡ map (λ e. e.0) files → is_sorted path_cmp files ≡ true → SpellsNew files bytes) → SpellsNewStore told bytes
spells_told None paths bytes image names spells = tt
spells_told (Some s) paths bytes image names spells = spells s.reading.files names image.tree.rises
