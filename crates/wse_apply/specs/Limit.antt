-- The first limit that a tree passes: bytes of a file, then files, then bytes of all files. This project's own rule.
use Rattle.std.specs.Prelude.{ℕ, ◌-◌, ◌^◌, ◌&&◌, Bool, min, map, find, length, nat_lt, nat_le, Option, Some, None, option_map, if◌then◌else◌}
use Rattle.std.specs.Option.{option_or}
use Rattle.wse_path.specs.Tree.{Entries, total_bytes}
use Rattle.wse_path.specs.declared.limits.Limits.{Limits}
use Rattle.wse_path.specs.declared.limits.Hit.{Hit}
use Rattle.wse_path.specs.declared.limits.Which.{Which}
use Rattle.wse_path.specs.declared.limits.Which.TheVariants.{Files, FileBytes, TreeBytes}

-- The limit, with the number that passes it.
abbrev pub hit_by : Which → ℕ → Hit
hit_by which number = record { which = which; would_be = number }

-- The limit is passed where the number is greater.
abbrev pub hit_above : Which → ℕ → ℕ → Option Hit
hit_above which limit number = if nat_lt limit number then Some (hit_by which number) else None

-- The bytes of the first file, in path order, that has more than these.
abbrev pub first_above : ℕ → Entries → Option ℕ
first_above limit files = find (nat_lt limit) (map (λ e. length e.1) files)

-- How many files there are, or 2^64-1 where they are more.
abbrev pub file_count : Entries → ℕ
file_count files = min (length files) (2 ^ 64 - 1)

abbrev pub limit_hit : Limits → Entries → Option Hit
limit_hit limits files =
    option_or (option_map (hit_by FileBytes) (first_above limits.file_bytes files))
    (option_or (hit_above Files limits.files (file_count files))
    (hit_above TreeBytes limits.tree_bytes (total_bytes files)))

-- No limit is above that of the others.
abbrev pub are_within : Limits → Limits → Bool
are_within limits others =
    nat_le limits.files others.files && nat_le limits.file_bytes others.file_bytes && nat_le limits.tree_bytes others.tree_bytes
    && nat_le limits.known others.known && nat_le limits.weight others.weight && nat_le limits.serial others.serial
