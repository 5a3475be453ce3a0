-- When none of a command's effects is refused.
use Rattle.std.specs.Prelude.{◌≡◌, ◌+◌, true, List, None}
use Rattle.wse_path.specs.Path.{Path}
use Rattle.wse_path.specs.Tree.{Entries, set_files, IsTree}
use Rattle.wse_path.specs.Changes.{changes_between, DiffersOnlyAt}
use Rattle.wse_element.specs.Content.{Content}
use Rattle.wse_element.specs.declared.effect.Effect.{Effect}
use Rattle.wse_element.specs.State.{Kept, stacks_of}
use Rattle.wse_element.specs.Applicable.{first_refused, first_refused_of_kept}
use Rattle.wse_recover.specs.Keeps.{all_keep}

-- None is refused exactly where the records refuse none, and each keeps the versions within their bounds.
pub record RefusedByTwo (kept : Kept) (effects : List Effect) : Type 0 where
  pub both : first_refused (stacks_of kept) effects ≡ None → all_keep (kept.serial + 1) kept.versions effects ≡ true → first_refused_of_kept kept effects ≡ None
  pub records : first_refused_of_kept kept effects ≡ None → first_refused (stacks_of kept) effects ≡ None
  pub versions : first_refused_of_kept kept effects ≡ None → all_keep (kept.serial + 1) kept.versions effects ≡ true

abbrev pub NoneRefusedByTwo : Type 0
NoneRefusedByTwo = (kept : Kept) (effects : List Effect) → RefusedByTwo kept effects

-- Files that differ from those that were read only where the setting changes them are finished as the same ones.
abbrev pub FinishingStands : Type 0
FinishingStands = (sets : List (Path × Content)) (files image : Entries) → IsTree files
    → DiffersOnlyAt (changes_between files (set_files sets files)) files image → set_files sets image ≡ set_files sets files
