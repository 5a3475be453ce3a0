-- An operation that is drafted: its changes are known, and nothing is done yet.
use Rattle.std.specs.Prelude.{◌≡◌, ℕ, true, List, [], if◌then◌else◌, ◌∷◌, ◌++◌, Option, Some, None, Result, Err, ⊤}
use Rattle.wse_path.specs.Path.{Path}
use Rattle.wse_path.specs.Tree.{Entries, HasRoom, IsTree}
use Rattle.wse_path.specs.Changes.{is_same, changes_between, stored}
use Rattle.wse_path.specs.Limits.{standard}
use Rattle.wse_path.specs.declared.change.Change.{Change}
use Rattle.wse_apply.specs.Setting.{SettingState}
use Rattle.wse_apply.specs.Limit.{limit_hit, are_within}
use Rattle.wse_apply.specs.Sizes.{sizes_of}
use Rattle.wse_apply.specs.Stop.{changed_to}
use Rattle.wse_apply.specs.declared.sizes.Sizes.{Sizes}
use Rattle.wse_apply.specs.declared.reason.Reason.{Reason}
use Rattle.wse_apply.specs.declared.stop.Stop.{Stop}
use Rattle.wse_apply.specs.declared.stop.Stop.TheVariants.{Refused, Memory}

-- The changes lead from the files to these new ones, which are a tree.
pub record LeadTo (files : Entries) (changes : List Change) (new : Entries) : Type 0 where
  pub tree : IsTree new
  pub between : changes ≡ changes_between files new

-- What an operation leaves is what its changes lead to, unless locks or limits stop it.
pub record IsDraftOf (setting : SettingState) (files : Entries) (next : Result Entries Reason) (changes : List Change) : Type 0 where
  pub new : Entries
  pub leads : LeadTo files changes new
  pub next_is : next ≡ changed_to setting files new

-- The reason is that of the operation. Memory may be wanting at any point.
abbrev pub IsStopOf : Result Entries Reason → Stop → Type 0
IsStopOf next (Refused why) = next ≡ Err why
IsStopOf next Memory = ⊤

-- The reason is this one. Memory may be wanting at any point.
abbrev pub TellsReason : Option Reason → Stop → Type 0
TellsReason reason (Refused why) = reason ≡ Some why
TellsReason reason Memory = ⊤

-- The files pass no limit, no limit is above the program's, and the sizes are those of the files.
pub record AreSmall (setting : SettingState) (sizes : Sizes) (files : Entries) : Type 0 where
  pub limits : are_within setting.limits standard ≡ true
  pub fits : limit_hit setting.limits files ≡ None
  pub sizes_are : sizes ≡ sizes_of files

-- Each new content of the changes finds room among the files and those that were put before it.
abbrev pub FindRoom : List Change → Entries → Type 0
FindRoom changes files =
    (before : List Change) (c : Change) (rest : List Change) (bytes : List ℕ) → changes ≡ before ++ c ∷ rest → c.after ≡ Some bytes
    → HasRoom (stored before files) c.path

-- Only where memory was wanting the files may be others.
abbrev pub LeavesUnlessMemory : Entries → Entries → Stop → Type 0
LeavesUnlessMemory old new (Refused why) = new ≡ old
LeavesUnlessMemory old new Memory = ⊤

-- The change of a file's content: none where it stays.
abbrev pub change_of : Path → List ℕ → List ℕ → List Change
change_of p before after =
    if is_same (Some before) (Some after) then []
    else record { path = p; before = Some before; after = Some after } ∷ []

-- The operation with that index fails for the reason. Want of memory is no failure.
abbrev pub IsFailureOf : Stop → ℕ → Option (ℕ × Reason) → Type 0
IsFailureOf (Refused why) index failed = failed ≡ Some (index, why)
IsFailureOf Memory index failed = ⊥
