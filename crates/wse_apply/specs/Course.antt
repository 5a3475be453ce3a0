-- The operations of an edit one after another: a list of whole trees, and the first operation that fails.
use Rattle.std.specs.Prelude.{ℕ, suc, List, [], ◌∷◌, Option, Some, None, option_map, Result, Ok, Err, slice_index_or}
use Rattle.std.specs.Result.{result_err}
use Rattle.wse_path.specs.Tree.{Entries}
use Rattle.wse_path.specs.declared.edit.Operation.{Operation}
use Rattle.wse_apply.specs.Setting.{SettingState}
use Rattle.wse_apply.specs.Next.{next}
use Rattle.wse_apply.specs.declared.reason.Reason.{Reason}

-- The files that are left: the next ones, or the same where the operation is refused.
abbrev pub left : Entries → Result Entries Reason → Entries
left files (Ok new) = new
left files (Err why) = files

-- The files before each of the operations, and behind the last of them. Each works on what those before it leave.
abbrev pub trees : SettingState → Entries → List Operation → List Entries
trees setting files [] = files ∷ []
trees setting files (o ∷ os) = files ∷ trees setting (left files (next setting files o)) os

-- Why each of the operations is refused, if it is, on the files before it.
abbrev pub refusals : SettingState → Entries → List Operation → List (Option Reason)
refusals setting files [] = []
refusals setting files (o ∷ os) =
    result_err (next setting files o) ∷ refusals setting (left files (next setting files o)) os

abbrev pub one_later : ℕ × Reason → ℕ × Reason
one_later found = (suc found.0, found.1)

-- The first refusal, with its index.
abbrev pub first_refusal : List (Option Reason) → Option (ℕ × Reason)
first_refusal [] = None
first_refusal (Some why ∷ more) = Some (0, why)
first_refusal (None ∷ more) = option_map one_later (first_refusal more)

-- How many operations come before the first that is refused.
abbrev pub done_before : List (Option Reason) → ℕ
done_before [] = 0
done_before (Some why ∷ more) = 0
done_before (None ∷ more) = suc (done_before more)

-- The operation that fails, in the list as it was given, and why.
abbrev pub failure_of : SettingState → Entries → List Operation → Option (ℕ × Reason)
failure_of setting files operations = first_refusal (refusals setting files operations)

-- The files before the operation that fails, or behind the last.
abbrev pub reached : SettingState → Entries → List Operation → Entries
reached setting files operations =
    slice_index_or (trees setting files operations) (done_before (refusals setting files operations)) files
