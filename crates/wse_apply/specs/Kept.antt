-- What becomes of an edit that fails, by its failure kind: LSP 3.17, "FailureHandlingKind". What `undo` does with
-- versions is this project's own rule.
use Rattle.std.specs.Prelude.{ℕ, ◌==◌, Bool, true, false, List, [], map, Option, Some, None, if◌then◌else◌}
use Rattle.std.specs.List.{list_all}
use Rattle.wse_path.specs.Tree.{Entries}
use Rattle.wse_path.specs.declared.change.Change.{Change}
use Rattle.wse_path.specs.declared.change.Numbered.{Numbered}
use Rattle.wse_path.specs.declared.edit.Operation.{Operation}
use Rattle.wse_path.specs.declared.edit.What.{What}
use Rattle.wse_path.specs.declared.edit.What.TheVariants.{Text, Resource}
use Rattle.wse_path.specs.declared.edit.FailureKind.{FailureKind}
use Rattle.wse_path.specs.declared.edit.FailureKind.TheVariants.{Abort, Transactional, TextOnlyTransactional, Undo}
use Rattle.wse_apply.specs.declared.reason.Reason.{Reason}
use Rattle.wse_apply.specs.declared.kept.Rule.{Rule}

abbrev pub edits_text : What → Bool
edits_text (Text p version edits) = true
edits_text (Resource op) = false

-- Every operation, as it was given, edits a text: skipped ones count too.
abbrev pub all_edit_texts : List Operation → Bool
all_edit_texts operations = list_all (λ o. edits_text o.what) operations

-- What was reached stays, and versions rise by 1.
abbrev pub keeps : Rule
keeps = record { keeps = true; rise = 1 }

-- The tree is as before, and no version rises.
abbrev pub drops : Rule
drops = record { keeps = false; rise = 0 }

-- The tree is as before, and versions rise by 2: once for what was done and once for undoing it.
abbrev pub undoes : Rule
undoes = record { keeps = false; rise = 2 }

abbrev pub rule_of : FailureKind → (texts_alone : Bool) → Rule
rule_of Abort texts_alone = keeps
rule_of Transactional texts_alone = drops
rule_of TextOnlyTransactional texts_alone = if texts_alone then drops else keeps
rule_of Undo texts_alone = undoes

-- The rule of an edit, by whether an operation failed.
abbrev pub rule_after : Option (ℕ × Reason) → FailureKind → (texts_alone : Bool) → Rule
rule_after None kind texts_alone = keeps
rule_after (Some failed) kind texts_alone = rule_of kind texts_alone

-- The files that are kept, of those from before and those that were reached.
abbrev pub kept : Rule → Entries → Entries → Entries
kept rule before reached = if rule.keeps then reached else before

-- The paths where what was reached differs, with how much their versions rise.
abbrev pub bumps_by : ℕ → List Change → List Numbered
bumps_by rise changes = if rise == 0 then [] else map (λ c. record { path = c.path; number = rise }) changes
