-- What an edit leaves out because it waits for a confirmation, by the indices of the lists as they were given.
use Rattle.std.specs.Prelude.{ℕ, suc, List, [], ◌∷◌, ◌++◌, Some, None, if◌then◌else◌}
use Rattle.wse_path.specs.declared.edit.Operation.{Operation}
use Rattle.wse_path.specs.declared.edit.What.{What}
use Rattle.wse_path.specs.declared.edit.What.TheVariants.{Text, Resource}
use Rattle.wse_path.specs.declared.position.TextEdit.{TextEdit}
use Rattle.wse_apply.specs.declared.skips.Skip.{Skip}

-- An edit of an operation, if it is skipped.
abbrev pub skips_edit : ℕ → ℕ → TextEdit → List Skip
skips_edit operation edit e = if e.skipped then record { operation = operation; edit = Some edit } ∷ [] else []

-- The skipped ones of an operation's edits, of which the first has this index.
abbrev pub skipped_edits : ℕ → ℕ → List TextEdit → List Skip
skipped_edits operation edit [] = []
skipped_edits operation edit (e ∷ es) =
    skips_edit operation edit e ++ skipped_edits operation (suc edit) es

abbrev pub skips_within : ℕ → What → List Skip
skips_within operation (Text p version edits) = skipped_edits operation 0 edits
skips_within operation (Resource op) = []

-- A skipped operation is one skip, whatever it holds.
abbrev pub skips_at : ℕ → Operation → List Skip
skips_at index o = if o.skipped then record { operation = index; edit = None } ∷ [] else skips_within index o.what

-- The skips of operations of which the first has this index.
abbrev pub skips_from : ℕ → List Operation → List Skip
skips_from index [] = []
skips_from index (o ∷ os) = skips_at index o ++ skips_from (suc index) os
