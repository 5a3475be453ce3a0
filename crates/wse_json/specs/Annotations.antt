-- Annotations of changes (LSP 3.17, "ChangeAnnotation"), and what waits for a confirmation.
use Rattle.std.specs.Prelude.{ℕ, Bool, false, ◌&&◌, not, List, [], codes, Option, Some, None, option_and_then, option_map, unwrap_or, Result, Ok, Err, ⊤}
use Rattle.serde_json.specs.Data.{Data, Members, no_members, member}
use Rattle.serde_json.specs.Find.{get, as_bool, as_str, as_object}
use Rattle.wse_json.specs.declared.shape.Shape.{Shape}
use Rattle.wse_json.specs.declared.shape.Shape.TheVariants.{Annotation}
use Rattle.wse_json.specs.Kinds.{an_object, required, standard, perhaps, within_or}
use Rattle.wse_json.specs.Shapes.{or_field, under, to_member, ◌>>=◌}

-- The checks of an annotation.
unfoldable pub annotation_check : Data → Result ⊤ Shape
annotation_check d = do
  entry ← or_field [] (an_object d)
  label ← required (codes "label") as_str entry
  needs ← standard (codes "needsConfirmation") as_bool false entry
  description ← perhaps (codes "description") as_str entry
  Ok tt

-- The checks of all annotations, in byte order of their ids.
abbrev pub annotation_checks : Members → Result ⊤ Shape
annotation_checks no_members = Ok tt
annotation_checks (member id d more) = do
  checked ← under (to_member id) (annotation_check d)
  annotation_checks more

-- The checks of the annotations of an edit.
unfoldable pub annotations_in : Data → Result ⊤ Shape
annotations_in edit = within_or (codes "changeAnnotations") as_object annotation_checks tt edit

-- What is annotated so needs a confirmation.
abbrev pub needs_confirmation : Data → Bool
needs_confirmation entry = unwrap_or (option_and_then as_bool (get (codes "needsConfirmation") entry)) false

-- What an id says: none where no annotation has it, else whether what bears it waits for a confirmation.
abbrev pub Waits : Type 0
Waits = List ℕ → Option Bool

unfoldable pub waits_of : Option Data → (List ℕ → Bool) → Waits
waits_of annotations confirmed id =
    option_map (λ entry. needs_confirmation entry && not (confirmed id)) (option_and_then (get id) annotations)

abbrev pub waiting_at : List ℕ → Option Bool → Result Bool Shape
waiting_at id None = Err (Annotation id)
waiting_at id (Some b) = Ok b

abbrev pub waiting : Waits → Option (List ℕ) → Result Bool Shape
waiting waits None = Ok false
waiting waits (Some id) = waiting_at id (waits id)

-- Whether the operation or the edit of a text is skipped.
unfoldable pub skipped_in : Waits → Data → Result Bool Shape
skipped_in waits d = do
  id ← perhaps (codes "annotationId") as_str d
  waiting waits id
