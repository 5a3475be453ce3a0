-- What the code holds of the annotations of an edit and of the confirmed ids.
use Rattle.std.specs.Prelude.{option_map}
use Rattle.std.specs.BTreeSet.{contains_text}
use Rattle.serde_json.specs.View.{view}
use Rattle.wse_json.specs.Annotations.{Waits, waits_of}
use Rattle.wse_json.specs.declared.notes.Notes.{Notes}

abbrev pub waits_by : Notes → Waits
waits_by notes = waits_of (option_map (λ v. view v.now) notes.annotations) (contains_text notes.confirmed.now)
