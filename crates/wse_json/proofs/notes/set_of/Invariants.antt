use Rattle.std.proofs.Common.{◌≡◌, ℕ, List, take}
use Rattle.std.specs.BTreeSet.{contains_text}
use Rattle.wse_json.specs.Members.{is_among}
use Rattle.wse_json.proofs.notes.set_of.Given as goal

abbrev pub invariant-loop-text : goal.invariant-loop-text
invariant-loop-text l = (text : List ℕ) → contains_text l.set text ≡ is_among (take l.text-index l.texts) text
