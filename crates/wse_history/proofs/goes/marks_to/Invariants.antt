use Rattle.std.proofs.Common.{◌≡◌, map, take, is_some}
use Rattle.wse_element.specs.Record.{RecordPart}
use Rattle.wse_history.specs.Moving.{content_to}
use Rattle.wse_history.proofs.goes.marks_to.Given as goal

abbrev pub invariant-loop-part : goal.invariant-loop-part
invariant-loop-part l = l.marks.items ≡ map (λ (part : RecordPart). (part.path, is_some (content_to l.direction part))) (take l.part-index l.parts)
