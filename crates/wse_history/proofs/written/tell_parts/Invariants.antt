use Rattle.std.proofs.Common.{take}
use Rattle.std.specs.List.{All}
use Rattle.wse_history.specs.Written.{IsWrittenPart}
use Rattle.wse_history.proofs.written.tell_parts.Given as goal

abbrev pub invariant-loop-part : goal.invariant-loop-part
invariant-loop-part l = All IsWrittenPart (take l.part-index l.parts)
