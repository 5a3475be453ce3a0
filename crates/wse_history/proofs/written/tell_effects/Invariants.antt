use Rattle.std.proofs.Common.{take}
use Rattle.std.specs.List.{All}
use Rattle.wse_history.specs.Written.{IsWrittenEffect}
use Rattle.wse_history.proofs.written.tell_effects.Given as goal

abbrev pub invariant-loop-effect : goal.invariant-loop-effect
invariant-loop-effect l = All IsWrittenEffect (take l.effect-index l.effects)
