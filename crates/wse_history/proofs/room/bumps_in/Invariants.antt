use Rattle.std.proofs.Common.{◌≡◌, take}
use Rattle.wse_history.specs.Planning.{bumps_in}
use Rattle.wse_history.proofs.room.bumps_in.Given as goal

abbrev pub invariant-loop-effect : goal.invariant-loop-effect
invariant-loop-effect l = l.bumps.items ≡ bumps_in (take l.effect-index l.effects)
