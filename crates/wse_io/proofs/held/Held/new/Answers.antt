use Rattle.std.proofs.Common.{arith}
use Rattle.wse_io.proofs.held.Held.new.Goals as goal

pub invariant_of-result : goal.invariant_of-result
invariant_of-result c = record { order = omega arith; within = omega arith; none = omega arith }
