use Rattle.std.proofs.Common.{take}
use Rattle.wse_stacks.specs.Turns.{AreNoted}
use Rattle.wse_stacks.proofs.turned.turned.Given as goal

abbrev pub invariant-loop-path : goal.invariant-loop-path
invariant-loop-path l = AreNoted l.old l.new (take l.path-index l.paths) l.noted.entries
