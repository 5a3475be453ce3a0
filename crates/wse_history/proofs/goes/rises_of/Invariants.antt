use Rattle.std.proofs.Common.{◌≡◌, take}
use Rattle.wse_history.specs.Done.{ones}
use Rattle.wse_history.specs.Moving.{paths_of}
use Rattle.wse_history.proofs.goes.rises_of.Given as goal

abbrev pub invariant-loop-part : goal.invariant-loop-part
invariant-loop-part l = l.rises.items ≡ ones (paths_of (take l.part-index l.parts))
