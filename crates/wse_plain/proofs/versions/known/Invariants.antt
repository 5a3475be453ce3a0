use Rattle.std.proofs.Common.{◌≡◌, take}
use Rattle.wse_path.specs.Versions.{known}
use Rattle.wse_plain.proofs.versions.known.Given as goal

abbrev pub invariant-loop-entry : goal.invariant-loop-entry
invariant-loop-entry l = l.sum ≡ known (take l.entry-index l.versions)
