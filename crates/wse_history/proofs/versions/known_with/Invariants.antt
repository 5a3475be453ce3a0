use Rattle.std.proofs.Common.{◌≡◌, take}
use Rattle.wse_path.specs.Versions.{known}
use Rattle.wse_history.specs.Done.{with_versions}
use Rattle.wse_history.proofs.versions.known_with.Given as goal

abbrev pub invariant-loop-one : goal.invariant-loop-one
invariant-loop-one l = l.known ≡ known (with_versions (take l.one-index l.changed) l.versions.entries)
