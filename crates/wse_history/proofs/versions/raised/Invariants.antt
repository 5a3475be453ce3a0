use Rattle.std.proofs.Common.{◌≡◌, take}
use Rattle.wse_history.specs.Done.{raised}
use Rattle.wse_history.proofs.versions.raised.Given as goal

abbrev pub invariant-loop-bump : goal.invariant-loop-bump
invariant-loop-bump l = l.changed.items ≡ raised l.versions.entries (take l.bump-index l.bumps)
