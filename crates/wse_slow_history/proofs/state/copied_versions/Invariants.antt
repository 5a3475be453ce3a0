use Rattle.std.proofs.Common.{◌≡◌, take}
use Rattle.wse_slow_history.proofs.state.copied_versions.Given as goal

abbrev pub invariant-loop-version : goal.invariant-loop-version
invariant-loop-version l = l.copy.items ≡ take l.version-index l.versions
