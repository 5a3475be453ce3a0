use Rattle.std.proofs.Common.{◌≡◌, map, take}
use Rattle.wse_slow_history.proofs.edits.paths_of.Given as goal

abbrev pub invariant-loop-bump : goal.invariant-loop-bump
invariant-loop-bump l = l.paths.items ≡ map (λ b. b.path) (take l.bump-index l.bumps)
