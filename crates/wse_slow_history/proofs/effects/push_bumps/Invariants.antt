use Rattle.std.proofs.Common.{◌≡◌, ◌++◌, map, take}
use Rattle.wse_element.specs.declared.effect.Effect.TheVariants.{Bump}
use Rattle.wse_path.specs.declared.change.Numbered.{Numbered}
use Rattle.wse_slow_history.proofs.effects.push_bumps.Given as goal

abbrev pub invariant-loop-bump : goal.invariant-loop-bump
invariant-loop-bump l = l.effects.items ≡ l.initial.effects.items ++ map (λ (b : Numbered). Bump b.path b.number) (take l.bump-index l.bumps)
