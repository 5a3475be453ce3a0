use Rattle.wse_element.specs.declared.effect.Effect.TheVariants.{Bump}
use Rattle.wse_path.specs.declared.change.Numbered.{Numbered}
use Rattle.wse_history.proofs.LoopLemmas.{all_pushed}
use Rattle.wse_slow_history.proofs.effects.push_bumps.Goals as goal

pub returns : goal.returns
returns c = all_pushed (λ (b : Numbered). Bump b.path b.number) c.args.effects.now.items c.args.bumps.now c.loop-bump.bump-index c.loop-bump.effects.items c.loop-bump-test.false c.loop-bump.invariant
