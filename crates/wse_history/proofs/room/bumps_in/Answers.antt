use Rattle.std.proofs.Common.{◌++◌, [], ◌∷◌, ◌∙◌, ap, sym, take}
use Rattle.wse_history.specs.Planning.{bumps_in}
use Rattle.wse_history.proofs.LoopLemmas.{one_more}
use Rattle.wse_history.proofs.ReserveLemmas.{bumps_behind_one}
use Rattle.wse_history.proofs.room.bumps_in.Goals as goal

pub loop-effect-preserved : goal.loop-effect-preserved
loop-effect-preserved c =
    let before = take c.loop-effect.effect-index c.args.effects.now in
    let e = c.effect-item.result in
    c.in_ok-push_bump.ensures ∙ ap (λ bs. bs ++ bumps_in (e ∷ [])) c.loop-effect.invariant
    ∙ sym (bumps_behind_one before e)
    ∙ ap bumps_in (one_more c.args.effects.now c.loop-effect.effect-index e c.loop-effect-test.true c.effect-item.is)
