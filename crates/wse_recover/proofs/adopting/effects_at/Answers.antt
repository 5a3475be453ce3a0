use Rattle.wse_recover.proofs.AdoptingLemmas.{effects_more, allowed_more}
use Rattle.std.proofs.Common.{ap, ◌∙◌, ◌++◌, []}
use Rattle.wse_recover.proofs.adopting.effects_at.Goals as goal

pub loop-path-preserved : goal.loop-path-preserved
loop-path-preserved c =
    let i = c.loop-path.path-index in
    let p = c.path-item.result in
    record {
      effects = effects_more c.args.paths.now i p c.loop-path.effects.items c.push_effects.new.effects.items c.loop-path-test.true c.path-item.is c.loop-path.invariant.effects c.in_ok-push_effects.ensures.pushed;
      allowed = allowed_more c.args.paths.now i p c.loop-path-test.true c.path-item.is c.loop-path.invariant.allowed c.push_effects.ensures.allowed;
    }
