use Rattle.wse_path.specs.declared.change.Change.{Change}
use Rattle.wse_history.specs.Plans.{drop_at}
use Rattle.wse_history.proofs.LoopLemmas.{spread, all_spread}
use Rattle.wse_history.proofs.effects.push_drops.Goals as goal

pub loop-change-preserved : goal.loop-change-preserved
loop-change-preserved c =
    spread (λ (x : Change). drop_at c.args.stacks.now.state.records x.path) c.args.effects.now.items c.args.changes.now c.loop-change.change-index c.change-item.result
    c.loop-change.effects.items c.push_drop.new.effects.items c.loop-change-test.true c.change-item.is c.in_ok-push_drop.ensures c.loop-change.invariant

pub returns : goal.returns
returns c =
    all_spread (λ (x : Change). drop_at c.args.stacks.now.state.records x.path) c.args.effects.now.items c.args.changes.now c.loop-change.change-index
    c.loop-change.effects.items c.loop-change-test.false c.loop-change.invariant
