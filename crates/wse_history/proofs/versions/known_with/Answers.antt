use Rattle.std.proofs.Common.{◌+◌, ◌-◌, ◌^◌, min, ap, ◌∙◌}
use Rattle.wse_history.proofs.KnownLemmas.{known_more}
use Rattle.wse_history.proofs.versions.known_with.Goals as goal

pub loop-one-preserved : goal.loop-one-preserved
loop-one-preserved c =
    c.saturating_add-known.ensures
    ∙ ap (λ n. min (c.loop-one.known + n) (2 ^ 64 - 1)) c.new_known.ensures
    ∙ known_more c.args.versions.now.entries c.args.changed.now c.requires.there c.args.versions.now.rises c.requires.rises c.loop-one.one-index c.loop-one.known c.one-item.result c.loop-one-test.true c.one-item.is c.loop-one.invariant
