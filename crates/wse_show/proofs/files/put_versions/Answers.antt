use Rattle.std.proofs.Common.{◌∙◌}
use Rattle.std.specs.FinMap.{put}
use Rattle.wse_path.specs.Order.{path_cmp}
use Rattle.wse_show.proofs.ShowLemmas.{put_next}
use Rattle.wse_show.proofs.files.put_versions.Goals as goal

pub loop-index-preserved : goal.loop-index-preserved
loop-index-preserved c =
    c.in_ok-put.ensures.ok
    ∙ (λ i. put path_cmp (c.in_ok-duplicate.ensures i) c.entry_at-number.result.1 (c.loop-index.invariant i))
    ∙ put_next c.args.versions.now.entries c.loop-index.index (c.entry_at-number.result.0.now, c.entry_at-number.result.1) c.args.rows.now.entries c.entry_at-number.ensures
