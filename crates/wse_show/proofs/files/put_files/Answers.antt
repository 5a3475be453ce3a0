use Rattle.std.proofs.Common.{◌∙◌}
use Rattle.std.specs.FinMap.{put}
use Rattle.wse_path.specs.Order.{path_cmp}
use Rattle.wse_path.specs.Versions.{version_of}
use Rattle.wse_show.proofs.ShowLemmas.{put_image}
use Rattle.wse_show.proofs.files.put_files.Goals as goal

pub loop-index-preserved : goal.loop-index-preserved
loop-index-preserved c =
    let versions = c.args.versions.now.entries in
    c.in_ok-put.ensures.ok
    ∙ (λ i. put path_cmp (c.in_ok-duplicate.ensures i) (c.get.ensures i) (c.loop-index.invariant i))
    ∙ put_image (λ e. (e.0, version_of versions e.0)) c.args.tree.now.files c.loop-index.index (c.file_at.result.0.now, c.file_at.result.1.now) c.args.rows.now.entries c.file_at.ensures
