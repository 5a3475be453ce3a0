use Rattle.std.proofs.Common.{◌∙◌}
use Rattle.wse_path.specs.Tree.{put_file}
use Rattle.wse_apply.proofs.DifferenceLemmas.{put_next}
use Rattle.wse_apply.proofs.difference.put_files.Goals as goal

pub loop-index-preserved : goal.loop-index-preserved
loop-index-preserved c =
    c.in_ok-put.ensures.ok
    ∙ (λ i. put_file (c.loop-index.invariant i) (c.in_ok-duplicate.ensures i) (c.in_ok-copy_bytes.ensures i))
    ∙ put_next c.args.tree.now.files c.loop-index.index (c.file_at.result.0.now, c.file_at.result.1.now) c.args.files.now.entries c.file_at.ensures
