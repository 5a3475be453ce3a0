use Rattle.std.proofs.Common.{subst, sym, ap, ◌∙◌, if◌then◌else◌}
use Rattle.wse_path.specs.Tree.{put_file, HasRoom}
use Rattle.wse_resource.specs.Table.{is_within}
use Rattle.wse_resource.proofs.SlowLemmas.{without_room, without_next}
use Rattle.wse_resource.proofs.copies.without.Goals as goal

pub put_unless_within-requires : goal.put_unless_within-requires
put_unless_within-requires c =
    λ apart.
    subst (λ es. HasRoom es c.file_at.result.0.now) (sym c.loop-index.invariant)
    (without_room c.args.tree.now.files c.args.path.now c.loop-index.index (c.file_at.result.0.now, c.file_at.result.1.now) c.args.tree.now.is_tree c.file_at.ensures apart)

pub loop-index-preserved : goal.loop-index-preserved
loop-index-preserved c =
    c.in_ok-put_unless_within.ensures
    ∙ ap (λ es. if is_within c.file_at.result.0.now c.args.path.now then es else put_file es c.file_at.result.0.now c.file_at.result.1.now) c.loop-index.invariant
    ∙ without_next c.args.tree.now.files c.args.path.now c.loop-index.index (c.file_at.result.0.now, c.file_at.result.1.now) c.args.tree.now.is_tree c.file_at.ensures
