use Rattle.std.proofs.Common.{inl, inr, subst, sym, ap, ◌∙◌, arith, if◌then◌else◌}
use Rattle.std.proofs.lemmas.Result.{err_from_is_err_and}
use Rattle.wse_path.specs.Tree.{put_file, HasRoom}
use Rattle.wse_resource.specs.Table.{is_within, moved, unless_past_limit}
use Rattle.wse_resource.specs.Table.Outcome.{Refused}
use Rattle.wse_resource.specs.After.{without}
use Rattle.wse_resource.proofs.SlowLemmas.{moved_room, moved_next, past_none, past_here, past_next}
use Rattle.wse_resource.proofs.slowly.renamed_slowly.Goals as goal

pub put_moved_within-requires : goal.put_moved_within-requires
put_moved_within-requires c =
    λ within.
    subst (λ es. HasRoom es (moved c.args.from.now c.args.to.now c.file_at.result.0.now)) (sym c.loop-index.invariant.files)
    (moved_room c.args.tree.now.files c.args.from.now c.args.to.now c.loop-index.index (c.file_at.result.0.now, c.file_at.result.1.now) c.args.tree.now.is_tree c.requires c.file_at.ensures within)

pub returns-in_err-put_moved_within-clause-refused : goal.returns-in_err-put_moved_within-clause-refused
returns-in_err-put_moved_within-clause-refused c =
    let p = err_from_is_err_and c.from_residual-in_err-put_moved_within.result c.from_residual-in_err-put_moved_within.ensures.1 in
    rw (p.1, p.2) (elim c.in_err-put_moved_within.ensures.refused [
      | inl memory ↦ inl memory
      | inr past ↦ inr (ap unless_past_limit (past_here c.args.tree.now.files c.args.from.now c.args.to.now c.loop-index.index (c.file_at.result.0.now, c.file_at.result.1.now) c.file_at.ensures c.loop-index.invariant.fits past.0) ∙ ap Refused (sym past.1))
    ])

pub loop-index-preserved : goal.loop-index-preserved
loop-index-preserved c =
    let files = c.args.tree.now.files in
    let from = c.args.from.now in
    let to = c.args.to.now in
    record {
      files =
          c.in_ok-put_moved_within.ensures.files
          ∙ ap (λ es. if is_within c.file_at.result.0.now from then put_file es (moved from to c.file_at.result.0.now) c.file_at.result.1.now else es) c.loop-index.invariant.files
          ∙ moved_next files from to c.loop-index.index (c.file_at.result.0.now, c.file_at.result.1.now) (without (without files from) to) c.file_at.ensures;
      fits = past_next files from to c.loop-index.index (c.file_at.result.0.now, c.file_at.result.1.now) c.file_at.ensures c.loop-index.invariant.fits c.in_ok-put_moved_within.ensures.fits;
    }

pub returns-clause-fits : goal.returns-clause-fits
returns-clause-fits c = ap unless_past_limit (past_none c.args.tree.now.files c.args.from.now c.args.to.now c.loop-index.index (omega arith) c.loop-index.invariant.fits)
