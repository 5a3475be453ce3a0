use Rattle.std.proofs.Common.{sym, ap, ◌∙◌}
use Rattle.wse_path.specs.Tree.{Entries}
use Rattle.wse_path.specs.Changes.{erased_at}
use Rattle.wse_apply.proofs.StepLemmas.{erased_next}
use Rattle.wse_apply.proofs.accept.erase_all.Goals as goal

pub loop-change-preserved : goal.loop-change-preserved
loop-change-preserved c =
    let d = c.change-item.result in
    record {
      files =
          c.in_ok-erase.ensures.files
          ∙ ap (λ (es : Entries). erased_at d.path d.after es) c.loop-change.invariant.files
          ∙ sym (erased_next c.args.changes.now c.loop-change.change-index d c.args.overlay.now.files c.loop-change-test.true c.change-item.is);
      base = c.erase.ensures.base ∙ c.loop-change.invariant.base;
    }
