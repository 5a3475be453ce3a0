use Rattle.std.proofs.Common.{sym, ap, ◌∙◌}
use Rattle.wse_path.specs.Tree.{Entries, remove_file}
use Rattle.wse_resource.proofs.OverLemmas.{removed_more}
use Rattle.wse_resource.proofs.over.remove_all.Goals as goal

pub loop-path-preserved : goal.loop-path-preserved
loop-path-preserved g c =
    let p = c.path-item.result in
    record {
      files =
          c.in_ok-remove.ensures.files
          ∙ ap (λ (es : Entries). remove_file es p) c.loop-path.invariant.files
          ∙ sym (removed_more c.args.paths.now c.loop-path.path-index p c.args.overlay.now.files c.loop-path-test.true c.path-item.is);
      base = c.remove.ensures.base ∙ c.loop-path.invariant.base;
    }
