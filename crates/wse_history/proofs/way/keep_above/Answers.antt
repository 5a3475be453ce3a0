use Rattle.std.proofs.Common.{◌||◌, sym, ap, ◌∙◌}
use Rattle.std.specs.BTreeSet.{contains}
use Rattle.std.specs.Ordering.{eq_by_cmp}
use Rattle.std.proofs.lemmas.Result.{on_ok_weaker}
use Rattle.wse_path.specs.Path.{Path}
use Rattle.wse_path.specs.Order.{path_cmp}
use Rattle.wse_history.proofs.NearLemmas.{above_some, above_no}
use Rattle.wse_history.proofs.way.keep_above.Goals as goal

pub returns-in_ok-duplicate-in-Some : goal.returns-in_ok-duplicate-in-Some
returns-in_ok-duplicate-in-Some c =
    let files = c.args.tree.now.files in
    on_ok_weaker c.keep.result
    (λ h q.
    h q
    ∙ ap (λ (x : Path). eq_by_cmp path_cmp x q || contains path_cmp c.args.found.now q) c.in_ok-duplicate-in-Some.ensures
    ∙ ap (λ b. b || contains path_cmp c.args.found.now q) (above_some files c.args.path.now c.in-Some.file.now q c.args.tree.now.is_tree (sym c.in-Some.ensures)))
    c.keep.ensures

pub returns-in-None : goal.returns-in-None
returns-in-None c = λ q. sym (ap (λ b. b || contains path_cmp c.args.found.now q) (above_no c.args.tree.now.files c.args.path.now q (sym c.in-None.ensures)))
