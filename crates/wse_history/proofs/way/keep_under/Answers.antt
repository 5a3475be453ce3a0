use Rattle.std.proofs.Common.{◌||◌, List, ap, ◌∙◌}
use Rattle.std.specs.List.{list_any}
use Rattle.std.specs.BTreeSet.{contains}
use Rattle.std.specs.Ordering.{eq_by_cmp}
use Rattle.std.proofs.lemmas.Result.{on_ok_weaker}
use Rattle.wse_path.specs.Path.{Path}
use Rattle.wse_path.specs.Order.{path_cmp}
use Rattle.wse_history.proofs.NearLemmas.{under_all}
use Rattle.wse_history.proofs.way.keep_under.Goals as goal

pub returns : goal.returns
returns c =
    on_ok_weaker c.keep_all.result
    (λ h q.
    h q
    ∙ ap (λ (ps : List Path). list_any (λ x. eq_by_cmp path_cmp q x) ps || contains path_cmp c.args.found.now q) (c.into_vec.ensures ∙ c.in_ok-under.ensures)
    ∙ ap (λ b. b || contains path_cmp c.args.found.now q) (under_all c.args.tree.now.files c.args.path.now q))
    c.keep_all.ensures
