use Rattle.std.proofs.Common.{List, ◌||◌, sym, ap, subst, ◌∙◌}
use Rattle.std.specs.List.{list_any}
use Rattle.std.proofs.lemmas.Result.{IfOk-weaker}
use Rattle.wse_path.specs.Path.{Path}
use Rattle.wse_path.specs.Order.{is_named}
use Rattle.wse_element.specs.Live.{is_live_at}
use Rattle.wse_stacks.specs.Paths.{AreLivePaths}
use Rattle.wse_stacks.proofs.PathLemmas.{keys_are_live}
use Rattle.wse_stacks.proofs.paths.live_paths.Goals as goal

pub returns : goal.returns
returns c =
    let records = c.args.entries.now in
    let live =
    keys_are_live records c.put_all.new.found.keys c.len.ensures.ordered
    (λ p. c.in_ok-put_all.ensures p ∙ ap (λ (paths : List Path). is_named paths p || list_any (is_live_at p) records) c.new-found.ensures.empty) in
    IfOk-weaker c.listed.result _ _ (λ files is. subst (AreLivePaths records) (sym is) live) c.listed.ensures
