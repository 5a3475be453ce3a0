use Rattle.std.proofs.Common.{not, List, ap, ◌∙◌}
use Rattle.std.specs.List.{filter}
use Rattle.wse_path.specs.Path.{Path}
use Rattle.wse_path.specs.Order.{is_named}
use Rattle.wse_overlay.proofs.ShownLemmas.{paths_kept}
use Rattle.wse_overlay.proofs.lookups.kept_paths.Goals as goal

pub returns : goal.returns
returns g c =
    c.in_ok-not_gone.ensures
    ∙ ap (λ (ps : List Path). filter (λ q. not (is_named c.args.gone.now.keys q)) ps) (c.into_vec.ensures ∙ c.in_ok-files.ensures)
    ∙ paths_kept c.args.gone.now.keys (g.C.Contents.files c.args.below.now) c.args.path.now
