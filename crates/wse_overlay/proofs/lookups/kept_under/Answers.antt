use Rattle.std.proofs.Common.{ℕ, List, length, not, nat_eq, ap, ◌∙◌}
use Rattle.wse_path.specs.Path.{Path}
use Rattle.wse_overlay.specs.Overlay.{kept}
use Rattle.wse_overlay.proofs.ShownLemmas.{folder_paths}
use Rattle.wse_overlay.proofs.lookups.kept_under.Goals as goal

pub returns : goal.returns
returns g c =
    ap not (c.is_empty.ensures ∙ ap (λ (n : ℕ). nat_eq n 0) c.in_ok-left.left.ok.0 ∙ ap (λ (ps : List Path). nat_eq (length ps) 0) c.in_ok-left.ensures)
    ∙ folder_paths (kept c.args.gone.now.keys (g.C.Contents.files c.args.below.now)) c.args.path.now
