use Rattle.std.proofs.Common.{ℕ, List, Option, ap, ◌∙◌}
use Rattle.std.specs.List.{flat_map}
use Rattle.std.proofs.lemmas.Result.{IfOk-weaker}
use Rattle.wse_path.specs.Path.{Path}
use Rattle.wse_path.specs.Changes.{change_to, changes_between}
use Rattle.wse_overlay.specs.Overlay.{OverlayState}
use Rattle.wse_overlay.proofs.MergedLemmas.{changes_shown}
use Rattle.wse_overlay.proofs.overlay.Overlay.into_changes.Goals as goal

pub returns : goal.returns
returns g c =
    let base = (g.C.Contents.files c.self.inside.below.now) in
    IfOk-weaker c.changes_to.result _ _
    (λ changes h. h
    ∙ ap (λ (es : List (Path × Option (List ℕ))). flat_map (change_to base) es) c.in_ok-new_contents.ensures.contents
    ∙ changes_shown c.self.inside.gone.keys c.self.inside.put.entries base (g.met.C.Contents.is_tree c.self.inside.below.now).rises c.in_ok-new_contents.ensures.rises
    ∙ ap (λ (o : OverlayState). changes_between o.base o.files) c.self.view_is)
    c.changes_to.ensures
