use Rattle.std.proofs.Common.{ℕ, List, Some, ap, ◌∙◌}
use Rattle.wse_path.specs.Tree.{content}
use Rattle.wse_overlay.specs.Overlay.{OverlayState}
use Rattle.wse_overlay.proofs.ShownLemmas.{put_shows, kept_shows}
use Rattle.wse_overlay.proofs.overlay.OverlayContents.get.Goals as goal

pub returns-in-Some : goal.returns-in-Some
returns-in-Some g c =
    ap (λ (b : List ℕ). Some b) c.as_slice.ensures
    ∙ put_shows c.self.inside.gone.keys c.self.inside.put.entries (g.C.Contents.files c.self.inside.below.now) c.args.path.now c.in-Some.bytes.now c.in-Some.ensures.value
    ∙ ap (λ (o : OverlayState). content o.files c.args.path.now) c.self.view_is

pub returns-in-None : goal.returns-in-None
returns-in-None g c =
    c.kept_bytes.ensures
    ∙ kept_shows c.self.inside.gone.keys c.self.inside.put.entries (g.C.Contents.files c.self.inside.below.now) c.args.path.now c.in-None.ensures.value
    ∙ ap (λ (o : OverlayState). content o.files c.args.path.now) c.self.view_is
