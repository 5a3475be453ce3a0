use Rattle.std.proofs.Common.{◌||◌, sym, ap, ◌∙◌}
use Rattle.std.proofs.lemmas.Result.{IfOk-weaker}
use Rattle.wse_path.specs.Tree.{is_folder}
use Rattle.wse_overlay.specs.Overlay.{OverlayState, kept}
use Rattle.wse_overlay.proofs.ShownLemmas.{folder_over}
use Rattle.wse_overlay.proofs.overlay.OverlayContents.is_folder.Goals as goal

pub returns-then-put_under : goal.returns-then-put_under
returns-then-put_under g c =
    let left = kept c.self.inside.gone.keys (g.C.Contents.files c.self.inside.below.now) in
    let p = c.args.path.now in
    sym (folder_over c.self.inside.put.entries left p ∙ ap (λ b. b || is_folder left p) (sym c.put_under.ensures ∙ c.if-put_under.true))
    ∙ ap (λ (o : OverlayState). is_folder o.files p) c.self.view_is

pub returns : goal.returns
returns g c =
    let left = kept c.self.inside.gone.keys (g.C.Contents.files c.self.inside.below.now) in
    let p = c.args.path.now in
    IfOk-weaker c.kept_under.result _ _
    (λ holds h. h
    ∙ sym (folder_over c.self.inside.put.entries left p ∙ ap (λ b. b || is_folder left p) (sym c.put_under.ensures ∙ c.if-put_under.false))
    ∙ ap (λ (o : OverlayState). is_folder o.files p) c.self.view_is)
    c.kept_under.ensures
