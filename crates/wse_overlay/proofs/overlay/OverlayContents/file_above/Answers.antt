use Rattle.std.proofs.Common.{Option, sym, ap, ◌∙◌}
use Rattle.std.specs.Option.{option_or}
use Rattle.wse_path.specs.Path.{Path}
use Rattle.wse_path.specs.Tree.{file_above}
use Rattle.wse_overlay.specs.Overlay.{OverlayState, kept}
use Rattle.wse_overlay.proofs.ShownLemmas.{apart_put, above_over}
use Rattle.wse_overlay.proofs.overlay.OverlayContents.file_above.Goals as goal

pub put_above-requires : goal.put_above-requires
put_above-requires g c = apart_put c.self.inside.put.entries (kept c.self.inside.gone.keys (g.C.Contents.files c.self.inside.below.now)) c.self.inside.is_tree.apart

pub returns-in-Some : goal.returns-in-Some
returns-in-Some g c =
    let put = c.self.inside.put.entries in
    let left = kept c.self.inside.gone.keys (g.C.Contents.files c.self.inside.below.now) in
    let p = c.args.path.now in
    sym (above_over put left p c.self.inside.is_tree.apart ∙ ap (λ (o : Option Path). option_or o (file_above left p)) (sym c.in-Some.ensures))
    ∙ ap (λ (o : OverlayState). file_above o.files p) c.self.view_is

pub returns-in-None : goal.returns-in-None
returns-in-None g c =
    let put = c.self.inside.put.entries in
    let left = kept c.self.inside.gone.keys (g.C.Contents.files c.self.inside.below.now) in
    let p = c.args.path.now in
    c.kept_above.ensures
    ∙ sym (above_over put left p c.self.inside.is_tree.apart ∙ ap (λ (o : Option Path). option_or o (file_above left p)) (sym c.in-None.ensures))
    ∙ ap (λ (o : OverlayState). file_above o.files p) c.self.view_is
