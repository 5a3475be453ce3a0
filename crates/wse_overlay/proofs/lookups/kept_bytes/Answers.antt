use Rattle.std.proofs.Common.{None, cond, sym, ap, ◌∙◌}
use Rattle.wse_path.specs.Tree.{content}
use Rattle.wse_overlay.proofs.ShownLemmas.{content_kept}
use Rattle.wse_overlay.proofs.lookups.kept_bytes.Goals as goal

pub returns-then-contains : goal.returns-then-contains
returns-then-contains g c =
    sym (content_kept c.args.gone.now.keys (g.C.Contents.files c.args.below.now) c.args.path.now
    ∙ ap (λ b. cond b None (content (g.C.Contents.files c.args.below.now) c.args.path.now)) (sym c.contains.ensures ∙ c.if-contains.true))

pub returns : goal.returns
returns g c =
    c.get.ensures
    ∙ sym (content_kept c.args.gone.now.keys (g.C.Contents.files c.args.below.now) c.args.path.now
    ∙ ap (λ b. cond b None (content (g.C.Contents.files c.args.below.now) c.args.path.now)) (sym c.contains.ensures ∙ c.if-contains.false))
