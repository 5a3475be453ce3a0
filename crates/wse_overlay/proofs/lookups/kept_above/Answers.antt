use Rattle.std.proofs.Common.{Some, None, cond, sym, ap, ◌∙◌}
use Rattle.wse_overlay.proofs.ShownLemmas.{above_kept, above_kept_none}
use Rattle.wse_overlay.proofs.lookups.kept_above.Goals as goal

pub returns-then-contains : goal.returns-then-contains
returns-then-contains g c =
    sym (above_kept c.args.gone.now.keys (g.C.Contents.files c.args.below.now) c.args.path.now c.in-Some.file.now (g.met.C.Contents.is_tree c.args.below.now).apart (sym c.in-Some.ensures)
    ∙ ap (λ b. cond b None (Some c.in-Some.file.now)) (sym c.contains.ensures ∙ c.if-contains.true))

pub returns-else-contains : goal.returns-else-contains
returns-else-contains g c =
    sym (above_kept c.args.gone.now.keys (g.C.Contents.files c.args.below.now) c.args.path.now c.in-Some.file.now (g.met.C.Contents.is_tree c.args.below.now).apart (sym c.in-Some.ensures)
    ∙ ap (λ b. cond b None (Some c.in-Some.file.now)) (sym c.contains.ensures ∙ c.if-contains.false))

pub returns-in-None : goal.returns-in-None
returns-in-None g c = sym (above_kept_none c.args.gone.now.keys (g.C.Contents.files c.args.below.now) c.args.path.now (sym c.in-None.ensures))
