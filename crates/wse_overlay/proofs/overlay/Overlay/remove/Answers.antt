use Rattle.std.proofs.Common.{List, sym, ap, subst, ◌∙◌}
use Rattle.wse_path.specs.Path.{Path}
use Rattle.wse_path.specs.Tree.{remove_file, IsTree}
use Rattle.wse_overlay.specs.Overlay.{OverlayState, shown}
use Rattle.wse_path.proofs.TreeLemmas.{tree_remove}
use Rattle.wse_overlay.proofs.ShownLemmas.{shown_forgotten}
use Rattle.wse_overlay.proofs.overlay.Overlay.remove.Goals as goal

pub invariant_of-self-inside-in-Break-branch-2 : goal.invariant_of-self-inside-in-Break-branch-2
invariant_of-self-inside-in-Break-branch-2 g c =
    (subst (λ (ks : List Path). IsTree (shown ks c.self.inside.put.entries (g.C.Contents.files c.self.inside.below.now))) (sym c.in_err-insert.ensures.err) c.self.inside.is_tree, tt)

pub invariant_of-self-inside-2 : goal.invariant_of-self-inside-2
invariant_of-self-inside-2 g c =
    let gone = c.self.inside.gone.keys in
    let put = c.self.inside.put.entries in
    let base = (g.C.Contents.files c.self.inside.below.now) in
    let p = c.args.path.now in (
      subst IsTree (sym (shown_forgotten gone c.insert.new.self.keys put c.remove.new.self.entries base c.in_ok-duplicate.field-0 p (g.met.C.Contents.is_tree c.self.inside.below.now).rises c.in_ok-duplicate.ensures c.in_ok-insert.ensures.updates.0 c.remove.ensures.updates.0)) (tree_remove (shown gone put base) p c.self.inside.is_tree),
      tt,
    )

pub returns-clause-files : goal.returns-clause-files
returns-clause-files g c =
    shown_forgotten c.self.inside.gone.keys c.insert.new.self.keys c.self.inside.put.entries c.remove.new.self.entries (g.C.Contents.files c.self.inside.below.now) c.in_ok-duplicate.field-0 c.args.path.now (g.met.C.Contents.is_tree c.self.inside.below.now).rises c.in_ok-duplicate.ensures c.in_ok-insert.ensures.updates.0 c.remove.ensures.updates.0
    ∙ ap (λ (o : OverlayState). remove_file o.files c.args.path.now) c.self.view_is
