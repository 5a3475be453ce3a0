use Rattle.std.proofs.Common.{Result, Ok, Err, OnOk, OnErr, sym, ap, subst, ◌∙◌}
use Rattle.wse_path.specs.Tree.{Entries, put_file, HasRoom, IsTree}
use Rattle.wse_overlay.specs.Overlay.{OverlayState, shown}
use Rattle.wse_path.proofs.TreeLemmas.{tree_put}
use Rattle.wse_overlay.proofs.ShownLemmas.{shown_put}
use Rattle.wse_overlay.proofs.overlay.Overlay.put.Goals as goal

either : {T E A B C : Type 0} (r : Result T E) → OnOk r A → OnErr r B → (A → C) → (B → C) → C
either (Ok x) a b f g = f a
either (Err e) a b f g = g b

pub invariant_of-self-inside : goal.invariant_of-self-inside
invariant_of-self-inside g c =
    let gone = c.self.inside.gone.keys in
    let put = c.self.inside.put.entries in
    let new = c.insert.new.self.entries in
    let base = (g.C.Contents.files c.self.inside.below.now) in
    let files = ap (λ (o : OverlayState). o.files) c.self.view_is in
    let room = subst (λ (es : Entries). HasRoom es c.args.path) (sym files) c.requires in (
      either c.insert.result c.insert.ensures.updates c.insert.ensures.err
          (λ up. subst IsTree (sym (shown_put gone put new base c.args.path c.args.bytes (g.met.C.Contents.is_tree c.self.inside.below.now).rises up.0)) (tree_put (shown gone put base) c.args.path c.args.bytes c.self.inside.is_tree room))
          (λ same. subst (λ (es : Entries). IsTree (shown gone es base)) (sym same) c.self.inside.is_tree),
      tt,
    )

pub returns-clause-files : goal.returns-clause-files
returns-clause-files g c =
    shown_put c.self.inside.gone.keys c.self.inside.put.entries c.insert.new.self.entries (g.C.Contents.files c.self.inside.below.now) c.args.path c.args.bytes (g.met.C.Contents.is_tree c.self.inside.below.now).rises c.in_ok-insert.ensures.updates.0
    ∙ ap (λ (o : OverlayState). put_file o.files c.args.path c.args.bytes) c.self.view_is
