use Rattle.std.proofs.Common.{◌≡◌, ◌∷◌, [], length, true, is_ok, ap, ◌∙◌, arith, length-append}
use Rattle.std.specs.FinMap.{is_sorted}
use Rattle.wse_path.specs.Order.{path_cmp}
use Rattle.wse_path.specs.Place.{all_before}
use Rattle.wse_disk.specs.Lazy.{LazyState}
use Rattle.wse_disk.proofs.LazyLemmas.{rises_push, tree_push, files_push}
use Rattle.wse_disk.proofs.lazy.LazyTree.push.Goals as goal

pub invariant_of-self-inside-2 : goal.invariant_of-self-inside-2
invariant_of-self-inside-2 c =
    let old = c.self.inside in
    let files = ap (λ (s : LazyState). s.files) c.self.view_is in
    (tree_push (is_ok c.push.result) old.changes.items c.push.new.self.items c.args.path c.args.content old.tree.files c.reserve.new.self.files c.args.self.now.files old.is_tree files c.requires.tree c.reserve.ensures.same c.push.ensures.items, tt)

pub invariant_of-self-2 : goal.invariant_of-self-2
invariant_of-self-2 c =
    let old = c.self.inside in
    let items = c.in_ok-push.ensures.items in
    let before : all_before path_cmp old.changes.items c.args.path ≡ true = ap (λ (s : LazyState). all_before path_cmp s.changes c.args.path) c.self.view_is ∙ c.requires.before in
    let longer = ap length items ∙ length-append old.changes.items ((c.args.path, c.args.content) ∷ []) in
    let rises = ap (is_sorted path_cmp) items ∙ rises_push old.changes.items c.args.path c.args.content c.self.invariant.0 before in
    (rises, omega (arith, longer, c.in_ok-reserve.ensures.room, c.len.ensures))

pub returns-clause-ok : goal.returns-clause-ok
returns-clause-ok c =
    let old = c.self.inside in
    let files = ap (λ (s : LazyState). s.files) c.self.view_is in
    files_push old.changes.items c.push.new.self.items c.args.path c.args.content old.tree.files c.reserve.new.self.files c.args.self.now.files files c.reserve.ensures.same c.in_ok-push.ensures.items
