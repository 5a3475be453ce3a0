use Rattle.std.proofs.Common.{◌≡◌, ◌++◌, ◌<◌, List, [], ℕ, ap, sym, subst, ◌∙◌, map, drop, get_or, length, append-nil}
use Rattle.std.proofs.lemmas.List.{drop_all}
use Rattle.wse_path.specs.Path.{Path, is_under}
use Rattle.wse_path.specs.Tree.{paths_under}
use Rattle.wse_path.proofs.UnderLemmas.{none_from, under_of_behind}
use Rattle.wse_path.proofs.tree.Tree.under.Goals as goal
use Rattle.wse_path.proofs.tree.Tree.under.Goals.{else-loop-entry-test, then-loop-entry-test+then-not-is_under}

pub returns : goal.returns
returns c =
    let all = c.behind-entry-items.result.now in
    let is = c.behind-entry-items.ensures in
    let p = c.args.path.now in
    let i = c.loop-entry.entry-index in
    let rest : paths_under (drop i all) p ≡ [] = elim c.loop-entry-test.branch [
      | else-loop-entry-test w ↦ ap (λ es. paths_under es p) (drop_all i all w.loop-entry-test.false)
      | then-loop-entry-test+then-not-is_under w ↦
          let e = w.entry-item.result in
          let read = w.entry-item.is ∙ ap (λ es. get_or es i e) is in
          ap (λ es. paths_under (drop i es) p) is
          ∙ ap (map (λ x. x.0)) (none_from p c.args.self.now.files i e c.args.self.now.is_tree.rises (subst (λ es. i < length es) is w.loop-entry-test.true) (ap (λ (x : Path × List ℕ). is_under x.0 p) (sym read) ∙ sym w.is_under.ensures ∙ w.if-not-is_under.true))
    ] in
    c.new.ensures ∙ sym (append-nil c.loop-entry.paths.items) ∙ ap (λ ps. c.loop-entry.paths.items ++ ps) (sym rest) ∙ sym c.loop-entry.invariant
    ∙ ap (λ es. paths_under es p) is ∙ ap (map (λ e. e.0)) (under_of_behind p c.args.self.now.files)
