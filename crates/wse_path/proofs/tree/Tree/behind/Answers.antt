use Rattle.std.proofs.Common.{◌≡◌, ◌+◌, suc, [], drop, ap, sym, ◌∙◌, take_all, arith}
use Rattle.std.proofs.lemmas.List.{length-drop}
use Rattle.wse_path.specs.Tree.{Entries, TreeState, entries_behind}
use Rattle.wse_path.proofs.EntryLemmas.{behind_at, behind_gap}
use Rattle.wse_path.proofs.PathOrder.{total}
use Rattle.wse_path.proofs.tree.Tree.behind.Goals as goal

pub returns-in-Ok : goal.returns-in-Ok
returns-in-Ok c =
    let files = c.self.inside.map.entries in
    let is : files ≡ c.args.self.now.files = ap (λ (t : TreeState). t.files) c.self.view_is in
    let next : c.in-Ok.at + 1 ≡ suc c.in-Ok.at = omega arith in
    take_all _ (drop (c.in-Ok.at + 1) c.as_slice-entries.result.now) (omega (arith, length-drop (c.in-Ok.at + 1) c.as_slice-entries.result.now))
    ∙ ap (drop (c.in-Ok.at + 1)) c.as_slice-entries.ensures
    ∙ ap (λ n. drop n files) next
    ∙ sym (behind_at total files c.args.path.now c.in-Ok.at _ c.self.inside.map.rises c.in-Ok.ensures.found.0 (c.in-Ok.ensures.found.1 ([], [])))
    ∙ ap (λ (es : Entries). entries_behind es c.args.path.now) is

pub returns-in-Err : goal.returns-in-Err
returns-in-Err c =
    let files = c.self.inside.map.entries in
    let is : files ≡ c.args.self.now.files = ap (λ (t : TreeState). t.files) c.self.view_is in
    take_all _ (drop c.in-Err.at c.as_slice-entries.result.now) (omega (arith, length-drop c.in-Err.at c.as_slice-entries.result.now))
    ∙ ap (drop c.in-Err.at) c.as_slice-entries.ensures
    ∙ sym (behind_gap total files c.args.path.now c.in-Err.at c.in-Err.ensures.absent)
    ∙ ap (λ (es : Entries). entries_behind es c.args.path.now) is
