use Rattle.std.proofs.Common.{◌≡◌, ℕ, List, [], Some, None, cond, suc, get_or, ap, sym, ◌∙◌, arith, ◌-◌, subst}
use Rattle.std.specs.Prelude.{is_some}
use Rattle.wse_path.specs.Path.{Path, is_under}
use Rattle.wse_path.specs.Order.{path_cmp}
use Rattle.wse_path.specs.Place.{IsGapAt}
use Rattle.wse_path.specs.Tree.{Entries, TreeState, file_above}
use Rattle.wse_path.proofs.EntryLemmas.{find_at}
use Rattle.wse_path.proofs.PathOrder.{total}
use Rattle.wse_path.proofs.TreeLemmas.{above_before, none_above_one, none_above_first}
use Rattle.wse_path.proofs.tree.Tree.file_above.Goals as goal

pub returns-in-Ok : goal.returns-in-Ok
returns-in-Ok c =
    let files = c.self.inside.map.entries in
    let is : files ≡ c.args.self.now.files = ap (λ (t : TreeState). t.files) c.self.view_is in
    let found = find_at total files c.args.path.now c.in-Ok.field-0 (c.args.path.now, []) c.self.inside.map.rises c.in-Ok.ensures.found.0 (c.in-Ok.ensures.found.1 _) in
    sym (none_above_one files c.args.path.now c.self.inside.is_tree (ap is_some found)) ∙ ap (λ (es : Entries). file_above es c.args.path.now) is

pub returns-in-Err-eq0 : goal.returns-in-Err-eq0
returns-in-Err-eq0 c =
    let files = c.self.inside.map.entries in
    let is : files ≡ c.args.self.now.files = ap (λ (t : TreeState). t.files) c.self.view_is in
    sym (none_above_first files c.args.path.now (subst (IsGapAt path_cmp files c.args.path.now) (omega (arith, c.in-Err-eq0.field-0-test)) c.in-Err-eq0.ensures.absent))
    ∙ ap (λ (es : Entries). file_above es c.args.path.now) is

pub returns-then-is_under : goal.returns-then-is_under
returns-then-is_under c =
    let files = c.self.inside.map.entries in
    let is : files ≡ c.args.self.now.files = ap (λ (t : TreeState). t.files) c.self.view_is in
    let before = get_or c.as_slice-entries.result.now (c.in-Err.at - 1) c.index-entries-at.result in
    let read : before ≡ get_or files (c.in-Err.at - 1) c.index-entries-at.result = ap (λ (es : Entries). get_or es (c.in-Err.at - 1) c.index-entries-at.result) c.as_slice-entries.ensures in
    let gap : IsGapAt path_cmp files c.args.path.now (suc (c.in-Err.at - 1)) = subst (IsGapAt path_cmp files c.args.path.now) (omega arith) c.in-Err.ensures.absent in
    ap (λ b. cond b (Some before.0) None) (sym c.if-is_under.true ∙ c.is_under.ensures)
    ∙ ap (λ (e : Path × List ℕ). cond (is_under c.args.path.now e.0) (Some e.0) None) read
    ∙ sym (above_before files c.args.path.now (c.in-Err.at - 1) c.index-entries-at.result c.self.inside.is_tree gap)
    ∙ ap (λ (es : Entries). file_above es c.args.path.now) is

pub returns-else-is_under : goal.returns-else-is_under
returns-else-is_under c =
    let files = c.self.inside.map.entries in
    let is : files ≡ c.args.self.now.files = ap (λ (t : TreeState). t.files) c.self.view_is in
    let before = get_or c.as_slice-entries.result.now (c.in-Err.at - 1) c.index-entries-at.result in
    let read : before ≡ get_or files (c.in-Err.at - 1) c.index-entries-at.result = ap (λ (es : Entries). get_or es (c.in-Err.at - 1) c.index-entries-at.result) c.as_slice-entries.ensures in
    let gap : IsGapAt path_cmp files c.args.path.now (suc (c.in-Err.at - 1)) = subst (IsGapAt path_cmp files c.args.path.now) (omega arith) c.in-Err.ensures.absent in
    ap (λ b. cond b (Some before.0) None) (sym c.if-is_under.false ∙ c.is_under.ensures)
    ∙ ap (λ (e : Path × List ℕ). cond (is_under c.args.path.now e.0) (Some e.0) None) read
    ∙ sym (above_before files c.args.path.now (c.in-Err.at - 1) c.index-entries-at.result c.self.inside.is_tree gap)
    ∙ ap (λ (es : Entries). file_above es c.args.path.now) is
