use Rattle.std.proofs.Common.{◌≡◌, ◌++◌, ◌∷◌, [], List, ◌&&◌, None, IfOk, take, cond, sym, ap, subst, ◌∙◌}
use Rattle.std.proofs.lemmas.List.{take_all, take_more}
use Rattle.std.specs.Ordering.{eq_by_cmp}
use Rattle.wse_path.specs.Order.{path_cmp, is_named}
use Rattle.wse_path.specs.Path.{Path}
use Rattle.wse_locks.specs.Locks.{holder, is_held}
use Rattle.wse_locks.proofs.LockLemmas.{also_where, held_is, named_more}
use Rattle.wse_locks.proofs.locks.Locks.held.Goals as goal

pub returns : goal.returns
returns c =
    let entries = c.args.self.now.entries in
    let by = c.args.by in
    let files = c.args.files.now in
    let others = c.loop-file.others.entries in
    let whole : take c.loop-file.file-index files ≡ files = take_all c.loop-file.file-index files c.loop-file-test.false in
    let answers = λ (q : Path). c.loop-file.invariant q ∙ ap (λ (fs : List Path). cond (is_named fs q && is_held entries by q) (holder entries q) None) whole in
    subst (λ (ps : List Path). IfOk c.paths.result (λ paths. paths ≡ ps))
    (held_is others entries by files c.loop-file.others.rises c.args.self.now.rises answers)
    c.paths.ensures

pub loop-file-preserved : goal.loop-file-preserved
loop-file-preserved c = λ q.
    let entries = c.args.self.now.entries in
    let by = c.args.by in
    let files = c.args.files.now in
    let i = c.loop-file.file-index in
    let file = c.file-item.result in
    c.in_ok-note_held.ensures q
    ∙ ap (λ o. cond (is_named (file ∷ []) q && is_held entries by q) (holder entries q) o) (c.loop-file.invariant q)
    ∙ also_where (is_named (take i files) q) (eq_by_cmp path_cmp q file) (is_held entries by q) (holder entries q) None
    ∙ ap (λ b. cond (b && is_held entries by q) (holder entries q) None) (sym (named_more (take i files) file q))
    ∙ ap (λ (fs : List Path). cond (is_named fs q && is_held entries by q) (holder entries q) None) (ap (λ (f : Path). take i files ++ f ∷ []) c.file-item.is ∙ sym (take_more files i file c.loop-file-test.true))
