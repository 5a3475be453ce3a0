use Rattle.std.proofs.Common.{List, None, ◌++◌, ◌∷◌, [], take, cond, sym, ap, ◌∙◌}
use Rattle.std.proofs.lemmas.List.{take_more}
use Rattle.std.specs.Ordering.{eq_by_cmp}
use Rattle.wse_path.specs.Order.{path_cmp, is_named}
use Rattle.wse_path.specs.Path.{Path}
use Rattle.wse_path.proofs.MergeLemmas.{value_set}
use Rattle.wse_locks.specs.Locks.{Holders, holder}
use Rattle.wse_locks.proofs.LockLemmas.{also, named_more}
use Rattle.wse_locks.proofs.locks.free_all.Goals as goal

pub loop-file-preserved : goal.loop-file-preserved
loop-file-preserved c = λ q.
    let files = c.args.files.now in
    let i = c.loop-file.file-index in
    let file = c.file-item.result in
    let old = holder c.args.map.now.entries q in
    ap (λ (es : Holders). holder es q) c.remove.ensures.entries
    ∙ value_set c.loop-file.map.entries file None q
    ∙ ap (λ o. cond (eq_by_cmp path_cmp q file) None o) (c.loop-file.invariant q)
    ∙ also (is_named (take i files) q) (eq_by_cmp path_cmp q file) None old
    ∙ ap (λ b. cond b None old) (sym (named_more (take i files) file q))
    ∙ ap (λ (fs : List Path). cond (is_named fs q) None old) (ap (λ (f : Path). take i files ++ f ∷ []) c.file-item.is ∙ sym (take_more files i file c.loop-file-test.true))
