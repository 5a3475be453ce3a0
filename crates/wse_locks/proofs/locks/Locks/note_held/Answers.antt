use Rattle.std.proofs.Common.{sym, ap, ◌∙◌, arith}
use Rattle.std.specs.FinMap.Entries.{find-put}
use Rattle.std.proofs.lemmas.Bool.Decides.{nat_tests}
use Rattle.wse_path.specs.Order.{path_cmp}
use Rattle.std.specs.FinMap.{put}
use Rattle.wse_path.specs.Path.{Path}
use Rattle.wse_path.proofs.PathOrder.{total}
use Rattle.wse_locks.specs.Locks.{Holders, holder, is_another}
use Rattle.wse_locks.proofs.LockLemmas.{noted, not_noted}
use Rattle.wse_locks.proofs.locks.Locks.note_held.Goals as goal

pub returns-in_ok-put-in-Some : goal.returns-in_ok-put-in-Some
returns-in_ok-put-in-Some c = λ q.
    ap (λ (es : Holders). holder es q) (c.in_ok-put-in-Some.ensures.ok ∙ ap (λ (p : Path). put path_cmp p c.in-Some.holder c.args.others.now.entries) c.in_ok-duplicate-in-Some.ensures)
    ∙ find-put path_cmp total q c.args.path.now c.in-Some.holder c.args.others.now.entries
    ∙ noted c.args.self.now.entries c.args.others.now.entries c.args.by c.in-Some.holder c.args.path.now q (sym c.in-Some.ensures) (grind (arith, nat_tests))

pub returns-else-holder-by : goal.returns-else-holder-by
returns-else-holder-by c = λ q. not_noted c.args.self.now.entries c.args.others.now.entries c.args.by c.args.path.now q (ap (is_another c.args.by) (sym c.in-Some.ensures) ∙ grind (arith, nat_tests))

pub returns-in-None : goal.returns-in-None
returns-in-None c = λ q. not_noted c.args.self.now.entries c.args.others.now.entries c.args.by c.args.path.now q (ap (is_another c.args.by) (sym c.in-None.ensures))
