use Rattle.std.proofs.Common.{◌≡◌, ℕ, not, nat_eq, ap, ◌∙◌}
use Rattle.std.specs.Prelude.{filter}
use Rattle.wse_path.specs.Path.{Path}
use Rattle.wse_locks.specs.Locks.{Holders, LocksState, holder}
use Rattle.wse_locks.proofs.LockLemmas.{others_hold}
use Rattle.wse_locks.proofs.locks.Locks.leave.Goals as goal

pub returns : goal.returns
returns c = λ q.
    let is : c.self.inside.map.entries ≡ c.args.self.now.entries = ap (λ (s : LocksState). s.entries) c.self.view_is in
    ap (λ (es : Holders). holder es q) (c.leave_all.ensures ∙ ap (filter (λ (e : Path × ℕ). not (nat_eq e.1 c.args.by))) is)
    ∙ others_hold c.args.self.now.entries c.args.by q c.args.self.now.rises
