use Rattle.std.proofs.Common.{ℕ, subst}
use Rattle.std.specs.Prelude.{Option}
use Rattle.wse_log.specs.Found.{ReadsHeader}
use Rattle.wse_log.proofs.Finds.{gives_fault}
use Rattle.wse_log.proofs.piece.scan_first.Goals as goal

pub returns-in-Some-clause-piece : goal.returns-in-Some-clause-piece
returns-in-Some-clause-piece g c =
    let told = g.D.Disk.told c.args.disk.now in
    gives_fault c.args.area c.args.len told c.in-Some.at (subst (λ (found : Option ℕ). ReadsHeader told c.args.area found) c.in-Some.is c.in_ok-at.ensures.reads)
