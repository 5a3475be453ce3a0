use Rattle.std.proofs.Common.{List, ℕ, sym, subst}
use Rattle.wse_disk.specs.Calls.{ReadsPart}
use Rattle.wse_log.proofs.reads.number_at.Goals as goal

pub returns-clause-reads : goal.returns-clause-reads
returns-clause-reads g c = subst (λ (bytes : List ℕ). ReadsPart (g.D.Disk.told c.args.disk.now) c.args.area c.args.at 4 bytes) (sym c.number_of.ensures) c.in_ok-area_read.ensures.reads
