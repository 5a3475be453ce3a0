use Rattle.wse_log.proofs.Fresh.{fresh_reads}
use Rattle.wse_log.proofs.laws.a_fresh_journal_reads.Goals as goal

pub returns : goal.returns
returns c = fresh_reads
