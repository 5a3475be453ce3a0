use Rattle.wse_log.proofs.OneReading.{one_reading}
use Rattle.wse_log.proofs.EachReads.{each_reads}
use Rattle.wse_log.proofs.laws.an_area_reads_in_one_way.Goals as goal

pub returns : goal.returns
returns c = record { reads = each_reads; once = λ area records others ending other is also. one_reading area records others ending other is also }
