use Rattle.std.proofs.Common.{arith}
use Rattle.wse_log.proofs.Finds.{too_short}
use Rattle.wse_slow_reader.proofs.RecordLemmas.{record_whole}
use Rattle.wse_slow_reader.proofs.record.record_behind.Goals as goal

pub returns-then-room-lt4-clause-none : goal.returns-then-room-lt4-clause-none
returns-then-room-lt4-clause-none c = too_short c.args.area.now c.args.gate c.requires (omega (arith, c.if-room-lt4.true))

pub returns-clause-some : goal.returns-clause-some
returns-clause-some c = record_whole c.args.area.now c.in_ok-body.body c.args.gate c.number_at-count.result c.number_at-count.ensures c.in_ok-body.ensures (omega arith)
