use Rattle.std.proofs.Common.{ap}
use Rattle.wse_io.specs.Mem.{pieces_in}
use Rattle.wse_io.proofs.mem.MemSink.new.Goals as goal

pub returns-clause-pieces : goal.returns-clause-pieces
unfolding pieces_in
returns-clause-pieces c = ap (λ marks. pieces_in marks c.new.result.items) c.new-2.ensures.items
