use Rattle.std.proofs.Common.{sym, ◌∙◌}
use Rattle.wse_slow_reader.proofs.LastLemmas.{last_get}
use Rattle.wse_slow_reader.proofs.finish.last_of.Goals as goal

pub returns : goal.returns
returns c = c.last.ensures.value ∙ sym (last_get c.args.records.now)
