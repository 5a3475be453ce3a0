use Rattle.std.proofs.Common.{arith}
use Rattle.wse_codec.proofs.ShortLemmas.{record_row_short, effects_count_short}
use Rattle.wse_codec.proofs.records.write_record.Goals as goal

pub overflow_cast-effects : goal.overflow_cast-effects
overflow_cast-effects c = omega (arith, effects_count_short c.args.effects.now (record_row_short c.args.effects.now c.requires.short))

pub put_effects-requires-clause-short : goal.put_effects-requires-clause-short
put_effects-requires-clause-short c = record_row_short c.args.effects.now c.requires.short

pub returns-clause-allowed : goal.returns-clause-allowed
returns-clause-allowed c = record {
  some = c.requires.some;
  count = effects_count_short c.args.effects.now (record_row_short c.args.effects.now c.requires.short);
  each = c.in_ok-put_effects.ensures.allowed;
}
