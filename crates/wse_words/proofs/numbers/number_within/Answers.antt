use Rattle.std.proofs.Common.{sym, rules}
use Rattle.wse_words.proofs.NumberLemmas.{too_big}
use Rattle.wse_words.proofs.numbers.number_within.Goals as goal

pub returns-in-Err-clause-number : goal.returns-in-Err-clause-number
returns-in-Err-clause-number c = sym (too_big c.args.least c.args.most c.args.word.now (search rules) c.ranges.most.fits c.in-Err.ensures.value)
