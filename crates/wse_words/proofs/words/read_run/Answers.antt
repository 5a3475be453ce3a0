use Rattle.std.proofs.Common.{sym, string_bytes}
use Rattle.wse_words.proofs.WordLemmas.{few_run}
use Rattle.wse_words.proofs.words.read_run.Goals as goal

pub returns-in_default-clause-asked : goal.returns-in_default-clause-asked
returns-in_default-clause-asked c = sym (few_run (λ w. string_bytes w) c.args.words.now c.in_default.len_below)
