use Rattle.std.proofs.Common.{sym, string_bytes}
use Rattle.wse_words.proofs.WordLemmas.{many_options}
use Rattle.wse_words.proofs.behind_root.read_options.Goals as goal

pub returns-in_default : goal.returns-in_default
returns-in_default c = sym (many_options (λ w. string_bytes w) c.args.words.now c.in_default.len_at_least)
