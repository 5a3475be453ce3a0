use Rattle.wse_codec.proofs.SpellingLemmas.{one_spelling}
use Rattle.wse_codec.proofs.laws.one_spelling.Goals as goal

pub returns : goal.returns
returns c = one_spelling
