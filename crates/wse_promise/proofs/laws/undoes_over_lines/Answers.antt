use Rattle.wse_promise.proofs.BehindLemmas as lemmas
use Rattle.wse_promise.proofs.laws.undoes_over_lines.Goals as goal

pub returns : goal.returns
returns c = lemmas.undoes_over_lines
