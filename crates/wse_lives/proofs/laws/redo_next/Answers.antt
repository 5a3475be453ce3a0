use Rattle.wse_lives.proofs.AgainLemmas as lemmas
use Rattle.wse_lives.proofs.laws.redo_next.Goals as goal

pub returns : goal.returns
returns c = lemmas.redo_next
