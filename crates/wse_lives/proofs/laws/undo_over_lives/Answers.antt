use Rattle.wse_lives.proofs.BackLemmas as lemmas
use Rattle.wse_lives.proofs.laws.undo_over_lives.Goals as goal

pub returns : goal.returns
returns c = lemmas.undo_over_lives
