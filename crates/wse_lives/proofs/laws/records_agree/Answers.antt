use Rattle.wse_element.specs.Stacks.{live_at}
use Rattle.wse_lives.proofs.AgreeLemmas.{life_agrees, none_came}
use Rattle.wse_lives.proofs.laws.records_agree.Goals as goal

pub returns : goal.returns
returns c = λ start life is p. life_agrees start life p is (none_came start p (live_at start.records p))
