use Rattle.wse_element.proofs.FallLemmas.{numbers_fall}
use Rattle.wse_element.proofs.laws.only_pushes_weigh.Goals as goal

pub returns : goal.returns
returns c = numbers_fall
