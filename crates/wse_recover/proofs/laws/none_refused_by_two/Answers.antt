use Rattle.wse_recover.proofs.KeepLemmas.{refused_by_two}
use Rattle.wse_recover.proofs.laws.none_refused_by_two.Goals as goal

pub returns : goal.returns
returns c = refused_by_two
