use Rattle.wse_disk.proofs.ImageLemmas.{at_rest}
use Rattle.wse_disk.proofs.laws.synced_rests.Goals as goal

pub returns : goal.returns
returns c = λ told stays synced. at_rest told stays synced
