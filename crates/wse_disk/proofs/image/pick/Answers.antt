use Rattle.wse_disk.proofs.PickLemmas.{picks_left}
use Rattle.wse_disk.proofs.image.pick.Goals as goal

pub returns-in-Some : goal.returns-in-Some
returns-in-Some c = picks_left c.args.base c.args.left c.in_ok-tree.field-0 c.in-Some.tree c.in-Some.is c.in_ok-tree.ensures
