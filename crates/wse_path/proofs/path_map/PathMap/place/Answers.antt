use Rattle.wse_path.proofs.MergeLemmas.{before_place, before_gap}
use Rattle.wse_path.proofs.PathOrder.{total}
use Rattle.wse_path.proofs.path_map.PathMap.place.Goals as goal

pub returns-in-Ok-clause-before : goal.returns-in-Ok-clause-before
returns-in-Ok-clause-before g c = before_place total c.args.self.now.entries c.args.path.now c.in-Ok.at c.args.self.now.rises c.in-Ok.ensures.found.0 c.in-Ok.ensures.found.1

pub returns-in-Err-clause-before : goal.returns-in-Err-clause-before
returns-in-Err-clause-before g c = before_gap total c.args.self.now.entries c.args.path.now c.in-Err.at c.in-Err.ensures.absent
