use Rattle.wse_path.proofs.PutLemmas.{sorted_ordered}
use Rattle.wse_overlay.proofs.difference.put_all.Goals as goal

pub returns-in_err-set-clause-rises : goal.returns-in_err-set-clause-rises
returns-in_err-set-clause-rises c = sorted_ordered c.args.files.entries c.into_iter-path-iterator.ensures.into_iter_gives.5

pub returns-clause-rises : goal.returns-clause-rises
returns-clause-rises c = sorted_ordered c.args.files.entries c.into_iter-path-iterator.ensures.into_iter_gives.5
