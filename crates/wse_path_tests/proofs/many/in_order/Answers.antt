use Rattle.wse_path.proofs.PutLemmas.{sorted_ordered}
use Rattle.wse_path_tests.proofs.many.in_order.Goals as goal

pub returns-in_err-push-clause-rises : goal.returns-in_err-push-clause-rises
returns-in_err-push-clause-rises c = sorted_ordered c.args.raises.entries c.into_iter-path-iterator.ensures.into_iter_gives.5

pub returns-clause-rises : goal.returns-clause-rises
returns-clause-rises c = sorted_ordered c.args.raises.entries c.into_iter-path-iterator.ensures.into_iter_gives.5
