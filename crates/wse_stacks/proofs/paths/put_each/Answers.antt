use Rattle.std.specs.BTreeSet.{contains}
use Rattle.wse_path.specs.Order.{path_cmp}
use Rattle.wse_element.specs.Live.{is_live_part_at}
use Rattle.wse_stacks.proofs.PathLemmas.{any_step}
use Rattle.wse_stacks.proofs.paths.put_each.Goals as goal

pub loop-part-preserved : goal.loop-part-preserved
loop-part-preserved c = λ p.
    any_step (is_live_part_at p) c.args.parts.now c.loop-part.part-index c.part-item.result (contains path_cmp c.loop-part.found p) (contains path_cmp c.put_live.new.found p) (contains path_cmp c.args.found.now p) c.loop-part-test.true c.part-item.is (c.in_ok-put_live.ensures p) (c.loop-part.invariant p)
