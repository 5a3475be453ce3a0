use Rattle.std.proofs.Common.{List, ◌||◌, ap, ◌∙◌, Bool}
use Rattle.std.specs.List.{list_any}
use Rattle.std.specs.BTreeSet.{contains}
use Rattle.wse_path.specs.Order.{path_cmp}
use Rattle.wse_element.specs.Record.{RecordPart, Record}
use Rattle.wse_element.specs.Live.{is_live_part_at, is_live_at}
use Rattle.wse_stacks.proofs.PathLemmas.{any_step, live_any}
use Rattle.wse_stacks.proofs.paths.put_all.Goals as goal

pub loop-entry-preserved : goal.loop-entry-preserved
loop-entry-preserved c = λ p.
    let was = contains path_cmp c.loop-entry.found p in
    let parts = c.parts.ensures.parts ∙ ap (λ (r : Record). r.parts) c.element.ensures.value in
    let step = c.in_ok-put_each.ensures p ∙ ap (λ (b : Bool). was || b) (ap (λ (ps : List RecordPart). list_any (is_live_part_at p) ps) parts ∙ live_any p c.entry-item.result) in
    any_step (is_live_at p) c.args.entries.now c.loop-entry.entry-index c.entry-item.result was (contains path_cmp c.put_each.new.found p) (contains path_cmp c.args.found.now p) c.loop-entry-test.true c.entry-item.is step (c.loop-entry.invariant p)
