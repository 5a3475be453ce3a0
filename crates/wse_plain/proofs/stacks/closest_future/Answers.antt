use Rattle.std.proofs.Common.{◌&&◌, not, sym, ◌∙◌}
use Rattle.wse_element.specs.Record.{Record}
use Rattle.wse_element.specs.Live.{is_live_at}
use Rattle.wse_plain.proofs.SearchLemmas.{first_that_passes}
use Rattle.wse_plain.proofs.stacks.closest_future.Goals as goal

pub returns : goal.returns
returns c = c.first_undone.ensures ∙ sym (first_that_passes (λ (r : Record). not r.done && is_live_at c.args.path.now r) c.args.records.now)
