use Rattle.std.proofs.Common.{◌&&◌, sym, ◌∙◌}
use Rattle.wse_element.specs.Record.{Record}
use Rattle.wse_element.specs.Live.{is_live_at}
use Rattle.wse_plain.proofs.SearchLemmas.{last_that_passes}
use Rattle.wse_plain.proofs.stacks.closest_past.Goals as goal

pub returns : goal.returns
returns c = c.last_done.ensures ∙ sym (last_that_passes (λ (r : Record). r.done && is_live_at c.args.path.now r) c.args.records.now)
