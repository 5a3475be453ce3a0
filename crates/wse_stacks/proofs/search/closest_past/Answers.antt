use Rattle.std.proofs.Common.{◌&&◌, sym, ◌∙◌}
use Rattle.wse_element.specs.Record.{Record}
use Rattle.wse_element.specs.Live.{is_live_at}
use Rattle.wse_stacks.proofs.SearchLemmas.{last_of}
use Rattle.wse_stacks.proofs.search.closest_past.Goals as goal

pub returns : goal.returns
returns c = c.element_of.ensures ∙ c.past_entry.ensures ∙ sym (last_of (λ (r : Record). r.done && is_live_at c.args.path.now r) c.args.entries.now)
