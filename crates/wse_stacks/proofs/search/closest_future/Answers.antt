use Rattle.std.proofs.Common.{◌&&◌, not, sym, ◌∙◌}
use Rattle.wse_element.specs.Record.{Record}
use Rattle.wse_element.specs.Live.{is_live_at}
use Rattle.wse_stacks.proofs.SearchLemmas.{first_of}
use Rattle.wse_stacks.proofs.search.closest_future.Goals as goal

pub returns : goal.returns
returns c = c.element_of.ensures ∙ c.future_entry.ensures ∙ sym (first_of (λ (r : Record). not r.done && is_live_at c.args.path.now r) c.args.entries.now)
