use Rattle.std.proofs.Common.{rules, ◌+◌, length, sym, ◌∙◌, arith, tests}
use Rattle.std.proofs.lemmas.Iterator.{YieldsList-from_range}
use Rattle.std.proofs.lemmas.Iterator.Adapters.{option_map_id}
use Rattle.std.proofs.lemmas.Iterator.Consumers.{nth_from_yields_List, YieldsList-from_filter}
use Rattle.wse_text.specs.Place.{begins_line}
use Rattle.wse_text.proofs.LineLemmas.{line_start_boundary}
use Rattle.wse_text.proofs.place.line_start.Goals as goal

pub returns-clause-value : goal.returns-clause-value
returns-clause-value c =
    sym (option_map_id c.nth.result)
    ∙ nth_from_yields_List c.nth.result _ _ c.nth.ensures.ran
    (YieldsList-from_filter _ (begins_line c.args.text.now) (YieldsList-from_range 0 _ (length c.args.text.now + 1) c.filter.ensures.source (omega arith)) c.filter.ensures.closure (λ x b q k. search (rules, tests)))

pub returns-clause-boundary : goal.returns-clause-boundary
returns-clause-boundary c =
    line_start_boundary c.args.text.now c.args.line c.nth.result c.utf8.text (returns-clause-value c)
