use Rattle.wse_promise.proofs.EventLemmas as lemmas
use Rattle.wse_promise.proofs.laws.lines_are_events.Goals as goal

pub returns : goal.returns
returns c = lemmas.lines_are_events
