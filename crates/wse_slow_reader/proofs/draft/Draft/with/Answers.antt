use Rattle.std.proofs.Common.{sym, ◌∙◌}
use Rattle.wse_slow_reader.proofs.DraftLemmas.{may_not, no_room, may_low}
use Rattle.wse_slow_reader.proofs.draft.Draft.with.Goals as goal

pub returns-then-not-may_come-clause-refused : goal.returns-then-not-may_come-clause-refused
returns-then-not-may_come-clause-refused c = may_not c.args.self c.args.effect.now c.may_come.result c.may_come.ensures c.if-not-may_come.true

pub tried-requires-clause-may : goal.tried-requires-clause-may
tried-requires-clause-may c = sym c.may_come.ensures ∙ c.if-not-may_come.false

pub tried-requires-clause-low : goal.tried-requires-clause-low
tried-requires-clause-low c = may_low c.args.self c.args.effect.now c.may_come.result c.may_come.ensures c.if-not-may_come.false c.requires.low

pub returns-in-None-clause-refused : goal.returns-in-None-clause-refused
returns-in-None-clause-refused c = no_room c.args.self c.args.effect.now c.in-None.ensures.none
