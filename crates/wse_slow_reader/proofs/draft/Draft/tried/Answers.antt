use Rattle.std.proofs.Common.{◌<◌, ◌^◌, sym, subst}
use Rattle.wse_slow_reader.specs.Draft.{DraftState}
use Rattle.wse_slow_reader.proofs.DraftLemmas.{no_bounds, is_next_from, may_rise}
use Rattle.wse_slow_reader.proofs.draft.Draft.tried.Goals as goal

pub done-requires-clause-bump : goal.done-requires-clause-bump
done-requires-clause-bump c = may_rise c.args.self c.args.effect.now c.requires.may

pub is_bounded-requires : goal.is_bounded-requires
is_bounded-requires c = subst (λ (d : DraftState). d.kept.serial < 2 ^ 31) (sym c.in_ok-next.ensures) c.requires.counted

pub returns-then-not-is_bounded-clause-refused : goal.returns-then-not-is_bounded-clause-refused
returns-then-not-is_bounded-clause-refused c = no_bounds c.args.self c.args.effect.now c.in_ok-next.next c.is_bounded.result c.in_ok-next.ensures c.is_bounded.ensures c.if-not-is_bounded.true

pub returns-clause-is_next : goal.returns-clause-is_next
returns-clause-is_next c = is_next_from c.args.self c.args.effect.now c.in_ok-next.next c.is_bounded.result c.requires.may c.in_ok-next.ensures c.is_bounded.ensures c.if-not-is_bounded.false
