use Rattle.std.proofs.Common.{◌≡◌, ◌<◌, ◌^◌, true, sym, ap, subst, ◌∙◌, arith}
use Rattle.wse_element.specs.State.{stacks_of}
use Rattle.wse_element.specs.Numbers.{is_bounded}
use Rattle.wse_txn.specs.Replay.{Replayed}
use Rattle.wse_slow_reader.specs.Draft.{DraftState, next_draft, next_drafts, is_next, all_next}
use Rattle.wse_slow_reader.proofs.DraftLemmas.{all_apply, some_refused, left_drafts, all_step, all_stop, drafts_step, bounded_step, all_end, drafts_end, low_next, low_serial, some_length}
use Rattle.wse_slow_reader.proofs.OptionLemmas.{some_of, none_of}
use Rattle.wse_slow_reader.proofs.next.replay.Goals as goal

pub begin-draft-requires : goal.begin-draft-requires
begin-draft-requires c = omega (arith, low_serial (stacks_of c.args.left.kept) c.requires.bounded)

pub loop-effect-init : goal.loop-effect-init
loop-effect-init c =
    let effects = c.args.effects.now in
    let begun = c.begin-draft.ensures in
    let kept = c.args.left.kept in
    record {
      goes = ap (λ (d : DraftState). all_next d effects) (sym begun);
      ends = ap (λ (d : DraftState). next_drafts d effects) (sym begun);
      low = subst (λ (d : DraftState). d.kept.next_id < 2 ^ 63) (sym begun) (low_next (stacks_of kept) c.requires.bounded);
      counted = subst (λ (d : DraftState). d.kept.serial < 2 ^ 31) (sym begun) (omega (arith, low_serial (stacks_of kept) c.requires.bounded));
      bounded = λ none. absurd (omega (arith, none));
    }

pub loop-effect-preserved : goal.loop-effect-preserved
loop-effect-preserved c =
    let inv = c.loop-effect.invariant in
    let effects = c.args.effects.now in
    let i = c.loop-effect.effect-index in
    let d = c.loop-effect.draft in
    let e = c.effect-item.result in
    let next = c.in-Some.next in
    let may = some_of (λ (_ : DraftState). is_next d e ≡ true) c.in_ok-next.field-0 next c.in-Some.is c.in_ok-next.ensures.is_next in
    let is = some_of (λ (x : DraftState). x ≡ next_draft d e) c.in_ok-next.field-0 next c.in-Some.is c.in_ok-next.ensures.next in
    let bounded = bounded_step d effects i e next may is in
    record {
      goes = inv.goes ∙ all_step d effects i e next c.loop-effect-test.true c.effect-item.is may is;
      ends = inv.ends ∙ drafts_step d effects i e next c.loop-effect-test.true c.effect-item.is is;
      low = low_next (stacks_of next.kept) bounded;
      counted = omega (arith, low_serial (stacks_of next.kept) bounded);
      bounded = λ _. bounded;
    }

pub returns-in-None-clause-refused : goal.returns-in-None-clause-refused
returns-in-None-clause-refused c =
    let effects = c.args.effects.now in
    let d = c.loop-effect.draft in
    let e = c.effect-item.result in
    some_refused c.args.left.kept effects
    (c.loop-effect.invariant.goes ∙ all_stop d effects c.loop-effect.effect-index e c.loop-effect-test.true c.effect-item.is (none_of _ c.in_ok-next.field-0 c.in-None.is c.in_ok-next.ensures.refused))

pub returns-clause-none_refused : goal.returns-clause-none_refused
returns-clause-none_refused c =
    all_apply c.args.left.kept c.args.effects.now (c.loop-effect.invariant.goes ∙ all_end c.loop-effect.draft c.args.effects.now c.loop-effect.effect-index (omega (arith, c.loop-effect-test.false)))

pub returns-clause-next : goal.returns-clause-next
returns-clause-next c =
    c.finish.ensures
    ∙ left_drafts c.args.left.kept c.args.effects.now c.loop-effect.draft
    (c.loop-effect.invariant.ends ∙ drafts_end c.loop-effect.draft c.args.effects.now c.loop-effect.effect-index (omega (arith, c.loop-effect-test.false)))

pub returns-clause-bounded : goal.returns-clause-bounded
returns-clause-bounded c =
    ap (λ (l : Replayed). is_bounded (stacks_of l.kept)) c.finish.ensures
    ∙ c.loop-effect.invariant.bounded (omega (arith, c.loop-effect-test.false, some_length c.args.effects.now c.requires.some))
