use Rattle.std.proofs.Common.{All, Vec, Global, ap, rules, sym, subst, ◌∙◌, arith}
use Rattle.std.specs.Str.Iter.{chars_rest}
use Rattle.std.proofs.lemmas.List.Elements.{All-push}
use Rattle.wse_text.specs.declared.index.Mark.{Mark}
use Rattle.wse_text.specs.Index.{IsMark}
use Rattle.wse_text.proofs.MarkLemmas.{IsMark-passed, IsPassed-boundary, IsPassed-more, IsPassed-start}
use Rattle.wse_text.proofs.index.mark_line.Goals as goal
use Rattle.wse_text.proofs.index.mark_line.Goals.{then-place-last-ge-STEP+in_ok-push, else-place-last-ge-STEP}

pub loop-point-init : goal.loop-point-init
loop-point-init c = record {
  passed = IsPassed-start (chars_rest c.into_iter-point-iterator.result) c.requires.boundary (ap chars_rest c.into_iter-point-iterator.ensures.into_iter_gives ∙ c.chars-point-items.ensures.rest ∙ c.range_from.ensures.value);
  last = omega arith;
  marks = c.requires.marks;
}

pub overflow_add-place : goal.overflow_add-place
overflow_add-place c =
    let more = IsPassed-more c.loop-point.invariant.passed c.utf8.text c.in-Some.point _ c.in-Some.ensures.steps.0 (sym c.if-ends_line.ensures) in
    let bound = (IsPassed-boundary more).0 in
    let len = c.len_utf8-place.ensures.value in
    search rules

pub overflow_add-units : goal.overflow_add-units
overflow_add-units c =
    let more = IsPassed-more c.loop-point.invariant.passed c.utf8.text c.in-Some.point _ c.in-Some.ensures.steps.0 (sym c.if-ends_line.ensures) in
    let bound = (IsPassed-boundary more).0 in
    let few = more.few in
    let len = c.len_utf8-place.ensures.value in
    let units = c.units_of-units.ensures in
    search rules

pub loop-point-preserved : goal.loop-point-preserved
loop-point-preserved c =
    let mark : Mark = record { start = c.args.start; place = c.loop-point.place; units = c.loop-point.units } in
    record {
      passed = rw (c.len_utf8-place.ensures.value, c.units_of-units.ensures) (IsPassed-more c.loop-point.invariant.passed c.utf8.text c.in-Some.point _ c.in-Some.ensures.steps.0 (sym c.if-ends_line.ensures));
      last = elim c.if-place-last-ge-STEP.branch [
        | then-place-last-ge-STEP+in_ok-push w ↦ omega (arith, w.last-is)
        | else-place-last-ge-STEP w ↦ omega (arith, w.last-is, c.loop-point.invariant.last)
      ];
      marks = elim c.if-place-last-ge-STEP.branch [
        | then-place-last-ge-STEP+in_ok-push w ↦
            subst (λ (v : Vec Mark Global). All (IsMark c.args.text.now c.args.enc) v.items) (sym w.marks-is)
            (subst (All (IsMark c.args.text.now c.args.enc)) (sym w.in_ok-push.ensures.items)
            (All-push (IsMark c.args.text.now c.args.enc) c.loop-point.marks.items mark c.loop-point.invariant.marks (IsMark-passed c.loop-point.invariant.passed)))
        | else-place-last-ge-STEP w ↦
            subst (λ (v : Vec Mark Global). All (IsMark c.args.text.now c.args.enc) v.items) (sym w.marks-is) c.loop-point.invariant.marks
      ];
    }
