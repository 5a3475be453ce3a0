use Rattle.std.proofs.Common.{sym}
use Rattle.wse_text.proofs.WalkLemmas.{ends_with_units, ends_with_text, ends_at_line_end, ends_inside, goes_on}
use Rattle.wse_text.proofs.place.along_line.Goals as goal
use Rattle.wse_text.proofs.place.along_line.Goals.{then-left-eq0-via-then-left-eq0, then-left-eq0-via-else-left-eq0+then-ends_line}

pub returns-then-left-eq0-clause-value : goal.returns-then-left-eq0-clause-value
returns-then-left-eq0-clause-value c = elim c.then-left-eq0.branch [
  | then-left-eq0-via-then-left-eq0 w ↦ ends_with_units c.loop-point.invariant w.if-left-eq0.true
  | then-left-eq0-via-else-left-eq0+then-ends_line w ↦ ends_at_line_end c.loop-point.invariant c.utf8.text c.in-Some.point _ c.in-Some.ensures.steps.0 (sym w.if-ends_line.ensures)
]

pub returns-then-left-units-clause-value : goal.returns-then-left-units-clause-value
returns-then-left-units-clause-value c =
    ends_inside c.loop-point.invariant c.utf8.text c.in-Some.point _ c.in-Some.ensures.steps.0 (sym c.if-ends_line.ensures) c.if-left-eq0.false (rw (← c.units_of-units.ensures) c.if-left-units.true)

pub loop-point-preserved : goal.loop-point-preserved
loop-point-preserved c =
    rw (c.len_utf8-place.ensures.value, c.units_of-units.ensures)
    (goes_on c.loop-point.invariant c.utf8.text c.in-Some.point _ c.in-Some.ensures.steps.0 (sym c.if-ends_line.ensures) (rw (← c.units_of-units.ensures) c.if-left-units.false))

pub returns-clause-value : goal.returns-clause-value
returns-clause-value c = ends_with_text c.loop-point.invariant c.in-None.ensures.steps.0.0
