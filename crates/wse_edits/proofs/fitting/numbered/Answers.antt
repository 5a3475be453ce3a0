use Rattle.std.proofs.Common.{◌++◌, ◌∷◌, [], Some, None, List, Vec, Global, sym, ap, ◌∙◌}
use Rattle.std.proofs.lemmas.List.{append-nil}
use Rattle.wse_edits.specs.declared.fitting.NumberedRange.{NumberedRange}
use Rattle.wse_edits.proofs.FittingLemmas.{numbered_from_0-more}
use Rattle.wse_edits.proofs.fitting.numbered.Goals as goal
use Rattle.wse_edits.proofs.fitting.numbered.Goals.{in-Some+in_ok-push, in_default}

abbrev items : Vec NumberedRange Global → List NumberedRange
items v = v.items

pub loop-number-preserved : goal.loop-number-preserved
loop-number-preserved c =
    let ranges = c.args.ranges.now in
    let number = c.loop-number.number in
    elim c.match-range.branch [
      | in-Some+in_ok-push w ↦
          ap items w.numbered-is
          ∙ w.in_ok-push.ensures.items
          ∙ ap (λ xs. xs ++ record { start = w.in-Some.range.start; end = w.in-Some.range.end; number = number } ∷ []) c.loop-number.invariant
          ∙ sym (numbered_from_0-more ranges number (Some w.in-Some.range) c.loop-number-test.true w.in-Some.is)
      | in_default w ↦
          ap items w.numbered-is
          ∙ c.loop-number.invariant
          ∙ sym (append-nil _)
          ∙ sym (numbered_from_0-more ranges number None c.loop-number-test.true w.in_default.is)
    ]
