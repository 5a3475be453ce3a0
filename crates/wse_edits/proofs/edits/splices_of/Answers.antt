use Rattle.std.proofs.Common.{◌++◌, ◌∷◌, [], Some, None, List, Vec, Global, sym, ap, ◌∙◌}
use Rattle.std.proofs.lemmas.List.{append-nil}
use Rattle.wse_splice.specs.declared.splice.Splice.{Splice}
use Rattle.wse_edits.proofs.SpliceLemmas.{splices-more}
use Rattle.wse_edits.proofs.edits.splices_of.Goals as goal
use Rattle.wse_edits.proofs.edits.splices_of.Goals.{in-Some+in_ok-duplicate+in_ok-push, in_default}

abbrev items : Vec Splice Global → List Splice
items v = v.items

pub loop-number-preserved : goal.loop-number-preserved
loop-number-preserved c =
    let edits = c.args.edits.now in
    let ranges = c.args.ranges.now in
    let number = c.loop-number.number in
    let edit = c.index-edits-number.result in
    elim c.match-ranges-number.branch [
      | in-Some+in_ok-duplicate+in_ok-push w ↦
          let range = w.in-Some.range in
          ap items w.splices-is
          ∙ w.in_ok-push.ensures.items
          ∙ (λ k. c.loop-number.invariant k ++ record { start = range.start; end = range.end; text = w.in_ok-duplicate.ensures k } ∷ [])
          ∙ sym (splices-more edits ranges number edit (Some range) c.requires c.loop-number-test.true c.index-edits-number.is w.in-Some.is)
      | in_default w ↦
          ap items w.splices-is
          ∙ c.loop-number.invariant
          ∙ sym (append-nil _)
          ∙ sym (splices-more edits ranges number edit None c.requires c.loop-number-test.true c.index-edits-number.is w.in_default.is)
    ]
