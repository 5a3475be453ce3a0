use Rattle.std.proofs.Common.{rules}
use Rattle.std.proofs.lemmas.List.Sorted.{answers_always}
use Rattle.wse_edits.specs.declared.fitting.NumberedRange.{NumberedRange}
use Rattle.wse_edits.proofs.fitting.sort_by_start.Goals as goal

pub returns-clause-stable : goal.returns-clause-stable
returns-clause-stable c = c.sort_by_key.ensures.stable (λ (s : NumberedRange). s.start) (answers_always _ _ _ (λ f a r g called. search rules))

pub returns-clause-sorted : goal.returns-clause-sorted
returns-clause-sorted c = c.in_ok-sort_by_key.ensures.sorted (λ (s : NumberedRange). s.start) (answers_always _ _ _ (λ f a r g called. search rules))
