use Rattle.std.proofs.Common.{leb, rules, sym, tests}
use Rattle.std.proofs.lemmas.Bool.{leb-true, MatchBool-at_true}
use Rattle.std.proofs.lemmas.List.Sorted.{answers_always}
use Rattle.wse_splice.specs.declared.splice.Splice.{Splice}
use Rattle.wse_edits_tests.proofs.splices.follow_one_another.Goals as goal

pub returns : goal.returns
returns c = λ yes k d low. leb-true _ _ (sym (MatchBool-at_true _ _ yes (c.is_sorted_by.ensures.cases (λ (s t : Splice). leb s.end t.start) (answers_always _ _ _ (λ f a r g called. search (rules, tests)))) k d low))
