-- Operations one after another: what is reached and what fails, by what the first of them does.
use Rattle.std.proofs.Common.{◌≡◌, ℕ, suc, ◌+◌, ◌<◌, ◌≤◌, List, [], ◌∷◌, drop, length, get_or, Option, Some, None, Ok, Err, refl, sym, ap, ◌∙◌, arith}
use Rattle.std.specs.Option.{option_map}
use Rattle.std.proofs.lemmas.List.{drop_all}
use Rattle.std.specs.Result.{result_err}
use Rattle.wse_path.specs.Tree.{Entries}
use Rattle.wse_path.specs.declared.edit.Operation.{Operation}
use Rattle.wse_apply.specs.Setting.{SettingState}
use Rattle.wse_apply.specs.Next.{next}
use Rattle.wse_apply.specs.Course.{left, trees, refusals, first_refusal, done_before, one_later, failure_of, reached}
use Rattle.wse_apply.specs.declared.reason.Reason.{Reason}
use Rattle.wse_apply.specs.declared.stop.Stop.{Stop}
use Rattle.wse_apply.specs.declared.stop.Stop.TheVariants.{Refused, Memory}
use Rattle.wse_apply.specs.Draft.{IsStopOf, IsFailureOf, LeavesUnlessMemory}
use Rattle.wse_apply.proofs.StepLemmas.{drop_next}

-- what is reached and what fails
pub record Ended : Type 0 where
  pub files : Entries
  pub failed : Option (ℕ × Reason)

abbrev pub ended : SettingState → Entries → List Operation → Ended
ended setting files os = record { files = reached setting files os; failed = failure_of setting files os }

abbrev pub counted_from : ℕ → ℕ × Reason → ℕ × Reason
counted_from n f = (n + f.0, f.1)

-- the same, counted from an index on
abbrev pub later : ℕ → Ended → Ended
later n end = record { files = end.files; failed = option_map (counted_from n) end.failed }

-- there are more trees than operations done
tree_there : (setting : SettingState) (files : Entries) (os : List Operation) (d e : Entries) → get_or (trees setting files os) (done_before (refusals setting files os)) d ≡ get_or (trees setting files os) (done_before (refusals setting files os)) e
tree_there setting files [] d e = refl
tree_there setting files (o ∷ os) d e =
    elim (next setting files o) as (λ r. get_or (files ∷ trees setting (left files r) os) (done_before (result_err r ∷ refusals setting (left files r) os)) d ≡ get_or (files ∷ trees setting (left files r) os) (done_before (result_err r ∷ refusals setting (left files r) os)) e) [
      | Ok new ↦ tree_there setting new os d e
      | Err why ↦ refl
    ]

failed_later : (n : ℕ) (o : Option (ℕ × Reason)) → option_map (counted_from n) (option_map one_later o) ≡ option_map (counted_from (n + 1)) o
failed_later n None = refl
failed_later n (Some f) = let e : n + suc f.0 ≡ (n + 1) + f.0 = omega arith in ap (λ k. Some (k, f.1)) e

-- an operation that is done
pub ended_more : (setting : SettingState) (files new : Entries) (o : Operation) (os : List Operation) (n : ℕ) → next setting files o ≡ Ok new → later n (ended setting files (o ∷ os)) ≡ later (n + 1) (ended setting new os)
ended_more setting files new o os n e =
    ap (λ r. later n (record {
      files = get_or (files ∷ trees setting (left files r) os) (done_before (result_err r ∷ refusals setting (left files r) os)) files;
      failed = first_refusal (result_err r ∷ refusals setting (left files r) os);
    })) e
    ∙ (λ i. record {
      files = tree_there setting new os files new i;
      failed = failed_later n (failure_of setting new os) i;
    })

-- an operation that is refused
pub ended_here : (setting : SettingState) (files : Entries) (o : Operation) (os : List Operation) (n : ℕ) (why : Reason) → next setting files o ≡ Err why → later n (ended setting files (o ∷ os)) ≡ record { files = files; failed = Some (n, why) }
ended_here setting files o os n why e =
    ap (λ r. later n (record {
      files = get_or (files ∷ trees setting (left files r) os) (done_before (result_err r ∷ refusals setting (left files r) os)) files;
      failed = first_refusal (result_err r ∷ refusals setting (left files r) os);
    })) e
    ∙ (let z : n + 0 ≡ n = omega arith in ap (λ k. record { files = files; failed = Some (k, why) }) z)

-- counted from none on
zero_later : (o : Option (ℕ × Reason)) → option_map (counted_from 0) o ≡ o
zero_later None = refl
zero_later (Some f) = let e : 0 + f.0 ≡ f.0 = omega arith in ap (λ k. Some (k, f.1)) e

pub from_none : (end : Ended) → later 0 end ≡ end
from_none end = λ i. record { files = end.files; failed = zero_later end.failed i }

-- ---- from an index on

pub ended_next : (setting : SettingState) (files new : Entries) (os : List Operation) (o : Operation) (i : ℕ) (whole : Ended) → i < length os → o ≡ get_or os i o → next setting files o ≡ Ok new → later i (ended setting files (drop i os)) ≡ whole → later (i + 1) (ended setting new (drop (i + 1) os)) ≡ whole
ended_next setting files new os o i whole l read e h =
    sym (ended_more setting files new o (drop (i + 1) os) i e) ∙ ap (λ x. later i (ended setting files x)) (sym (drop_next os i o l read)) ∙ h

pub ended_stop : (setting : SettingState) (files : Entries) (os : List Operation) (o : Operation) (i : ℕ) (why : Reason) (whole : Ended) → i < length os → o ≡ get_or os i o → next setting files o ≡ Err why → later i (ended setting files (drop i os)) ≡ whole → record { files = files; failed = Some (i, why) } ≡ whole
ended_stop setting files os o i why whole l read e h =
    sym (ended_here setting files o (drop (i + 1) os) i why e) ∙ ap (λ x. later i (ended setting files x)) (sym (drop_next os i o l read)) ∙ h

pub ended_all : (setting : SettingState) (files : Entries) (os : List Operation) (i : ℕ) (whole : Ended) → length os ≤ i → later i (ended setting files (drop i os)) ≡ whole → record { files = files; failed = None } ≡ whole
ended_all setting files os i whole l h = ap (λ x. later i (ended setting files x)) (sym (drop_all i os l)) ∙ h

-- an operation that stops the others
pub failed_by : (setting : SettingState) (files now : Entries) (os : List Operation) (o : Operation) (i : ℕ) (stop : Stop) (failed : Option (ℕ × Reason)) (whole : Ended) → i < length os → o ≡ get_or os i o → IsStopOf (next setting files o) stop → LeavesUnlessMemory files now stop → later i (ended setting files (drop i os)) ≡ whole → IsFailureOf stop i failed
    → ◌≡◌ {A = Ended} (record { files = now; failed = failed }) whole
failed_by setting files now os o i (Refused why) failed whole l read e kept h f =
    (λ j. record { files = kept j; failed = f j }) ∙ ended_stop setting files os o i why whole l read e h
failed_by setting files now os o i Memory failed whole l read e kept h f = absurd f
