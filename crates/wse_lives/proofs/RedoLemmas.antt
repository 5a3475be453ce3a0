-- After an undo the record is the closest future of each of its paths, and a redo gives the records back.
use Rattle.std.proofs.Common.{◌≡◌, ◌⊎◌, inl, inr, ⊎_elim, ℕ, true, false, cond, List, [], ◌∷◌, ◌++◌, Option, Some, None, refl, sym, ap, ◌∙◌}
use Rattle.std.specs.Prelude.{slice_get}
use Rattle.std.specs.List.{last_or, AllByRecursion}
use Rattle.wse_path.specs.Path.{Path}
use Rattle.wse_element.specs.Record.{Record}
use Rattle.wse_element.specs.Live.{is_live_at}
use Rattle.wse_element.specs.Stacks.{has_id, past, closest_future}
use Rattle.wse_element.specs.Linked.{IsLinked}
use Rattle.wse_element.specs.Effects.{marked, marked_one}
use Rattle.wse_element.proofs.AfterLemmas.{different_filter}
use Rattle.wse_element.proofs.MoveLemmas.{with_done, moved_back}
use Rattle.wse_lives.proofs.GoLemmas.{MayGoBack}

-- a list with its last element
pub record EndsWith (records : List Record) (r : Record) : Type 0 where
  pub front : List Record
  pub is : records ≡ front ++ r ∷ []

some_same : (x r : Record) → ◌≡◌ {A = Option Record} (Some x) (Some r) → x ≡ r
some_same x r e = cc

ends : (o : Option Record) (records : List Record) (r : Record) → last_or o records ≡ Some r → ((records ≡ []) × (o ≡ Some r)) ⊎ EndsWith records r
ends o [] r e = inl (refl, e)
ends o (x ∷ records) r e =
    inr (⊎_elim
    (λ none. record { front = []; is = (λ i. some_same x r none.1 i ∷ none.0 i) })
    (λ more. record { front = x ∷ more.front; is = ap (λ rs. x ∷ rs) more.is })
    (ends (Some x) records r e))

pub ends_with : (records : List Record) (r : Record) → last_or None records ≡ Some r → EndsWith records r
ends_with records r e = ⊎_elim (λ none. let x = none.1 in cc) (λ more. more) (ends None records r e)

module _ (next_id : ℕ) (records : List Record) (r : Record) (linked : IsLinked next_id records) (may : MayGoBack records r) where
  -- it is the closest future of each of its paths
  pub redo_closest : (p : Path) → is_live_at p r ≡ true → closest_future (marked records r.id false) p ≡ Some (with_done r false)
  redo_closest p live =
      let end = ends_with (past records p) r (may.closest p live) in
      let moved = moved_back records p end.front r (linked.each p).done_first (different_filter (is_live_at p) records linked.different) end.is in
      ap (λ rs. slice_get rs 0) moved.future

-- a record that was done is as it was once it is undone and redone
remarked_one : (id : ℕ) (r : Record) → (has_id id r ≡ true → r.done ≡ true) → marked_one id true (marked_one id false r) ≡ r
remarked_one id r was =
    elim (has_id id r) as (λ b. has_id id r ≡ b → marked_one id true (cond b (with_done r false) r) ≡ r) [
      | true ↦ λ e. ap (λ b. cond b (with_done r true) (with_done r false)) e ∙ ap (λ d. with_done r d) (sym (was e))
      | false ↦ λ e. ap (λ b. cond b (with_done r true) r) e
    ] refl

pub redo_gives_records : (id : ℕ) (records : List Record) → AllByRecursion (λ r. has_id id r ≡ true → r.done ≡ true) records → marked (marked records id false) id true ≡ records
redo_gives_records id [] all = refl
redo_gives_records id (r ∷ records) all = λ i. remarked_one id r all.0 i ∷ redo_gives_records id records all.1 i
