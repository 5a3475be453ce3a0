-- Of a command's effects none is refused exactly where neither the records nor the versions refuse one.
use Rattle.std.proofs.Common.{◌≡◌, ℕ, suc, ◌+◌, Bool, true, false, cond, not, ◌&&◌, List, [], ◌∷◌, ◌++◌, length, take, Option, Some, None, refl, sym, ap, ◌∙◌, append_assoc, arith}
use Rattle.std.specs.Prelude.{find, slice_get}
use Rattle.std.specs.List.{range_with_len}
use Rattle.std.specs.Option.{option_map_or}
use Rattle.wse_path.specs.Versions.{Numbers}
use Rattle.wse_element.specs.declared.effect.Effect.{Effect}
use Rattle.wse_element.specs.State.{Kept, stacks_of}
use Rattle.wse_element.specs.Effects.{versions_after, versions_after_each}
use Rattle.wse_element.specs.Applicable.{is_applicable_at, keeps_versions, keeps_versions_at}
use Rattle.wse_recover.specs.Keeps.{all_keep}
use Rattle.wse_recover.specs.Laws.{NoneRefusedByTwo}

-- ---- one search for two tests

cons_both : (x y : Bool) (i : ℕ) (f g both : Option ℕ) → (f ≡ None → g ≡ None → both ≡ None) → cond (not x) (Some i) f ≡ None → cond (not y) (Some i) g ≡ None → cond (not (x && y)) (Some i) both ≡ None
cons_both true true i f g both go a b = go a b
cons_both true false i f g both go a b = cc
cons_both false y i f g both go a b = cc

cons_first : (x y : Bool) (i : ℕ) (f both : Option ℕ) → (both ≡ None → f ≡ None) → cond (not (x && y)) (Some i) both ≡ None → cond (not x) (Some i) f ≡ None
cons_first true true i f both go h = go h
cons_first true false i f both go h = cc
cons_first false y i f both go h = cc

cons_second : (x y : Bool) (i : ℕ) (g both : Option ℕ) → (both ≡ None → g ≡ None) → cond (not (x && y)) (Some i) both ≡ None → cond (not y) (Some i) g ≡ None
cons_second true true i g both go h = go h
cons_second true false i g both go h = cc
cons_second false y i g both go h = cc

module _ (a b : ℕ → Bool) where
  none_both : (is : List ℕ) → find (λ i. not (a i)) is ≡ None → find (λ i. not (b i)) is ≡ None → find (λ i. not (a i && b i)) is ≡ None
  none_both [] f g = refl
  none_both (i ∷ is) f g = cons_both (a i) (b i) i (find (λ i. not (a i)) is) (find (λ i. not (b i)) is) (find (λ i. not (a i && b i)) is) (none_both is) f g

  none_first : (is : List ℕ) → find (λ i. not (a i && b i)) is ≡ None → find (λ i. not (a i)) is ≡ None
  none_first [] h = refl
  none_first (i ∷ is) h = cons_first (a i) (b i) i (find (λ i. not (a i)) is) (find (λ i. not (a i && b i)) is) (none_first is) h

  none_second : (is : List ℕ) → find (λ i. not (a i && b i)) is ≡ None → find (λ i. not (b i)) is ≡ None
  none_second [] h = refl
  none_second (i ∷ is) h = cons_second (a i) (b i) i (find (λ i. not (b i)) is) (find (λ i. not (a i && b i)) is) (none_second is) h

-- ---- the search over the versions, as a fold

take_front : {X : Type 0} (xs ys : List X) → take (length xs) (xs ++ ys) ≡ xs
take_front [] ys = refl
take_front (x ∷ xs) ys = ap (λ zs. x ∷ zs) (take_front xs ys)

get_behind : {X : Type 0} (xs : List X) (y : X) (ys : List X) → slice_get (xs ++ y ∷ ys) (length xs) ≡ Some y
get_behind [] y ys = refl
get_behind (x ∷ xs) y ys = get_behind xs y ys

versions_one_more : (v : Numbers) (before : List Effect) (e : Effect) → versions_after_each v (before ++ e ∷ []) ≡ versions_after (versions_after_each v before) e
versions_one_more v [] e = refl
versions_one_more v (x ∷ before) e = versions_one_more (versions_after v x) before e

length_one_more : {X : Type 0} (xs : List X) (x : X) → length (xs ++ x ∷ []) ≡ suc (length xs)
length_one_more [] x = refl
length_one_more (y ∷ xs) x = ap suc (length_one_more xs x)

keeps_here : (kept : Kept) (before : List Effect) (e : Effect) (more : List Effect) → keeps_versions_at kept (before ++ e ∷ more) (length before) ≡ keeps_versions (kept.serial + 1) (versions_after_each kept.versions before) e
keeps_here kept before e more =
    let all = before ++ e ∷ more in
    (λ i. option_map_or (keeps_versions (kept.serial + 1) (versions_after_each kept.versions (take (length before) all))) (get_behind before e more i) false)
    ∙ (λ i. keeps_versions (kept.serial + 1) (versions_after_each kept.versions (take_front before (e ∷ more) i)) e)

fold_step : (x rest : Bool) (k : ℕ) (o : Option ℕ) → (rest ≡ true → o ≡ None) → (x && rest) ≡ true → cond (not x) (Some k) o ≡ None
fold_step true rest k o go h = go h
fold_step false rest k o go h = cc

fold_back : (x rest : Bool) (k : ℕ) (o : Option ℕ) → (o ≡ None → rest ≡ true) → cond (not x) (Some k) o ≡ None → (x && rest) ≡ true
fold_back true rest k o go h = go h
fold_back false rest k o go h = cc

abbrev refused_from : Kept → List Effect → ℕ → ℕ → Option ℕ
refused_from kept effects k n = find (λ i. not (keeps_versions_at kept effects i)) (range_with_len k n)

module _ (kept : Kept) where
  -- the same search, with one effect more among those that were looked at
  moved : (before : List Effect) (x : Effect) (more : List Effect) (k : ℕ) → refused_from kept ((before ++ x ∷ []) ++ more) k (length more) ≡ refused_from kept (before ++ x ∷ more) k (length more)
  moved before x more k = ap (λ es. refused_from kept es k (length more)) (append_assoc before (x ∷ []) more)

  next_place : (before : List Effect) (x : Effect) (k : ℕ) → k ≡ length before → k + 1 ≡ length (before ++ x ∷ [])
  next_place before x k e = (let s : k + 1 ≡ suc k = omega arith in s) ∙ ap suc e ∙ sym (length_one_more before x)

  keep_none : (before more : List Effect) (k : ℕ) → k ≡ length before → all_keep (kept.serial + 1) (versions_after_each kept.versions before) more ≡ true → refused_from kept (before ++ more) k (length more) ≡ None
  keep_none before [] k e h = refl
  keep_none before (x ∷ more) k e h =
      let here = ap (keeps_versions_at kept (before ++ x ∷ more)) e ∙ keeps_here kept before x more in
      ap (λ b. cond (not b) (Some k) (refused_from kept (before ++ x ∷ more) (k + 1) (length more))) here
      ∙ fold_step (keeps_versions (kept.serial + 1) (versions_after_each kept.versions before) x) (all_keep (kept.serial + 1) (versions_after (versions_after_each kept.versions before) x) more) k
      (refused_from kept (before ++ x ∷ more) (k + 1) (length more))
      (λ r. sym (moved before x more (k + 1)) ∙ keep_none (before ++ x ∷ []) more (k + 1) (next_place before x k e) (ap (λ v. all_keep (kept.serial + 1) v more) (versions_one_more kept.versions before x) ∙ r))
      h

  none_keep : (before more : List Effect) (k : ℕ) → k ≡ length before → refused_from kept (before ++ more) k (length more) ≡ None → all_keep (kept.serial + 1) (versions_after_each kept.versions before) more ≡ true
  none_keep before [] k e h = refl
  none_keep before (x ∷ more) k e h =
      let here = ap (keeps_versions_at kept (before ++ x ∷ more)) e ∙ keeps_here kept before x more in
      fold_back (keeps_versions (kept.serial + 1) (versions_after_each kept.versions before) x) (all_keep (kept.serial + 1) (versions_after (versions_after_each kept.versions before) x) more) k
      (refused_from kept (before ++ x ∷ more) (k + 1) (length more))
      (λ r. sym (ap (λ v. all_keep (kept.serial + 1) v more) (versions_one_more kept.versions before x)) ∙ none_keep (before ++ x ∷ []) more (k + 1) (next_place before x k e) (moved before x more (k + 1) ∙ r))
      (sym (ap (λ b. cond (not b) (Some k) (refused_from kept (before ++ x ∷ more) (k + 1) (length more))) here) ∙ h)

pub refused_by_two : NoneRefusedByTwo
refused_by_two kept effects =
    let a = is_applicable_at (stacks_of kept) effects in
    let b = keeps_versions_at kept effects in
    let places = range_with_len 0 (length effects) in
    record {
      both = λ f g. none_both a b places f (keep_none kept [] effects 0 refl g);
      records = λ h. none_first a b places h;
      versions = λ h. none_keep kept [] effects 0 refl (none_second a b places h);
    }
