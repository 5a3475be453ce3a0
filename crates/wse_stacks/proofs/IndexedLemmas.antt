-- What is kept beside a list of records, and finds what is in it.
use Rattle.std.proofs.Common.{◌≡◌, ℕ, zero, suc, ◌+◌, ◌<◌, Bool, true, false, ◌||◌, cond, length, take, get_or, nat_eq, List, [], ◌∷◌, ◌++◌, Option, Some, None, refl, sym, ap, subst, ◌∙◌}
use Rattle.std.specs.Prelude.{slice_get, option_map}
use Rattle.std.specs.List.{list_any, last_or}
use Rattle.std.specs.Ordering.{eq_by_cmp}
use Rattle.std.specs.Bool.{one_answer}
use Rattle.std.proofs.lemmas.List.{take_more}
use Rattle.std.proofs.lemmas.Option.{same_Some, none-some}
use Rattle.std.proofs.lemmas.Slice.Eq.{slice_eq-Decides, bytes_eq-Decides}
use Rattle.wse_path.specs.Path.{Path}
use Rattle.wse_path.specs.Order.{path_cmp}
use Rattle.wse_path.proofs.PathOrder.{same_path}
use Rattle.wse_element.specs.Record.{RecordPart, Record}
use Rattle.wse_element.specs.Live.{is_live, is_live_part_at, is_live_at}
use Rattle.wse_element.specs.Stacks.{live_at, has_id}
use Rattle.wse_element.proofs.LiveLemmas.{eq_itself}
use Rattle.wse_element.proofs.FoldLemmas.{get_behind}
use Rattle.wse_stacks.specs.Fits.{last_live}
use Rattle.wse_stacks.specs.Indexed.{path_eq, noted, AreIndexed}
use Rattle.wse_stacks.proofs.FitLemmas.{push_there, push_elsewhere}
use Rattle.wse_stacks.proofs.PathLemmas.{or_is, one_more, live_any, live_there}

-- the maps find a path as the definitions do
pub path_eq_is : (p q : Path) → path_eq p q ≡ eq_by_cmp path_cmp p q
path_eq_is p q =
    one_answer {P = p ≡ q} (path_eq p q) (eq_by_cmp path_cmp p q)
    (slice_eq-Decides bytes_eq-Decides p q (path_eq p q) refl)
    (same_path p q, λ e. subst (λ x. eq_by_cmp path_cmp p x ≡ true) e (eq_itself p))

-- ---- places that are noted

pub noted_live : (part : RecordPart) (p : Path) (at : ℕ) (before : Option ℕ) → is_live part.state ≡ true → cond (path_eq part.path p) (Some at) before ≡ noted (is_live_part_at p part) at before
noted_live part p at before live = ap (λ b. noted b at before) (path_eq_is part.path p ∙ live_there part p live)

noted_twice : (here there : Bool) (at : ℕ) (before : Option ℕ) → noted here at (noted there at before) ≡ noted (there || here) at before
noted_twice true true at before = refl
noted_twice false true at before = refl
noted_twice here false at before = refl

-- one part more
pub noted_more : (p : Path) (parts : List RecordPart) (i : ℕ) (part : RecordPart) (at : ℕ) (before : Option ℕ) → i < length parts → part ≡ get_or parts i part
    → noted (is_live_part_at p part) at (noted (list_any (is_live_part_at p) (take i parts)) at before) ≡ noted (list_any (is_live_part_at p) (take (i + 1) parts)) at before
noted_more p parts i part at before within is =
    noted_twice (is_live_part_at p part) (list_any (is_live_part_at p) (take i parts)) at before
    ∙ ap (λ b. noted b at before)
    (sym (one_more (is_live_part_at p) (take i parts) part)
    ∙ ap (λ ps. list_any (is_live_part_at p) ps) (ap (λ y. take i parts ++ y ∷ []) is ∙ sym (take_more parts i part within)))

-- ---- what is found

get_front : {X : Type 0} (xs ys : List X) (k : ℕ) (x : X) → slice_get xs k ≡ Some x → slice_get (xs ++ ys) k ≡ Some x
get_front [] ys k x e = absurd (none-some x e)
get_front (y ∷ xs) ys zero x e = e
get_front (y ∷ xs) ys (suc k) x e = get_front xs ys k x e

places_stay : (records : List Record) (x : Record) (last : Option ℕ) (o : Option Record) → option_map (slice_get records) last ≡ option_map Some o → option_map (slice_get (records ++ x ∷ [])) last ≡ option_map Some o
places_stay records x None o e = e
places_stay records x (Some k) None e = absurd (none-some (slice_get records k) (sym e))
places_stay records x (Some k) (Some r) e = ap Some (get_front records (x ∷ []) k r (same_Some (slice_get records k) (Some r) e))

last_behind : {X : Type 0} (o : Option X) (xs : List X) (x : X) → last_or o (xs ++ x ∷ []) ≡ Some x
last_behind o [] x = refl
last_behind o (y ∷ xs) x = last_behind (Some y) xs x

-- one record more
pub one_indexed : (records : List Record) (x : Record) (has new_has : ℕ → Bool) (last new_last : Path → Option ℕ) → AreIndexed records has last
    → ((id : ℕ) → new_has id ≡ cond (nat_eq x.id id) true (has id))
    → ((p : Path) → new_last p ≡ noted (list_any (is_live_part_at p) x.parts) (length records) (last p))
    → AreIndexed (records ++ x ∷ []) new_has new_last
one_indexed records x has new_has last new_last indexed ids places = record {
  ids = λ id.
      ids id
      ∙ or_is (nat_eq x.id id) (has id)
      ∙ ap (λ b. b || has_id id x) (indexed.ids id)
      ∙ sym (one_more (has_id id) records x);
  places = λ p.
      ap (option_map (slice_get (records ++ x ∷ []))) (places p ∙ ap (λ b. noted b (length records) (last p)) (live_any p x))
      ∙ elim (is_live_at p x) as (λ b. is_live_at p x ≡ b → option_map (slice_get (records ++ x ∷ [])) (noted b (length records) (last p)) ≡ option_map Some (last_live (records ++ x ∷ []) p)) [
        | true ↦ λ live. ap Some (get_behind records x []) ∙ ap (option_map Some) (sym (last_behind None (live_at records p) x) ∙ ap (λ rs. last_or None rs) (sym (push_there records x p live)))
        | false ↦ λ away. places_stay records x (last p) (last_live records p) (indexed.places p) ∙ ap (λ rs. option_map Some (last_or None rs)) (sym (push_elsewhere records x p away))
      ] refl;
}
