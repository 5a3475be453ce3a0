-- Lists of records from a place on.
use Rattle.std.proofs.Common.{◌≡◌, ℕ, ◌+◌, ◌-◌, ◌<◌, ◌≤◌, Bool, true, false, ◌&&◌, ◌||◌, not, cond, eqb, List, [], ◌∷◌, length, take, drop, get_or, refl, sym, ap, ◌∙◌, arith, length-drop}
use Rattle.std.specs.List.{list_any}
use Rattle.std.proofs.lemmas.List.{drop_more, take_all}
use Rattle.wse_path.specs.Path.{Path}
use Rattle.wse_element.specs.Record.{Record}
use Rattle.wse_element.specs.Stacks.{ids, has_id}
use Rattle.wse_element.specs.Linked.{are_different, come_first, neighbours_meet}

there : {X : Type 0} (xs : List X) (i : ℕ) (x : X) → i < length xs → x ≡ get_or xs i x → drop i xs ≡ x ∷ drop (i + 1) xs
there xs i x l is = drop_more xs i x l ∙ ap (λ y. y ∷ drop (i + 1) xs) (sym is)

-- all from a place on
pub tail_is : {X : Type 0} (xs : List X) (n : ℕ) → take (length xs - n) (drop n xs) ≡ drop n xs
tail_is xs n = take_all (length xs - n) (drop n xs) (omega (arith, length-drop n xs))

-- ---- ids

any_id : (id : ℕ) (records : List Record) → list_any (λ m. eqb m id) (ids records) ≡ list_any (has_id id) records
any_id id [] = refl
any_id id (r ∷ records) = ap (λ b. eqb r.id id || b) (any_id id records)

module _ (records : List Record) (i : ℕ) (r : Record) (b : Bool) (l : i < length records) (is : r ≡ get_or records i r) (e : b ≡ list_any (has_id r.id) (drop (i + 1) records)) where
  differ : are_different (ids (drop i records)) ≡ (not b && are_different (ids (drop (i + 1) records)))
  differ =
      ap (λ rs. are_different (ids rs)) (there records i r l is)
      ∙ ap (λ x. not x && are_different (ids (drop (i + 1) records))) (any_id r.id (drop (i + 1) records) ∙ sym e)

  pub differ_more : b ≡ false → are_different (ids (drop i records)) ≡ are_different (ids (drop (i + 1) records))
  differ_more h = differ ∙ ap (λ x. not x && are_different (ids (drop (i + 1) records))) h

  pub differ_stop : b ≡ true → are_different (ids (drop i records)) ≡ false
  differ_stop h = differ ∙ ap (λ x. not x && are_different (ids (drop (i + 1) records))) h

-- ---- some that come first

pub first_stop : (test : Record → Bool) (records : List Record) (i : ℕ) (r : Record) → i < length records → r ≡ get_or records i r → test r ≡ false → come_first test (drop i records) ≡ not (list_any test (drop (i + 1) records))
first_stop test records i r l is h =
    ap (come_first test) (there records i r l is)
    ∙ ap (λ b. cond b (come_first test (drop (i + 1) records)) (not (list_any test (drop (i + 1) records)))) h

-- ---- neighbours

one_meets : (p : Path) (records : List Record) → length records ≤ 1 → neighbours_meet p records ≡ true
one_meets p [] l = refl
one_meets p (r ∷ []) l = refl
one_meets p (r ∷ next ∷ more) l = absurd (omega arith)

pub last_meets : (p : Path) (records : List Record) (at : ℕ) → length records ≤ at → neighbours_meet p (drop (at - 1) records) ≡ true
last_meets p records at l = one_meets p (drop (at - 1) records) (simp length-drop (omega (arith, l)))
