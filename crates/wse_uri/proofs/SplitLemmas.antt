-- Lists that are cut, and lists whose last part is or isn't empty.
use Rattle.std.proofs.Common.{◌≡◌, ℕ, ◌-◌, ◌<◌, Bool, true, false, List, [], ◌∷◌, ◌++◌, length, drop, All, refl, sym, ap, ◌∙◌, subst, arith, append_assoc}
use Rattle.std.specs.List.{slice_split, onto_first}
use Rattle.std.proofs.lemmas.List.{drop_at, take_at, length_push}
use Rattle.std.proofs.lemmas.List.Elements.{All-head, All-tail}
use Rattle.std.proofs.lemmas.List.Splits.{slice_split-cons_yes, slice_split-cons_no, length-slice_split}
use Rattle.wse_path.specs.Path.{Path}
use Rattle.wse_uri.specs.Segments.{without_empty_last}

onto_first-append : {X : Type 0} (x : X) (front rest : List (List X)) → 0 < length front → onto_first x (front ++ rest) ≡ onto_first x front ++ rest
onto_first-append x [] rest h = absurd (omega arith)
onto_first-append x (f ∷ front) rest h = refl

-- a list that is cut at one of its elements is cut on both sides
pub slice_split-append : {X : Type 0} (p : X → Bool) (xs : List X) (y : X) (ys : List X) → p y ≡ true → slice_split p (xs ++ y ∷ ys) ≡ slice_split p xs ++ slice_split p ys
slice_split-append p [] y ys h = slice_split-cons_yes p y ys h
slice_split-append p (x ∷ xs) y ys h = elim (p x) as (λ b. p x ≡ b → slice_split p (x ∷ xs ++ y ∷ ys) ≡ slice_split p (x ∷ xs) ++ slice_split p ys) [
  | true ↦ λ e. slice_split-cons_yes p x (xs ++ y ∷ ys) e ∙ ap (λ t. [] ∷ t) (slice_split-append p xs y ys h) ∙ ap (λ t. t ++ slice_split p ys) (sym (slice_split-cons_yes p x xs e))
  | false ↦ λ e.
      slice_split-cons_no p x (xs ++ y ∷ ys) e ∙ ap (onto_first x) (slice_split-append p xs y ys h)
      ∙ onto_first-append x (slice_split p xs) (slice_split p ys) (omega (arith, length-slice_split p xs))
      ∙ ap (λ t. t ++ slice_split p ys) (sym (slice_split-cons_no p x xs e))
] refl

-- a last element that isn't empty
pub record EndsFull {X : Type 0} (ss : List (List X)) : Type 0 where
  pub front : List (List X)
  pub last : List X
  pub full : 0 < length last
  pub is : ss ≡ front ++ last ∷ []

pub EndsFull-append : {X : Type 0} (ss ts : List (List X)) → EndsFull ts → EndsFull (ss ++ ts)
EndsFull-append ss ts h = record {
  front = ss ++ h.front;
  last = h.last;
  full = h.full;
  is = ap (λ t. ss ++ t) h.is ∙ sym (append_assoc ss h.front (h.last ∷ []));
}

pub EndsFull-each : {X : Type 0} (ss : List (List X)) → 0 < length ss → All (λ s. 0 < length s) ss → EndsFull ss
EndsFull-each [] some h = absurd (omega arith)
EndsFull-each (s ∷ []) some h = record { front = []; last = s; full = All-head (λ t. 0 < length t) s [] h; is = refl }
EndsFull-each (s ∷ t ∷ ss) some h = EndsFull-append (s ∷ []) (t ∷ ss) (EndsFull-each (t ∷ ss) (omega arith) (All-tail (λ r. 0 < length r) s (t ∷ ss) h))

onto_first-full : {X : Type 0} (x : X) (front : List (List X)) (last : List X) → 0 < length last → EndsFull (onto_first x (front ++ last ∷ []))
onto_first-full x [] last h = record { front = []; last = x ∷ last; full = omega arith; is = refl }
onto_first-full x (f ∷ front) last h = record { front = (x ∷ f) ∷ front; last = last; full = h; is = refl }

-- a list that doesn't end where it is cut
pub EndsFull-slice_split : {X : Type 0} (p : X → Bool) (xs : List X) (y : X) → p y ≡ false → EndsFull (slice_split p (xs ++ y ∷ []))
EndsFull-slice_split p [] y h = record { front = []; last = y ∷ []; full = omega arith; is = slice_split-cons_no p y [] h }
EndsFull-slice_split p (x ∷ xs) y h =
    let rest = EndsFull-slice_split p xs y h in
    elim (p x) as (λ b. p x ≡ b → EndsFull (slice_split p (x ∷ xs ++ y ∷ []))) [
      | true ↦ λ e. subst EndsFull (sym (slice_split-cons_yes p x (xs ++ y ∷ []) e)) (EndsFull-append ([] ∷ []) (slice_split p (xs ++ y ∷ [])) rest)
      | false ↦ λ e. subst EndsFull (sym (slice_split-cons_no p x (xs ++ y ∷ []) e ∙ ap (onto_first x) rest.is)) (onto_first-full x rest.front rest.last rest.full)
    ] refl

last_at : (xs : Path) (y : List ℕ) → drop (length (xs ++ y ∷ []) - 1) (xs ++ y ∷ []) ≡ y ∷ []
last_at xs y = drop_at xs (y ∷ []) (length (xs ++ y ∷ []) - 1) (omega (arith, length_push xs y))

pub without_empty_last-empty : (xs : Path) → without_empty_last (xs ++ [] ∷ []) ≡ xs
without_empty_last-empty xs = rw (last_at xs []) (take_at xs ([] ∷ []) (length (xs ++ [] ∷ []) - 1) (omega (arith, length_push xs [])))

kept_last : (xs : Path) (y : List ℕ) → 0 < length y → without_empty_last (xs ++ y ∷ []) ≡ xs ++ y ∷ []
kept_last xs [] h = absurd (omega arith)
kept_last xs (b ∷ y) h = rw (last_at xs (b ∷ y)) refl

pub without_empty_last-full : (ss : Path) → EndsFull ss → without_empty_last ss ≡ ss
without_empty_last-full ss h = ap without_empty_last h.is ∙ kept_last h.front h.last h.full ∙ sym h.is
