-- Reading items one after the other, as a loop does.
use Rattle.std.proofs.Common.{◌≡◌, ℕ, suc, ◌-◌, ◌+◌, ◌≤◌, ◌<◌, List, [], ◌∷◌, ◌++◌, length, Option, Some, None, Ok, Err, refl, sym, ap, ◌∙◌, append_assoc, arith}
use Rattle.std.specs.Prelude.{slice_get}
use Rattle.std.proofs.lemmas.List.{append-nil, length-append, get_or_push}
use Rattle.std.proofs.lemmas.Option.{slice_get-get_or}
use Rattle.wse_codec.specs.declared.unread.Unread.{Unread}
use Rattle.wse_codec.specs.declared.unread.Unread.TheVariants as unread
use Rattle.wse_codec.specs.Pieces.{Read, ◌>>=◌, row_at}
use Rattle.wse_codec.specs.Gives.{Fails}

-- The last of the items, where there is one.
abbrev pub last_of : {V : Type 0} → List V → Option V
last_of items = slice_get items (length items - 1)

-- What was read before, and what is still read.
abbrev pub with_front : {V : Type 0} → List V → Read (List V) → Read (List V)
with_front front read = read >>= λ x. Ok (front ++ x.0, x.1)

-- The loop so far: what is left is read behind the items that stand.
abbrev pub SoFar : {V : Type 0} → (Option V → List ℕ → Read V) → List V → (count i : ℕ) → (left : List ℕ) → (all : List ℕ) → Type 0
SoFar item front count i left all =
    with_front front (row_at item (last_of front) (count - i) left) ≡ row_at item None count all

regroup : {V : Type 0} (front : List V) (x : V) (read : Read (List V)) → with_front front (read >>= λ others. Ok (x ∷ others.0, others.1)) ≡ with_front (front ++ x ∷ []) read
regroup front x (Ok r) = ap (λ (xs : List _). Ok (xs, r.1)) (simp append_assoc)
regroup front x (Err left) = refl

last-push : {V : Type 0} (front : List V) (x : V) → last_of (front ++ x ∷ []) ≡ Some x
last-push front x =
    let lt : length front < length (front ++ x ∷ []) = omega (arith, length-append front (x ∷ [])) in
    ap (slice_get (front ++ x ∷ [])) (omega (arith, length-append front (x ∷ [])))
    ∙ slice_get-get_or (front ++ x ∷ []) (length front) x lt
    ∙ ap (λ (y : _). Some y) (get_or_push front x x (length front) refl)

pub goes_on : {V : Type 0} (item : Option V → List ℕ → Read V) (front : List V) (count i : ℕ) (left : List ℕ) (x : V) (after all : List ℕ)
    → i < count → item (last_of front) left ≡ Ok (x, after) → SoFar item front count i left all → SoFar item (front ++ x ∷ []) count (i + 1) after all
unfolding row_at
goes_on item front count i left x after all lt h so_far =
    let k : count - i ≡ suc (count - (i + 1)) = omega arith in
    let one : with_front front (row_at item (last_of front) (count - i) left) ≡ with_front (front ++ x ∷ []) (row_at item (Some x) (count - (i + 1)) after)
    = rw (k, h) (regroup front x (row_at item (Some x) (count - (i + 1)) after)) in
    rw (last-push front x) (sym one ∙ so_far)

pub ends : {V : Type 0} (item : Option V → List ℕ → Read V) (e : Unread) (front : List V) (count i : ℕ) (left all : List ℕ)
    → i < count → Fails e (item (last_of front) left) → SoFar item front count i left all → Fails e (row_at item None count all)
unfolding row_at
ends item unread.Memory front count i left all lt h so_far = tt
ends item (unread.Wrong n) front count i left all lt h so_far =
    let k : count - i ≡ suc (count - (i + 1)) = omega arith in
    let one : with_front front (row_at item (last_of front) (count - i) left) ≡ Err n = rw (k, h) refl in
    sym so_far ∙ one

pub is_done : {V : Type 0} (item : Option V → List ℕ → Read V) (front : List V) (count i : ℕ) (left all : List ℕ)
    → count ≤ i → SoFar item front count i left all → row_at item None count all ≡ Ok (front, left)
unfolding row_at
is_done item front count i left all le so_far =
    let k : count - i ≡ 0 = omega arith in
    let one : with_front front (row_at item (last_of front) (count - i) left) ≡ Ok (front, left) = rw k (ap (λ (xs : List _). Ok (xs, left)) (append-nil front)) in
    sym so_far ∙ one
