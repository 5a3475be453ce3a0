-- What was out by a moment, over one list of pieces after another.
use Rattle.std.proofs.Common.{◌≡◌, ℕ, suc, ◌<◌, ◌≤◌, Bool, true, false, cond, List, [], ◌∷◌, ◌++◌, refl, sym, ap, ◌∙◌, append_assoc, arith}
use Rattle.std.proofs.Math.Dec.{ltb}
use Rattle.std.proofs.lemmas.Bool.{ltb-true, ltb-false, lt-ltb, le-ltb}
use Rattle.wse_io.specs.Stream.{Piece, bytes_of, Within, IsPrefix}
use Rattle.wse_io.proofs.StreamLemmas.{prefix-nil, prefix_behind}
use Rattle.wse_stream.specs.Emitted.{emitted_by}

by_order_at : (P : Type 0) (a b : ℕ) (t : Bool) → ltb a b ≡ t → (a < b → P) → (b ≤ a → P) → P
by_order_at P a b true e f g = f (ltb-true a b e)
by_order_at P a b false e f g = g (ltb-false a b e)

-- one of two numbers is less, or not
pub by_order : (P : Type 0) (a b : ℕ) → (a < b → P) → (b ≤ a → P) → P
by_order P a b f g = by_order_at P a b (ltb a b) refl f g

-- what was out is a front of all
pub emitted_front : (t : ℕ) (ps : List Piece) → IsPrefix (emitted_by t ps) (bytes_of ps)
unfolding emitted_by bytes_of
emitted_front t [] = ([], refl)
emitted_front t (p ∷ ps) = elim (ltb t p.moment) as (λ b. IsPrefix (cond b [] (p.bytes ++ emitted_by t ps)) (p.bytes ++ bytes_of ps)) [ true ↦ prefix-nil _ | false ↦ prefix_behind p.bytes _ _ (emitted_front t ps) ]

pub emitted-nil : (t : ℕ) → emitted_by t [] ≡ []
unfolding emitted_by
emitted-nil t = refl

-- the first of the pieces, and the others
first_within : (first last : ℕ) (p : Piece) (ps : List Piece) → Within first last (p ∷ ps) → (first ≤ p.moment) × (p.moment ≤ last)
unfolding Within
first_within first last p ps w = w 0 p (omega arith)

rest_within : (first last : ℕ) (p : Piece) (ps : List Piece) → Within first last (p ∷ ps) → Within first last ps
unfolding Within
rest_within first last p ps w = λ k d l. w (suc k) d (omega (arith, l))

-- nothing was out before the first
pub none_by : (t first last : ℕ) (ps : List Piece) → t < first → Within first last ps → emitted_by t ps ≡ []
unfolding emitted_by
none_by t first last [] l w = refl
none_by t first last (p ∷ ps) l w = let f = (first_within first last p ps w).0 in ap (λ b. cond b [] (p.bytes ++ emitted_by t ps)) (lt-ltb t p.moment (omega arith))

-- what came later was not out
pub front_by : (t first last : ℕ) (ps qs : List Piece) → t < first → Within first last qs → emitted_by t (ps ++ qs) ≡ emitted_by t ps
unfolding emitted_by
front_by t first last [] qs l w = none_by t first last qs l w
front_by t first last (p ∷ ps) qs l w = ap (λ r. cond (ltb t p.moment) [] (p.bytes ++ r)) (front_by t first last ps qs l w)

-- all that came by then was out
pub all_by : (t first last : ℕ) (ps qs : List Piece) → last ≤ t → Within first last ps → emitted_by t (ps ++ qs) ≡ bytes_of ps ++ emitted_by t qs
unfolding emitted_by bytes_of
all_by t first last [] qs l w = refl
all_by t first last (p ∷ ps) qs l w =
    let f = (first_within first last p ps w).1 in
    ap (λ b. cond b [] (p.bytes ++ emitted_by t (ps ++ qs))) (le-ltb t p.moment (omega arith))
    ∙ ap (λ r. p.bytes ++ r) (all_by t first last ps qs l (rest_within first last p ps w))
    ∙ sym (append_assoc p.bytes (bytes_of ps) (emitted_by t qs))
