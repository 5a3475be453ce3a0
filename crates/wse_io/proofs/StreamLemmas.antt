-- Bytes that are taken and pieces that are added, one after another.
use Rattle.std.proofs.Common.{◌≡◌, ℕ, zero, suc, ◌≤◌, List, [], ◌++◌, take, Option, Some, None, Ok, refl, sym, ap, subst, ◌∙◌, append_assoc, arith}
use Rattle.std.proofs.lemmas.List.{append-nil}
use Rattle.std.proofs.lemmas.List.Elements.{All-nil, All-cons, All-append, All-weaker}
use Rattle.std.proofs.lemmas.Grind.{flat_map-append}
use Rattle.wse_io.specs.Stream.{Piece, Takes, Adds, IsPrefix, bytes_of, piece_by, AllAt, Within}

pub takes_none : (a b : Option (List ℕ)) → b ≡ a → Takes a b []
takes_none None b e = e
takes_none (Some all) b e = (all, e, refl)

pub takes_more : (a b c : Option (List ℕ)) (xs ys : List ℕ) → Takes a b xs → Takes b c ys → Takes a c (xs ++ ys)
takes_more None b c xs ys f g = subst (λ o. Takes o c ys) f g
takes_more (Some all) b c xs ys f g =
    let h : Takes (Some f.0) c ys = subst (λ o. Takes o c ys) f.1 g in
    (h.0, h.1, f.2 ∙ ap (λ r. xs ++ r) h.2 ∙ sym (append_assoc xs ys h.0))

pub takes_then_none : (a b c : Option (List ℕ)) (xs ys : List ℕ) → Takes a b xs → ys ≡ [] → Takes b c ys → Takes a c xs
takes_then_none a b c xs ys f e g = subst (λ l. Takes a c l) (ap (λ l. xs ++ l) e ∙ append-nil xs) (takes_more a b c xs ys f g)

-- Where nothing was taken, all is left.
pub takes_nothing : (a b : Option (List ℕ)) → Takes a b [] → b ≡ a
takes_nothing None b t = t
takes_nothing (Some all) b t = t.1 ∙ ap Some (sym t.2)

pub adds_none : (a b : Option (List Piece)) → b ≡ a → Adds a b []
adds_none None b e = e
adds_none (Some pieces) b e = e ∙ ap Some (sym (append-nil pieces))

pub adds_more : (a b c : Option (List Piece)) (xs ys : List Piece) → Adds a b xs → Adds b c ys → Adds a c (xs ++ ys)
adds_more None b c xs ys f g = subst (λ o. Adds o c ys) f g
adds_more (Some pieces) b c xs ys f g =
    let h : c ≡ Some ((pieces ++ xs) ++ ys) = subst (λ o. Adds o c ys) f g in h ∙ ap Some (append_assoc pieces xs ys)

pub adds_then_none : (a b c : Option (List Piece)) (xs : List Piece) → Adds a b xs → Adds b c [] → Adds a c xs
adds_then_none a b c xs f g = subst (λ ps. Adds a c ps) (append-nil xs) (adds_more a b c xs [] f g)

pub bytes_of-nil : bytes_of [] ≡ []
unfolding bytes_of
bytes_of-nil = refl

pub bytes_of-append : (xs ys : List Piece) → bytes_of (xs ++ ys) ≡ bytes_of xs ++ bytes_of ys
unfolding bytes_of
bytes_of-append xs ys = flat_map-append (λ (p : Piece). p.bytes) xs ys

pub all_at-nil : (moment : ℕ) → AllAt moment []
unfolding AllAt
all_at-nil moment = All-nil (λ (p : Piece). p.moment ≡ moment)

pub all_at-append : (moment : ℕ) (xs ys : List Piece) → AllAt moment xs → AllAt moment ys → AllAt moment (xs ++ ys)
unfolding AllAt
all_at-append moment xs ys f g = All-append (λ (p : Piece). p.moment ≡ moment) xs ys f g

-- What one call emitted: the bytes that it answered, at the moment that it was shown.
pub one_piece : (E : Type 0) (n : ℕ) (bytes : List ℕ) (moment : ℕ) → AllAt moment (piece_by {E = E} (Ok n) bytes moment) × (bytes_of (piece_by {E = E} (Ok n) bytes moment) ≡ take n bytes)
unfolding AllAt bytes_of
one_piece E zero bytes moment = (All-nil (λ (p : Piece). p.moment ≡ moment), refl)
one_piece E (suc n) bytes moment =
    (All-cons (λ (p : Piece). p.moment ≡ moment) _ [] refl (All-nil (λ (p : Piece). p.moment ≡ moment)), append-nil (take (suc n) bytes))

pub within-nil : (first last : ℕ) → Within first last []
unfolding Within
within-nil first last = All-nil (λ (p : Piece). (first ≤ p.moment) × (p.moment ≤ last))

pub within-append : (first last : ℕ) (xs ys : List Piece) → Within first last xs → Within first last ys → Within first last (xs ++ ys)
unfolding Within
within-append first last xs ys f g = All-append (λ (p : Piece). (first ≤ p.moment) × (p.moment ≤ last)) xs ys f g

pub within_at : (first last moment : ℕ) (pieces : List Piece) → first ≤ moment → moment ≤ last → AllAt moment pieces → Within first last pieces
unfolding Within AllAt
within_at first last moment pieces l m at =
    All-weaker (λ (p : Piece). p.moment ≡ moment) (λ p. (first ≤ p.moment) × (p.moment ≤ last)) (λ p e. (omega arith, omega arith)) pieces at

pub within_wider : (a b c d : ℕ) (pieces : List Piece) → a ≤ b → c ≤ d → Within b c pieces → Within a d pieces
unfolding Within
within_wider a b c d pieces l m w =
    All-weaker (λ (p : Piece). (b ≤ p.moment) × (p.moment ≤ c)) (λ p. (a ≤ p.moment) × (p.moment ≤ d)) (λ p e. (let f = e.0 in omega arith, let f = e.1 in omega arith)) pieces w

pub prefix-nil : (xs : List ℕ) → IsPrefix [] xs
prefix-nil xs = (xs, refl)

pub prefix_refl : (xs : List ℕ) → IsPrefix xs xs
prefix_refl xs = ([], sym (append-nil xs))

pub prefix_of : (xs ys zs : List ℕ) → IsPrefix xs ys → IsPrefix xs (ys ++ zs)
prefix_of xs ys zs p = (p.0 ++ zs, ap (λ l. l ++ zs) p.1 ∙ append_assoc xs p.0 zs)

pub prefix_behind : (xs ys zs : List ℕ) → IsPrefix ys zs → IsPrefix (xs ++ ys) (xs ++ zs)
prefix_behind xs ys zs p = (p.0, ap (λ l. xs ++ l) p.1 ∙ sym (append_assoc xs ys p.0))

pub prefix_trans : (xs ys zs : List ℕ) → IsPrefix xs ys → IsPrefix ys zs → IsPrefix xs zs
prefix_trans xs ys zs p q = (p.0 ++ q.0, q.1 ∙ ap (λ l. l ++ q.0) p.1 ∙ append_assoc xs p.0 q.0)
