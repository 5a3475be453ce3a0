-- What stands behind a gate is one record's.
use Rattle.std.proofs.Common.{◌≡◌, ℕ, List, [], ◌∷◌, ◌++◌, length, take, drop, refl, sym, ◌∙◌, ap, append_assoc}
use Rattle.std.specs.Int.{w32, from_be_bytes}
use Rattle.std.proofs.lemmas.Nat.{from_be_bytes-to_be_bytes_4}
use Rattle.std.proofs.lemmas.List.{take_at, append_cancel_left}
use Rattle.wse_log.specs.Grammar.{JournalRecord, HasShortBody, behind_gate}

same_record : (r s : JournalRecord) → r.body ≡ s.body → r.mark ≡ s.mark → r ≡ s
same_record r s body mark =
    let first : r ≡ record { body = s.body; mark = r.mark } = ap (λ (b : List ℕ). record { body = b; mark = r.mark }) body in
    let second : record { body = s.body; mark = r.mark } ≡ s = ap (λ (m : ℕ). record { body = s.body; mark = m }) mark in
    first ∙ second

same_bodies : (a b x y : List ℕ) (m n : ℕ) → length a ≡ length b → (a ++ m ∷ []) ++ x ≡ (b ++ n ∷ []) ++ y → (a ≡ b) × (m ≡ n) × (x ≡ y)
same_bodies a b x y m n long e =
    let flat : a ++ m ∷ x ≡ b ++ n ∷ y = sym (append_assoc a (m ∷ []) x) ∙ e ∙ append_assoc b (n ∷ []) y in
    let same : a ≡ b = sym (take_at a (m ∷ x) (length a) refl) ∙ ap (take (length a)) flat ∙ take_at b (n ∷ y) (length a) (sym long) in
    let rest : m ∷ x ≡ n ∷ y = append_cancel_left b (m ∷ x) (n ∷ y) (ap (λ (l : List ℕ). l ++ m ∷ x) (sym same) ∙ flat) in
    (same, cc, cc)

pub one_record : (r s : JournalRecord) (x y : List ℕ) → HasShortBody r → HasShortBody s → behind_gate r ++ x ≡ behind_gate s ++ y → (r ≡ s) × (x ≡ y)
one_record r s x y short small e =
    let count : length r.body ≡ length s.body =
    sym (from_be_bytes-to_be_bytes_4 (length r.body) short) ∙ ap (λ (l : List ℕ). from_be_bytes w32 (take 4 l)) e ∙ from_be_bytes-to_be_bytes_4 (length s.body) small in
    let parts = same_bodies r.body s.body x y r.mark s.mark count (ap (drop 4) e) in
    (same_record r s parts.0 parts.1, parts.2)
