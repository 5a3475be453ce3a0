-- What records take up.
use Rattle.std.proofs.Common.{◌≡◌, ◌≢◌, ℕ, ◌+◌, ◌≤◌, List, [], ◌∷◌, ◌++◌, length, refl, sym, ◌∙◌, ap, arith, append_assoc, length-append}
use Rattle.std.specs.List.{flat_map}
use Rattle.std.proofs.lemmas.Grind.{flat_map-append}
use Rattle.std.proofs.lemmas.List.{append-nil}
use Rattle.wse_log.specs.Grammar.{JournalRecord, header, framed, front, stretch}

pub front-nil : front [] ≡ header
unfolding front
front-nil = append-nil header

pub front-push : (records : List JournalRecord) (r : JournalRecord) → front (records ++ r ∷ []) ≡ front records ++ framed r
unfolding front
front-push records r =
    ap (λ (l : List ℕ). header ++ l) (flat_map-append framed records (r ∷ []) ∙ ap (λ (l : List ℕ). flat_map framed records ++ l) (append-nil (framed r)))
    ∙ sym (append_assoc header (flat_map framed records) (framed r))

pub length-framed : (r : JournalRecord) → length (framed r) ≡ length r.body + 6
length-framed r = omega (arith, length-append r.body (r.mark ∷ []))

pub length-front-push : (records : List JournalRecord) (r : JournalRecord) → length (front (records ++ r ∷ [])) ≡ length (front records) + length r.body + 6
length-front-push records r = omega (arith, ap length (front-push records r), length-append (front records) (framed r), length-framed r)

pub length-front-le : (records : List JournalRecord) → 8 ≤ length (front records)
unfolding front
length-front-le records = omega (arith, length-append header (flat_map framed records))

pub stretch-some : (records : List JournalRecord) → records ≢ [] → stretch records ≡ front records
stretch-some [] some = absurd (some refl)
stretch-some (r ∷ rs) some = refl

pub stretch-push : (records : List JournalRecord) (r : JournalRecord) → stretch (records ++ r ∷ []) ≡ front (records ++ r ∷ [])
stretch-push [] r = refl
stretch-push (x ∷ xs) r = refl

-- Records that aren't none have a last one.
pub with_last : (records : List JournalRecord) → records ≢ [] → (before : List JournalRecord) × (r : JournalRecord) × (records ≡ before ++ r ∷ [])
with_last [] some = absurd (some refl)
with_last (r ∷ []) some = ([], r, refl)
with_last (r ∷ s ∷ rest) some =
    let last = with_last (s ∷ rest) (λ e. cc) in
    (r ∷ last.0, last.1, ap (λ (l : List JournalRecord). r ∷ l) last.2)
