-- Records in order.
use Rattle.std.proofs.Common.{◌≡◌, ℕ, ◌-◌, List, [], ◌∷◌, ◌++◌, length, take, refl, sym, ◌∙◌, ap, subst, arith, length-append}
use Rattle.std.specs.List.{All}
use Rattle.std.proofs.lemmas.List.{take_at, take-take, length_push}
use Rattle.std.proofs.lemmas.List.Elements.{All-nil, All-push, All-same, All-take, All-cons, All-head, All-tail}
use Rattle.wse_log.proofs.Fronts.{with_last}
use Rattle.wse_log.specs.Grammar.{JournalRecord, IsSettled, HasShortBody, AreInOrder, EndSettled}

pub order-nil : AreInOrder []
order-nil = record { short = All-nil HasShortBody; first = All-nil IsSettled; followed = All-nil IsSettled }

-- All but the last.
but_last : (records : List JournalRecord) (r : JournalRecord) → take (length (records ++ r ∷ []) - 1) (records ++ r ∷ []) ≡ records
but_last records r = take_at records (r ∷ []) (length (records ++ r ∷ []) - 1) (omega (arith, length_push records r))

first_of_more : (records : List JournalRecord) (r : JournalRecord) → All IsSettled records → (records ≡ [] → IsSettled r) → All IsSettled (take 1 (records ++ r ∷ []))
first_of_more [] r settled first = All-cons IsSettled r [] (first refl) (All-nil IsSettled)
first_of_more (x ∷ xs) r settled first = All-take IsSettled 1 (x ∷ xs) settled

-- Settled records, and behind them one that is settled if it is the first.
pub order-push : (records : List JournalRecord) (r : JournalRecord) → All HasShortBody records → All IsSettled records → HasShortBody r → (records ≡ [] → IsSettled r) → AreInOrder (records ++ r ∷ [])
order-push records r short settled fits first = record {
  short = All-push HasShortBody records r short fits;
  first = first_of_more records r settled first;
  followed = All-same IsSettled (take (length (records ++ r ∷ []) - 1) (records ++ r ∷ [])) records (but_last records r) settled;
}

-- The records in front of the last are settled.
pub settled_before : (records : List JournalRecord) (r : JournalRecord) → AreInOrder (records ++ r ∷ []) → All IsSettled records
settled_before records r order = All-same IsSettled records (take (length (records ++ r ∷ []) - 1) (records ++ r ∷ [])) (sym (but_last records r)) order.followed

pub all_settled : (records : List JournalRecord) (r : JournalRecord) → AreInOrder (records ++ r ∷ []) → IsSettled r → All IsSettled (records ++ r ∷ [])
all_settled records r order settled = All-push IsSettled records r (settled_before records r order) settled

front_first : (before after : List JournalRecord) → All IsSettled (take 1 (before ++ after)) → All IsSettled (take 1 before)
front_first [] after first = All-nil IsSettled
front_first (x ∷ xs) after first = first

-- The first of records in order are in order.
pub order-front : (before after : List JournalRecord) → AreInOrder (before ++ after) → AreInOrder before
order-front before after order = record {
  short = All-same HasShortBody before (take n (before ++ after)) (sym whole) (All-take HasShortBody n (before ++ after) order.short);
  first = front_first before after order.first;
  followed = All-same IsSettled (take (n - 1) before) (take (n - 1) (take m (before ++ after))) same (All-take IsSettled (n - 1) (take m (before ++ after)) order.followed);
}
  where
    n : ℕ
    n = length before

    m : ℕ
    m = length (before ++ after) - 1

    whole : take n (before ++ after) ≡ before
    whole = take_at before after n refl

    same : take (n - 1) before ≡ take (n - 1) (take m (before ++ after))
    same =
        ap (take (n - 1)) (sym whole)
        ∙ take-take (n - 1) n (before ++ after) (omega arith)
        ∙ sym (take-take (n - 1) m (before ++ after) (omega (arith, length-append before after)))

-- The parts of records with a last one.
pub short_front : (records : List JournalRecord) (r : JournalRecord) → All HasShortBody (records ++ r ∷ []) → All HasShortBody records
short_front records r all = All-same HasShortBody records (take (length records) (records ++ r ∷ [])) (sym (take_at records (r ∷ []) (length records) refl)) (All-take HasShortBody (length records) (records ++ r ∷ []) all)

pub short_last : (records : List JournalRecord) (r : JournalRecord) → All HasShortBody (records ++ r ∷ []) → HasShortBody r
short_last [] r all = All-head HasShortBody r [] all
short_last (x ∷ xs) r all = short_last xs r (All-tail HasShortBody x (xs ++ r ∷ []) all)

last_of_all : (records : List JournalRecord) (r : JournalRecord) → All IsSettled (records ++ r ∷ []) → IsSettled r
last_of_all [] r all = All-head IsSettled r [] all
last_of_all (x ∷ xs) r all = last_of_all xs r (All-tail IsSettled x (xs ++ r ∷ []) all)

pub all_end_settled : (records : List JournalRecord) → All IsSettled records → EndSettled records
all_end_settled records all others last is = last_of_all others last (subst (All IsSettled) is all)

-- Records in order with a settled end are all settled.
pub settled_to_the_end : (records : List JournalRecord) → AreInOrder records → EndSettled records → All IsSettled records
settled_to_the_end [] order ends = All-nil IsSettled
settled_to_the_end (x ∷ xs) order ends =
    let last = with_last (x ∷ xs) (λ e. cc) in
    subst (All IsSettled) (sym last.2) (all_settled last.0 last.1 (subst AreInOrder last.2 order) (ends last.0 last.1 last.2))

-- One record more keeps the order where the end before it is settled, and where it is settled itself if it is the first.
pub order-more : (records : List JournalRecord) (r : JournalRecord) → AreInOrder records → EndSettled records → HasShortBody r → (records ≡ [] → IsSettled r) → AreInOrder (records ++ r ∷ [])
order-more records r order ends short first = order-push records r order.short (settled_to_the_end records order ends) short first
