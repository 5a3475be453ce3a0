-- A journal's records and its end, piece by piece.
use Rattle.std.proofs.Common.{◌≡◌, ◌≢◌, ℕ, ◌+◌, ◌-◌, ◌<◌, ◌≤◌, List, [], ◌∷◌, ◌++◌, length, drop, get_or, refl, sym, ap, subst, ◌∙◌, arith, length-append}
use Rattle.std.specs.List.{flat_map}
use Rattle.std.proofs.lemmas.List.{length_push}
use Rattle.std.proofs.lemmas.List.Sums.{sum_by-drop_more}
use Rattle.wse_log.specs.Grammar.{JournalRecord, HasShortBody, IsSettled, EndSettled, AreInOrder, BeginsWith, BreaksAt, BeginWithNoRecord, header, open_gate, settled_byte, framed, behind_gate, front, JournalEnd, ClosedAt, BrokenAt, Reads}
use Rattle.wse_log.proofs.Fronts.{length-framed, length-front-push, front-nil}
use Rattle.wse_log.proofs.Order.{order-more}
use Rattle.wse_log.proofs.Pieces.{none_last, first_holds, later_unsettled, later_cut, later_holds, end_settled}
use Rattle.wse_slow_reader.specs.declared.piece.Ending.{Ending}
use Rattle.wse_slow_reader.specs.declared.piece.Ending.TheVariants.{Closed, Broken}
use Rattle.wse_slow_reader.specs.declared.piece.Piece.TheVariants.{Holds, Ends}
use Rattle.wse_slow_reader.specs.Split.{end_of, length_of, IsPieceBehind}
use Rattle.std.proofs.lemmas.List.Elements.{All-nil}

some_push : {X : Type 0} (xs : List X) (x : X) → xs ++ x ∷ [] ≢ []
some_push xs x e = absurd (omega (arith, ap length e, length_push xs x))

-- one record more
module _ (area : List ℕ) (before : List JournalRecord) (r : JournalRecord) (order : AreInOrder before) (piece : IsPieceBehind area before (Holds r)) where
  pub more_order : AreInOrder (before ++ r ∷ [])
  more_order = order-more before r order piece.2 piece.1 piece.3

  pub more_begins : BeginsWith area (before ++ r ∷ [])
  more_begins = piece.0

pub more_some : (before : List JournalRecord) (r : JournalRecord) → before ++ r ∷ [] ≢ []
more_some before r = some_push before r

pub more_gate : (before : List JournalRecord) (r : JournalRecord) (gate next : ℕ) → gate ≡ length (front before) → next ≡ gate + (6 + length r.body) → next ≡ length (front (before ++ r ∷ []))
more_gate before r gate next e k = omega (arith, e, k, length-front-push before r)

pub first_gate : (r : JournalRecord) (next : ℕ) → next ≡ 14 + length r.body → next ≡ length (front ([] ++ r ∷ []))
first_gate r next k = omega (arith, k, ap length front-nil, length-front-push [] r)

-- the end
pub reads_end : (area : List ℕ) (records : List JournalRecord) (ending : Ending) → AreInOrder records → BeginsWith area records → IsPieceBehind area records (Ends ending) → Reads area records (end_of ending)
reads_end area records (Closed gate) order begins end = record { order = order; ends = end }
reads_end area records (Broken at) order begins end = (order, begins, end)

pub begins_none : (area : List ℕ) → BeginsWith area []
begins_none area = record { short = All-nil HasShortBody; rest = area; spelled = refl }

-- ---- behind the gate at a place

module _ (area : List ℕ) (before : List JournalRecord) (begins : BeginsWith area before) (some : before ≢ []) (gate : ℕ) (e : gate ≡ length (front before)) where
  pub unsettled_behind : gate < length area → get_or area gate 0 ≡ open_gate → (get_or area (gate - 1) 0 ≡ settled_byte → ⊥) → BreaksAt area before (gate - 1)
  unsettled_behind =
      subst (λ (n : ℕ). n < length area → get_or area n 0 ≡ open_gate → (get_or area (n - 1) 0 ≡ settled_byte → ⊥) → BreaksAt area before (n - 1)) (sym e) (later_unsettled area before begins some)

  pub cut_behind : gate < length area → get_or area gate 0 ≡ open_gate → get_or area (gate - 1) 0 ≡ settled_byte → BeginWithNoRecord (drop (gate + 1) area) → BreaksAt area before gate
  cut_behind =
      subst (λ (n : ℕ). n < length area → get_or area n 0 ≡ open_gate → get_or area (n - 1) 0 ≡ settled_byte → BeginWithNoRecord (drop (n + 1) area) → BreaksAt area before n) (sym e)
      (later_cut area before begins some)

  pub holds_behind : (r : JournalRecord) (more : List ℕ) → gate < length area → get_or area gate 0 ≡ open_gate → get_or area (gate - 1) 0 ≡ settled_byte → drop (gate + 1) area ≡ behind_gate r ++ more → HasShortBody r → IsPieceBehind area before (Holds r)
  holds_behind r more =
      subst (λ (n : ℕ). n < length area → get_or area n 0 ≡ open_gate → get_or area (n - 1) 0 ≡ settled_byte → drop (n + 1) area ≡ behind_gate r ++ more → HasShortBody r → IsPieceBehind area before (Holds r)) (sym e)
      (λ within opened mark whole short. (later_holds area before begins some r more within opened whole short, short, end_settled area before begins some mark, (λ none. absurd (some none))))

-- ---- behind the header

module _ (area : List ℕ) (starts : (rest : List ℕ) × (area ≡ header ++ rest)) where
  pub holds_first : (r : JournalRecord) (more : List ℕ) → 8 < length area → get_or area 8 0 ≡ open_gate → drop 9 area ≡ behind_gate r ++ more → HasShortBody r → r.mark ≡ settled_byte → IsPieceBehind area [] (Holds r)
  holds_first r more within opened whole short mark = (first_holds area starts.0 starts.1 r more within opened whole short, short, none_last area starts.0 starts.1, (λ none. mark))

-- ---- how long the records are

pub length_cons : (r : JournalRecord) (records : List JournalRecord) → length_of (r ∷ records) ≡ 6 + length r.body + length_of records
length_cons r records = sum_by-drop_more (λ (x : JournalRecord). 6 + length x.body) (r ∷ records) 0 r (omega arith)

six_more : (n : ℕ) → n + 6 ≡ 6 + n
six_more n = omega arith

framed_length : (records : List JournalRecord) → length (flat_map framed records) ≡ length_of records
framed_length [] = refl
framed_length (r ∷ records) =
    length-append (framed r) (flat_map framed records)
    ∙ ap (λ n. n + length (flat_map framed records)) (length-framed r ∙ six_more (length r.body))
    ∙ ap (λ n. 6 + length r.body + n) (framed_length records)
    ∙ sym (length_cons r records)

pub length_front : (records : List JournalRecord) → length (front records) ≡ 8 + length_of records
unfolding front
length_front records = length-append header (flat_map framed records) ∙ ap (λ n. 8 + n) (framed_length records)
