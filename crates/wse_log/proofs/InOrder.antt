-- Scans of an area's pieces give its records in order, and then its end.
use Rattle.std.proofs.Common.{◌≡◌, ℕ, ◌+◌, ◌-◌, List, [], ◌∷◌, ◌++◌, length, take, refl, sym, ◌∙◌, ap, subst, arith, append_assoc, length-append}
use Rattle.std.specs.Prelude.{Bool, Option, Some, None, Result, Ok, Err, IfOk}
use Rattle.std.proofs.lemmas.List.{append-nil, take_at, take-take}
use Rattle.std.proofs.lemmas.List.Elements.{All-nil, All-same, All-take, All-head}
use Rattle.wse_disk.specs.declared.area.Area.{Area}
use Rattle.wse_disk.specs.Reading.{area_of}
use Rattle.wse_disk.specs.Standing.{Standing}
use Rattle.wse_log.specs.declared.step.Step.{Step}
use Rattle.wse_log.specs.declared.step.Step.TheVariants.{Entry, End}
use Rattle.wse_log.specs.declared.step.ScanFault.{ScanFault}
use Rattle.wse_log.specs.declared.step.ScanFault.TheVariants.{NotALog, Disk, Memory}
use Rattle.wse_log.specs.Grammar.{JournalRecord, IsSettled, HasShortBody, AreInOrder, EndSettled, front, BeginsWith, JournalEnd, ClosedAt, BrokenAt, Reads}
use Rattle.wse_log.specs.Scan.{entry_of, IsAtPiece, IsPieceBehind, GivesPiece, answer_behind, IsUnlessFault, GivesInOrder, CanScanOn}
use Rattle.wse_log.proofs.Fronts.{stretch-some, stretch-push, length-front-push}
use Rattle.wse_log.proofs.Order.{all_end_settled}
use Rattle.wse_log.proofs.Places.{fewer, closed_begins}
use Rattle.wse_log.proofs.Once.{Piece, Holds, Ends, Breaks, IsPiece, one_piece}

-- The piece behind the first records of an area that has these other records and then ends so.
abbrev pub piece_of : List JournalRecord → JournalEnd → Piece
piece_of (r ∷ others) ending = Holds r
piece_of [] (ClosedAt gate) = Ends gate
piece_of [] (BrokenAt place) = Breaks place

reads_order : (area : List ℕ) (records : List JournalRecord) (ending : JournalEnd) → Reads area records ending → AreInOrder records
reads_order area records (ClosedAt gate) is = is.order
reads_order area records (BrokenAt place) is = is.0

reads_whole : (area : List ℕ) (records : List JournalRecord) (ending : JournalEnd) → Reads area records ending → BeginsWith area records
reads_whole area records (ClosedAt gate) is = closed_begins area records gate is.order.short is.ends
reads_whole area records (BrokenAt place) is = is.1

-- Records that others follow are settled.
followed_settled : (before : List JournalRecord) (r : JournalRecord) (others : List JournalRecord) → AreInOrder (before ++ r ∷ others) → EndSettled before
followed_settled before r others order =
    let whole = before ++ r ∷ others in
    let n = length before in
    let m = length whole - 1 in
    let same : before ≡ take n (take m whole) =
    sym (take_at before (r ∷ others) n refl) ∙ sym (take-take n m whole (omega (arith, length-append before (r ∷ others)))) in
    all_end_settled before (All-same IsSettled before (take n (take m whole)) same (All-take IsSettled n (take m whole) order.followed))

first_settled : (before : List JournalRecord) (r : JournalRecord) (others : List JournalRecord) → AreInOrder (before ++ r ∷ others) → before ≡ [] → IsSettled r
first_settled [] r others order none = All-head IsSettled r [] order.first
first_settled (x ∷ xs) r others order none = cc

pub reads_piece : (area : List ℕ) (before after : List JournalRecord) (ending : JournalEnd) → Reads area (before ++ after) ending → IsPiece area before (piece_of after ending)
reads_piece area before (r ∷ others) ending is =
    let order = reads_order area (before ++ r ∷ others) ending is in
    let regrouped : BeginsWith area ((before ++ r ∷ []) ++ others) = subst (BeginsWith area) (sym (append_assoc before (r ∷ []) others)) (reads_whole area (before ++ r ∷ others) ending is) in
    (fewer area (before ++ r ∷ []) others regrouped, followed_settled before r others order, first_settled before r others order)
reads_piece area before [] (ClosedAt gate) is = (subst (λ (l : List JournalRecord). Reads area l (ClosedAt gate)) (append-nil before) is).ends
reads_piece area before [] (BrokenAt place) is = (subst (λ (l : List JournalRecord). Reads area l (BrokenAt place)) (append-nil before) is).2

pub reads_begins : (area : List ℕ) (before after : List JournalRecord) (ending : JournalEnd) → Reads area (before ++ after) ending → BeginsWith area before
reads_begins area before after ending is = fewer area before after (reads_whole area (before ++ after) ending is)

-- The answer that is that piece.
abbrev answer_of : List JournalRecord → Piece → Result Step ScanFault
answer_of before (Holds r) = Ok (entry_of (length (front before)) r.body r.mark)
answer_of before (Ends gate) = Ok (End gate)
answer_of before (Breaks place) = Err (NotALog place)

same_answer : (before after : List JournalRecord) (ending : JournalEnd) → answer_of before (piece_of after ending) ≡ answer_behind before after ending
same_answer before (r ∷ others) ending = refl
same_answer before [] (ClosedAt gate) = refl
same_answer before [] (BrokenAt place) = refl

in_order : (area : List ℕ) (before after : List JournalRecord) (ending : JournalEnd) (result : Result Step ScanFault) → Reads area (before ++ after) ending → IsPieceBehind area before result → IsUnlessFault result (answer_behind before after ending)
in_order area before after ending (Ok (Entry body gate settled next)) reads is =
    ap Ok is.4 ∙ ap (answer_of before) (one_piece area before (Holds (record { body = body; mark = is.0 })) (piece_of after ending) (is.1, is.2, is.3) (reads_piece area before after ending reads)) ∙ same_answer before after ending
in_order area before after ending (Ok (End gate)) reads is =
    ap (answer_of before) (one_piece area before (Ends gate) (piece_of after ending) is (reads_piece area before after ending reads)) ∙ same_answer before after ending
in_order area before after ending (Err (NotALog place)) reads is =
    ap (answer_of before) (one_piece area before (Breaks place) (piece_of after ending) is (reads_piece area before after ending reads)) ∙ same_answer before after ending
in_order area before after ending (Err Disk) reads is = tt
in_order area before after ending (Err Memory) reads is = tt

pub gives_in_order : (told : Option Standing) (area : Area) (at' : ℕ) (result : Result Step ScanFault) → GivesPiece told area at' result → GivesInOrder told area at' result
gives_in_order None area at' result gives = tt
gives_in_order (Some s) area at' result gives = λ before after ending reads place.
    in_order (area_of area s.reading) before after ending result reads (gives before (reads_begins (area_of area s.reading) before after ending reads) place)

-- The place behind an answer is that of the next piece.
pub goes_on : (told : Option Standing) (area : Area) (at' : ℕ) (step : Step) → IsAtPiece told area at' → GivesPiece told area at' (Ok step) → CanScanOn told area step
goes_on None area at' step is gives = tt
goes_on (Some s) area at' (Entry body gate settled next) is gives =
    let piece = gives is.0 is.1 is.2 in
    let r : JournalRecord = record { body = body; mark = piece.0 } in
    let place : next ≡ length (front is.0) + 6 + length body = next_of piece.4 in
    (is.0 ++ r ∷ [], piece.1, omega (arith, place, length-front-push is.0 r, ap length (stretch-push is.0 r)))
  where
    next_of : {body other : List ℕ} {gate next place after : ℕ} {settled last : Bool} → Entry body gate settled next ≡ Entry other place last after → next ≡ after
    next_of e = cc
goes_on (Some s) area at' (End gate) is gives =
    let piece = gives is.0 is.1 is.2 in
    (is.0, is.1, piece.place ∙ sym (ap length (stretch-some is.0 piece.some)))

pub goes_on_where_ok : (told later : Option Standing) (area : Area) (at' : ℕ) (result : Result Step ScanFault) → later ≡ told → IsAtPiece told area at' → GivesPiece told area at' result → IfOk result (CanScanOn later area)
goes_on_where_ok told later area at' (Ok step) same is gives = subst (λ (t : Option Standing). CanScanOn t area step) (sym same) (goes_on told area at' step is gives)
goes_on_where_ok told later area at' (Err fault) same is gives = tt

-- The journal's start is the place of a piece in every area.
pub at_start : (told : Option Standing) (area : Area) → IsAtPiece told area 0
at_start None area = tt
at_start (Some s) area = ([], record { short = All-nil HasShortBody; rest = area_of area s.reading; spelled = refl }, refl)
