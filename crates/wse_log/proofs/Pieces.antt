-- What is found in an area makes the piece behind its first records.
use Rattle.std.proofs.Common.{◌≡◌, ◌≢◌, ℕ, ◌+◌, ◌-◌, ◌<◌, ◌≤◌, List, [], ◌∷◌, ◌++◌, length, drop, get_or, refl, sym, ◌∙◌, ap, subst, arith, append_assoc}
use Rattle.std.specs.List.{All}
use Rattle.std.proofs.lemmas.List.{length_push}
use Rattle.std.proofs.lemmas.List.Elements.{All-nil, All-push}
use Rattle.wse_log.specs.Grammar.{JournalRecord, HasShortBody, EndSettled, header, open_gate, settled_byte, framed, behind_gate, front, BeginsWith, EndsClosed, BeginWithNoRecord, BreaksAt, NoGate, NeverOpened, NotWhole, FirstUnsettled, Unsettled}
use Rattle.wse_log.proofs.Fronts.{front-nil, front-push, length-front-push, length-front-le, stretch-some, stretch-push, with_last}
use Rattle.wse_log.proofs.Places.{byte_and_rest, ends_behind, mark_before}

-- A whole record stands behind the open gate.
pub holds : (area : List ℕ) (before : List JournalRecord) (r : JournalRecord) (rest more : List ℕ) → All HasShortBody (before ++ r ∷ []) → area ≡ front before ++ open_gate ∷ rest → rest ≡ behind_gate r ++ more → BeginsWith area (before ++ r ∷ [])
holds area before r rest more short is whole = record {
  short = short;
  rest = more;
  spelled =
      is ∙ ap (λ (l : List ℕ). front before ++ open_gate ∷ l) whole
      ∙ sym (append_assoc (front before) (framed r) more)
      ∙ ap (λ (l : List ℕ). l ++ more) (sym (front-push before r) ∙ sym (stretch-push before r));
}

-- The gate's byte is this one.
pub with_gate : (area : List ℕ) (before : List JournalRecord) (rest : List ℕ) (byte : ℕ) → area ≡ front before ++ rest → length (front before) < length area → get_or area (length (front before)) 0 ≡ byte → area ≡ front before ++ byte ∷ drop (length (front before) + 1) area
with_gate area before rest byte is within same = byte_and_rest area before rest is within ∙ ap (λ (b : ℕ). front before ++ b ∷ drop (length (front before) + 1) area) same

pub missing : (area : List ℕ) (before : List JournalRecord) (rest : List ℕ) → area ≡ front before ++ rest → length area ≤ length (front before) → BreaksAt area before (length (front before))
missing area before rest is short =
    let whole = ends_behind area before rest is short in
    NoGate whole (sym (ap length whole))

pub cut_off : (area : List ℕ) (before : List JournalRecord) → EndSettled before → area ≡ front before ++ open_gate ∷ drop (length (front before) + 1) area → BeginWithNoRecord (drop (length (front before) + 1) area) → BreaksAt area before (length (front before))
cut_off area before settled is none = NotWhole (drop (length (front before) + 1) area) settled is none refl

-- The first piece.
module _ (area tail : List ℕ) (is : area ≡ header ++ tail) where
  starts : area ≡ front [] ++ tail
  starts = is ∙ ap (λ (l : List ℕ). l ++ tail) (sym front-nil)

  eight : length (front []) ≡ 8
  eight = ap length front-nil

  pub none_last : EndSettled []
  none_last others last none = absurd (omega (arith, ap length none, length_push others last))

  opened_first : 8 < length area → get_or area 8 0 ≡ open_gate → area ≡ front [] ++ open_gate ∷ drop (8 + 1) area
  opened_first within same =
      let P : ℕ → Type 0 = λ n. n < length area → get_or area n 0 ≡ open_gate → area ≡ front [] ++ open_gate ∷ drop (n + 1) area in
      subst P eight (with_gate area [] tail open_gate starts) within same

  pub first_missing : length area ≤ 8 → BreaksAt area [] 8
  first_missing short = subst (BreaksAt area []) eight (missing area [] tail starts (omega (arith, eight)))

  pub first_closed : 8 < length area → (get_or area 8 0 ≡ open_gate → ⊥) → BreaksAt area [] 8
  first_closed within closed =
      let P : ℕ → Type 0 = λ n. n < length area → area ≡ front [] ++ get_or area n 0 ∷ drop (n + 1) area in
      let whole = subst P eight (byte_and_rest area [] tail starts) within in
      NeverOpened (get_or area 8 0) (drop 9 area) refl (whole ∙ ap (λ (l : List ℕ). l ++ get_or area 8 0 ∷ drop 9 area) front-nil) closed refl

  pub first_cut : 8 < length area → get_or area 8 0 ≡ open_gate → BeginWithNoRecord (drop 9 area) → BreaksAt area [] 8
  first_cut within same none =
      let P : ℕ → Type 0 = λ n. area ≡ front [] ++ open_gate ∷ drop (n + 1) area → BeginWithNoRecord (drop (n + 1) area) → BreaksAt area [] n in
      subst P eight (cut_off area [] none_last) (opened_first within same) none

  pub first_unsettled : (r : JournalRecord) (more : List ℕ) → 8 < length area → get_or area 8 0 ≡ open_gate → drop 9 area ≡ behind_gate r ++ more → HasShortBody r → (r.mark ≡ settled_byte → ⊥) → BreaksAt area [] (13 + length r.body)
  first_unsettled r more within same whole short unsettled =
      FirstUnsettled r more refl short
      (opened_first within same ∙ ap (λ (l : List ℕ). front [] ++ open_gate ∷ l) whole ∙ sym (append_assoc (front []) (framed r) more) ∙ ap (λ (l : List ℕ). l ++ more) (sym (front-push [] r)))
      unsettled
      (omega (arith, length-front-push [] r, eight))

  pub first_holds : (r : JournalRecord) (more : List ℕ) → 8 < length area → get_or area 8 0 ≡ open_gate → drop 9 area ≡ behind_gate r ++ more → HasShortBody r → BeginsWith area ([] ++ r ∷ [])
  first_holds r more within same whole short =
      holds area [] r (drop 9 area) more (All-push HasShortBody [] r (All-nil HasShortBody) short) (opened_first within same) whole

-- A later piece.
module _ (area : List ℕ) (before : List JournalRecord) (begins : BeginsWith area before) (some : before ≢ []) where
  goes_on : area ≡ front before ++ begins.rest
  goes_on = begins.spelled ∙ ap (λ (l : List ℕ). l ++ begins.rest) (stretch-some before some)

  pub later_missing : length area ≤ length (front before) → BreaksAt area before (length (front before))
  later_missing short = missing area before begins.rest goes_on short

  pub later_closed : length (front before) < length area → (get_or area (length (front before)) 0 ≡ open_gate → ⊥) → EndsClosed area before (length (front before))
  later_closed within closed = record {
    some = some;
    byte = get_or area (length (front before)) 0;
    rest = drop (length (front before) + 1) area;
    closed = closed;
    spelled = byte_and_rest area before begins.rest goes_on within;
    place = refl;
  }

  -- The byte in front of the gate is the last record's mark.
  mark_is : (others : List JournalRecord) (r : JournalRecord) → before ≡ others ++ r ∷ [] → get_or area (length (front before) - 1) 0 ≡ r.mark
  mark_is others r is =
      let spelled : area ≡ front (others ++ r ∷ []) ++ begins.rest = goes_on ∙ ap (λ (l : List JournalRecord). front l ++ begins.rest) is in
      ap (λ (l : List JournalRecord). get_or area (length (front l) - 1) 0) is ∙ mark_before area others r begins.rest spelled

  pub later_unsettled : length (front before) < length area → get_or area (length (front before)) 0 ≡ open_gate → (get_or area (length (front before) - 1) 0 ≡ settled_byte → ⊥) → BreaksAt area before (length (front before) - 1)
  later_unsettled within same unsettled =
      let last = with_last before some in
      Unsettled last.0 last.1 (drop (length (front before) + 1) area) last.2 (with_gate area before begins.rest open_gate goes_on within same) (λ e. unsettled (mark_is last.0 last.1 last.2 ∙ e)) (omega (arith, length-front-le before))

  -- Where that byte says so, the last record is settled.
  pub end_settled : get_or area (length (front before) - 1) 0 ≡ settled_byte → EndSettled before
  end_settled settled others last is = sym (mark_is others last is) ∙ settled

  pub later_cut : length (front before) < length area → get_or area (length (front before)) 0 ≡ open_gate → get_or area (length (front before) - 1) 0 ≡ settled_byte → BeginWithNoRecord (drop (length (front before) + 1) area) → BreaksAt area before (length (front before))
  later_cut within same settled none = cut_off area before (end_settled settled) (with_gate area before begins.rest open_gate goes_on within same) none

  pub later_holds : (r : JournalRecord) (more : List ℕ) → length (front before) < length area → get_or area (length (front before)) 0 ≡ open_gate → drop (length (front before) + 1) area ≡ behind_gate r ++ more → HasShortBody r → BeginsWith area (before ++ r ∷ [])
  later_holds r more within same whole short =
      holds area before r (drop (length (front before) + 1) area) more (All-push HasShortBody before r begins.short short) (with_gate area before begins.rest open_gate goes_on within same) whole
