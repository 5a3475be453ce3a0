-- Behind its first records an area has one piece.
use Rattle.std.proofs.Common.{◌≡◌, ◌≢◌, ◌⊎◌, inl, inr, ℕ, zero, suc, ◌+◌, ◌-◌, ◌<◌, List, [], ◌∷◌, ◌++◌, length, take, drop, refl, sym, ◌∙◌, ap, subst, arith, append_assoc}
use Rattle.std.specs.Prelude.{Bool, slice_get, Some, None, ◌==◌, if◌then◌else◌}
use Rattle.std.proofs.lemmas.Bool.{cases_eq, eq-eqb, ne_eqb}
use Rattle.std.proofs.lemmas.Option.{slice_get_past}
use Rattle.std.proofs.lemmas.List.{append-nil, length_push}
use Rattle.wse_log.specs.Grammar.{JournalRecord, IsSettled, HasShortBody, header, open_gate, settled_byte, framed, behind_gate, front, EndSettled, BeginsWith, EndsClosed, FailsHeader, BeginWithNoRecord, BreaksAt, NoHeader, NoGate, NeverOpened, NotWhole, FirstUnsettled, Unsettled}
use Rattle.wse_log.proofs.Fronts.{front-nil, front-push, stretch-push}
use Rattle.wse_log.proofs.Order.{short_last}
use Rattle.wse_log.proofs.Unique.{one_record}
use Rattle.wse_log.proofs.Places.{byte_behind, rest_behind, begins_with_header}

-- One record more, a closed gate, or the first place where the area is no journal.
pub data Piece : Type 0 where
  Holds : (r : JournalRecord) → Piece
  Ends : (gate : ℕ) → Piece
  Breaks : (place : ℕ) → Piece

abbrev pub IsPiece : List ℕ → List JournalRecord → Piece → Type 0
IsPiece area before (Holds r) = BeginsWith area (before ++ r ∷ []) × EndSettled before × (before ≡ [] → IsSettled r)
IsPiece area before (Ends gate) = EndsClosed area before gate
IsPiece area before (Breaks place) = BreaksAt area before place

-- The piece where a whole record stands behind the gate.
holding : List JournalRecord → JournalRecord → Piece
holding [] r = if r.mark == settled_byte then Holds r else Breaks (length (front (r ∷ [])) - 1)
holding (x ∷ xs) r = Holds r

-- The piece where the gate is closed.
shut : List JournalRecord → Piece
shut [] = Breaks 8
shut (x ∷ xs) = Ends (length (front (x ∷ xs)))

-- The piece by what stands behind an open gate, then by the mark in front of it, then by the gate's byte, then by whether
-- the gate is there, then by the header.
module _ (area : List ℕ) (before : List JournalRecord) where
  abbrev ByRecord : Piece → Type 0
  ByRecord piece =
      (BeginWithNoRecord (drop (length (front before) + 1) area) × (piece ≡ Breaks (length (front before))))
      ⊎ ((r : JournalRecord) × (more : List ℕ) × HasShortBody r × (drop (length (front before) + 1) area ≡ behind_gate r ++ more) × (piece ≡ holding before r))

  abbrev ByMark : Piece → Type 0
  ByMark piece =
      ((others : List JournalRecord) × (r : JournalRecord) × (before ≡ others ++ r ∷ []) × (r.mark ≢ settled_byte) × (piece ≡ Breaks (length (front before) - 1)))
      ⊎ (EndSettled before × ByRecord piece)

  abbrev ByByte : ℕ → Piece → Type 0
  ByByte byte piece = ((byte ≢ open_gate) × (piece ≡ shut before)) ⊎ ((byte ≡ open_gate) × ByMark piece)

  abbrev ByGate : Piece → Type 0
  ByGate piece =
      ((slice_get area (length (front before)) ≡ None) × (piece ≡ Breaks (length (front before))))
      ⊎ ((byte : ℕ) × (slice_get area (length (front before)) ≡ Some byte) × ByByte byte piece)

  abbrev ByHeader : Piece → Type 0
  ByHeader piece =
      ((place : ℕ) × FailsHeader area place × (piece ≡ Breaks place))
      ⊎ ((tail : List ℕ) × (area ≡ header ++ tail) × ByGate piece)

  one_by_record : (p q : Piece) → ByRecord p → ByRecord q → p ≡ q
  one_by_record p q (inl a) (inl b) = a.1 ∙ sym b.1
  one_by_record p q (inl a) (inr b) = absurd (a.0 b.0 b.1 b.2 b.3)
  one_by_record p q (inr a) (inl b) = absurd (b.0 a.0 a.1 a.2 a.3)
  one_by_record p q (inr a) (inr b) = a.4 ∙ ap (holding before) (one_record a.0 b.0 a.1 b.1 a.2 b.2 (sym a.3 ∙ b.3)).0 ∙ sym b.4

  one_by_mark : (p q : Piece) → ByMark p → ByMark q → p ≡ q
  one_by_mark p q (inl a) (inl b) = a.4 ∙ sym b.4
  one_by_mark p q (inl a) (inr b) = absurd (a.3 (b.0 a.0 a.1 a.2))
  one_by_mark p q (inr a) (inl b) = absurd (b.3 (a.0 b.0 b.1 b.2))
  one_by_mark p q (inr a) (inr b) = one_by_record p q a.1 b.1

  one_by_byte : (byte : ℕ) (p q : Piece) → ByByte byte p → ByByte byte q → p ≡ q
  one_by_byte byte p q (inl a) (inl b) = a.1 ∙ sym b.1
  one_by_byte byte p q (inl a) (inr b) = absurd (a.0 b.0)
  one_by_byte byte p q (inr a) (inl b) = absurd (b.0 a.0)
  one_by_byte byte p q (inr a) (inr b) = one_by_mark p q a.1 b.1

  one_by_gate : (p q : Piece) → ByGate p → ByGate q → p ≡ q
  one_by_gate p q (inl a) (inl b) = a.1 ∙ sym b.1
  one_by_gate p q (inl a) (inr b) = let e : None ≡ Some b.0 = sym a.0 ∙ b.1 in cc
  one_by_gate p q (inr a) (inl b) = let e : None ≡ Some a.0 = sym b.0 ∙ a.1 in cc
  one_by_gate p q (inr a) (inr b) =
      let e : Some a.0 ≡ Some b.0 = sym a.1 ∙ b.1 in
      let same : a.0 ≡ b.0 = cc in
      one_by_byte b.0 p q (subst (λ (byte : ℕ). ByByte byte p) same a.2) b.2

-- What is read in the front of a list.
pub read_in_front : (n i : ℕ) (xs : List ℕ) → i < n → slice_get (take n xs) i ≡ slice_get xs i
read_in_front zero i xs below = absurd (omega arith)
read_in_front (suc n) i [] below = refl
read_in_front (suc n) zero (x ∷ xs) below = refl
read_in_front (suc n) (suc i) (x ∷ xs) below = read_in_front n i xs (omega arith)

-- Lists with the same front have the same elements there.
same_reads : (n i : ℕ) (xs ys : List ℕ) → take n xs ≡ take n ys → i < n → slice_get xs i ≡ slice_get ys i
same_reads n i xs ys same below = sym (read_in_front n i xs below) ∙ ap (λ (l : List ℕ). slice_get l i) same ∙ read_in_front n i ys below

one_fault : (area : List ℕ) (p q : ℕ) → FailsHeader area p → FailsHeader area q → p ≡ q
one_fault area p q a b = elim (cases_eq p q) [
  | inl same ↦ same
  | inr apart ↦ absurd (elim (less p q apart) [
    | inl lt ↦ a.differs (same_reads q p area header b.same lt)
    | inr gt ↦ b.differs (same_reads p q area header a.same gt)
  ])
]
  where
    less : (p q : ℕ) → p ≢ q → (p < q) ⊎ (q < p)
    less zero zero apart = absurd (apart refl)
    less zero (suc q) apart = inl (omega arith)
    less (suc p) zero apart = inr (omega arith)
    less (suc p) (suc q) apart = elim (less p q (λ e. apart (ap suc e))) [ inl lt ↦ inl (omega arith) | inr gt ↦ inr (omega arith) ]

no_fault : (area tail : List ℕ) (p : ℕ) → FailsHeader area p → area ≡ header ++ tail → ⊥
no_fault area tail p a is = a.differs (same_reads 8 p area header (ap (take 8) is) a.within)

one_by_header : (area : List ℕ) (before : List JournalRecord) (p q : Piece) → ByHeader area before p → ByHeader area before q → p ≡ q
one_by_header area before p q (inl a) (inl b) = a.2 ∙ ap Breaks (one_fault area a.0 b.0 a.1 b.1) ∙ sym b.2
one_by_header area before p q (inl a) (inr b) = absurd (no_fault area b.0 a.0 a.1 b.1)
one_by_header area before p q (inr a) (inl b) = absurd (no_fault area a.0 b.0 b.1 a.1)
one_by_header area before p q (inr a) (inr b) = one_by_gate area before p q a.2 b.2

-- A byte stands behind the records.
with_byte : (area : List ℕ) (before : List JournalRecord) (piece : Piece) (byte : ℕ) (rest : List ℕ) → area ≡ front before ++ byte ∷ rest → ByByte area before byte piece → ByHeader area before piece
with_byte area before piece byte rest is by =
    let start = begins_with_header area before (byte ∷ rest) is in
    inr (start.0, start.1, inr (byte, byte_behind area before byte rest is, by))

holding_settled : (before : List JournalRecord) (r : JournalRecord) → (before ≡ [] → r.mark ≡ settled_byte) → Holds r ≡ holding before r
unfolding holding
holding_settled [] r settled = ap (λ (b : Bool). if b then Holds r else Breaks (length (front (r ∷ [])) - 1)) (sym (eq-eqb r.mark settled_byte (settled refl)))
holding_settled (x ∷ xs) r settled = refl

by_record : (area : List ℕ) (before : List JournalRecord) (r : JournalRecord) → BeginsWith area (before ++ r ∷ []) → EndSettled before → (before ≡ [] → IsSettled r) → ByHeader area before (Holds r)
by_record area before r h settled first =
    let is : area ≡ front before ++ open_gate ∷ (behind_gate r ++ h.rest) =
    h.spelled ∙ ap (λ (l : List ℕ). l ++ h.rest) (stretch-push before r ∙ front-push before r) ∙ append_assoc (front before) (framed r) h.rest in
    let short : HasShortBody r = short_last before r h.short in
    with_byte area before (Holds r) open_gate (behind_gate r ++ h.rest) is (inr (refl, inr (settled, inr (r, h.rest, short, rest_behind area before open_gate (behind_gate r ++ h.rest) is, holding_settled before r first))))

by_end : (area : List ℕ) (before : List JournalRecord) (gate : ℕ) → EndsClosed area before gate → ByHeader area before (Ends gate)
unfolding shut
by_end area before gate h = with_byte area before (Ends gate) h.byte h.rest h.spelled (inl (h.closed, ends before h.some h.place))
  where
    ends : (before : List JournalRecord) → before ≢ [] → gate ≡ length (front before) → Ends gate ≡ shut before
    ends [] some place = absurd (some refl)
    ends (x ∷ xs) some place = ap Ends place

never_opened : (area : List ℕ) (before : List JournalRecord) (place gate : ℕ) (rest : List ℕ) → before ≡ [] → area ≡ header ++ gate ∷ rest → gate ≢ open_gate → place ≡ 8 → ByHeader area before (Breaks place)
unfolding shut
never_opened area [] place gate rest none is closed at' = with_byte area [] (Breaks place) gate rest (is ∙ ap (λ (l : List ℕ). l ++ gate ∷ rest) (sym front-nil)) (inl (closed, ap Breaks at'))
never_opened area (x ∷ xs) place gate rest none is closed at' = cc

unsettled_first : (area : List ℕ) (before : List JournalRecord) (place : ℕ) (r : JournalRecord) (rest : List ℕ) → before ≡ [] → HasShortBody r → area ≡ front (r ∷ []) ++ rest → r.mark ≢ settled_byte → place + 1 ≡ length (front (r ∷ [])) → ByHeader area before (Breaks place)
unfolding holding
unsettled_first area [] place r rest none short whole unsettled at' =
    let is : area ≡ front [] ++ open_gate ∷ (behind_gate r ++ rest) = whole ∙ ap (λ (l : List ℕ). l ++ rest) (front-push [] r) ∙ append_assoc (front []) (framed r) rest in
    with_byte area [] (Breaks place) open_gate (behind_gate r ++ rest) is (inr (refl, inr (none_last, inr (r, rest, short, rest_behind area [] open_gate (behind_gate r ++ rest) is, broken r unsettled at'))))
  where
    none_last : EndSettled []
    none_last others last is = absurd (omega (arith, ap length is, length_push others last))

    broken : (r : JournalRecord) → r.mark ≢ settled_byte → place + 1 ≡ length (front (r ∷ [])) → Breaks place ≡ holding [] r
    broken r unsettled at' =
        let g : place ≡ length (front (r ∷ [])) - 1 = omega (arith, at') in
        ap Breaks g ∙ ap (λ (b : Bool). if b then Holds r else Breaks (length (front (r ∷ [])) - 1)) (sym (ne_eqb r.mark settled_byte unsettled))
unsettled_first area (x ∷ xs) place r rest none short whole unsettled at' = cc

by_break : (area : List ℕ) (before : List JournalRecord) (place : ℕ) → BreaksAt area before place → ByHeader area before (Breaks place)
by_break area before place (NoHeader none fails) = inl (place, fails, refl)
by_break area before place (NoGate whole at') =
    let is : area ≡ front before ++ [] = whole ∙ sym (append-nil (front before)) in
    let start = begins_with_header area before [] is in
    let g : place ≡ length (front before) = at' ∙ ap length whole in
    inr (start.0, start.1, inl (slice_get_past area (length (front before)) (omega (arith, ap length whole)), ap Breaks g))
by_break area before place (NeverOpened gate rest none whole closed at') = never_opened area before place gate rest none whole closed at'
by_break area before place (NotWhole rest settled whole none at') = with_byte area before (Breaks place) open_gate rest whole (inr (refl, inr (settled, inl (subst BeginWithNoRecord (sym (rest_behind area before open_gate rest whole)) none, ap Breaks at'))))
by_break area before place (FirstUnsettled r rest none short whole unsettled at') = unsettled_first area before place r rest none short whole unsettled at'
by_break area before place (Unsettled others r rest is whole unsettled at') =
    let g : place ≡ length (front before) - 1 = omega (arith, at') in
    with_byte area before (Breaks place) open_gate rest whole (inr (refl, inl (others, r, is, unsettled, ap Breaks g)))

by_piece : (area : List ℕ) (before : List JournalRecord) (piece : Piece) → IsPiece area before piece → ByHeader area before piece
by_piece area before (Holds r) is = by_record area before r is.0 is.1 is.2
by_piece area before (Ends gate) is = by_end area before gate is
by_piece area before (Breaks place) is = by_break area before place is

pub one_piece : (area : List ℕ) (before : List JournalRecord) (p q : Piece) → IsPiece area before p → IsPiece area before q → p ≡ q
one_piece area before p q is also = one_by_header area before p q (by_piece area before p is) (by_piece area before q also)
