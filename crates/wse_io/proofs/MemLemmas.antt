-- Pieces that stand in one list of bytes.
use Rattle.std.proofs.Common.{◌≡◌, ◌≢◌, Bool, true, false, cond, ℕ, zero, suc, Ok, ◌≤◌, List, [], ◌∷◌, ◌++◌, length, map, take, drop, sum_by, refl, sym, ap, ◌∙◌, arith, length-drop}
use Rattle.std.proofs.lemmas.List.{take-append-drop, take-append-le, drop-append-le, take_all, take_at, length-take-le, nil_from_length}
use Rattle.std.proofs.lemmas.List.Sums.{sum_by-cons}
use Rattle.wse_io.specs.Stream.{bytes_of, piece_by}
use Rattle.wse_io.specs.Mem.{mark_of, pieces_in}
use Rattle.wse_io.specs.declared.mem.Mark.{Mark}

-- The marks' pieces are all the bytes.
pub pieces_all : (marks : List Mark) (bytes : List ℕ) → sum_by (λ (m : Mark). m.count) marks ≡ length bytes → bytes_of (pieces_in marks bytes) ≡ bytes
unfolding pieces_in bytes_of
pieces_all [] bytes e = sym (nil_from_length bytes (sym e))
pieces_all (m ∷ marks) bytes e =
    ap (λ l. take m.count bytes ++ l) (pieces_all marks (drop m.count bytes) (omega (arith, e, sum_by-cons (λ (m : Mark). m.count) m marks, length-drop m.count bytes))) ∙ take-append-drop m.count bytes

-- The marks are those of the pieces.
pub marks_all : (marks : List Mark) (bytes : List ℕ) → sum_by (λ (m : Mark). m.count) marks ≡ length bytes → map mark_of (pieces_in marks bytes) ≡ marks
unfolding pieces_in
marks_all [] bytes e = refl
marks_all (m ∷ marks) bytes e =
    let whole = sum_by-cons (λ (m : Mark). m.count) m marks in
    ap (λ n. (record { count = n; moment = m.moment }) ∷ map mark_of (pieces_in marks (drop m.count bytes))) (length-take-le m.count bytes (omega (arith, e, whole)))
    ∙ ap (λ l. m ∷ l) (marks_all marks (drop m.count bytes) (omega (arith, e, whole, length-drop m.count bytes)))

-- One piece more comes behind them.
pub pieces_push : (marks : List Mark) (bytes piece : List ℕ) (moment : ℕ) → sum_by (λ (m : Mark). m.count) marks ≡ length bytes
    → pieces_in (marks ++ (record { count = length piece; moment = moment }) ∷ []) (bytes ++ piece) ≡ pieces_in marks bytes ++ (record { bytes = piece; moment = moment }) ∷ []
unfolding pieces_in
pieces_push [] bytes piece moment e =
    ap (λ l. record { bytes = l; moment = moment } ∷ []) (ap (λ b. take (length piece) (b ++ piece)) (nil_from_length bytes (sym e)) ∙ take_all (length piece) piece (omega arith))
pieces_push (m ∷ marks) bytes piece moment e =
    let within : m.count ≤ length bytes = omega (arith, e, sum_by-cons (λ (m : Mark). m.count) m marks) in
    ap (λ l. record { bytes = l; moment = m.moment } ∷ pieces_in (marks ++ (record { count = length piece; moment = moment }) ∷ []) (drop m.count (bytes ++ piece))) (take-append-le m.count bytes piece within)
    ∙ ap (λ l. record { bytes = take m.count bytes; moment = m.moment } ∷ pieces_in (marks ++ (record { count = length piece; moment = moment }) ∷ []) l) (drop-append-le m.count bytes piece within)
    ∙ ap (λ l. record { bytes = take m.count bytes; moment = m.moment } ∷ l) (pieces_push marks (drop m.count bytes) piece moment (omega (arith, e, sum_by-cons (λ (m : Mark). m.count) m marks, length-drop m.count bytes)))

-- The same after a call that puts the piece where it succeeds, and succeeded.
pub pieces_put : (marks marks' : List Mark) (bytes bytes' piece : List ℕ) (moment : ℕ) (ok : Bool) → sum_by (λ (m : Mark). m.count) marks ≡ length bytes → ok ≡ true
    → bytes' ≡ cond ok (bytes ++ piece) bytes → marks' ≡ cond ok (marks ++ (record { count = length piece; moment = moment }) ∷ []) marks
    → pieces_in marks' bytes' ≡ pieces_in marks bytes ++ (record { bytes = piece; moment = moment }) ∷ []
pieces_put marks marks' bytes bytes' piece moment true whole is bytes_are marks_are =
    ap (λ m. pieces_in m bytes') marks_are ∙ ap (pieces_in (marks ++ (record { count = length piece; moment = moment }) ∷ [])) bytes_are ∙ pieces_push marks bytes piece moment whole
pieces_put marks marks' bytes bytes' piece moment false whole is bytes_are marks_are = cc

-- The piece of a call that emitted something.
pub piece_by-some : (E : Type 0) (n : ℕ) (bytes : List ℕ) (moment : ℕ) → n ≢ 0 → piece_by {E = E} (Ok n) bytes moment ≡ (record { bytes = take n bytes; moment = moment }) ∷ []
piece_by-some E zero bytes moment some = absurd (some refl)
piece_by-some E (suc n) bytes moment some = refl

-- What was copied to the front of a buffer was taken from the front of what is left.
pub taken_front : (left copied behind : List ℕ) (n : ℕ) → n ≤ length left → copied ≡ take n left → left ≡ take n (copied ++ behind) ++ drop n left
taken_front left copied behind n within is =
    sym (ap (λ l. l ++ drop n left) (take_at copied behind n (omega (arith, ap length is, length-take-le n left within)) ∙ is) ∙ take-append-drop n left)
