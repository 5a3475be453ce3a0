-- What goes in and out: the bytes that leave a source and the pieces that come to a sink, where they are told.
use Rattle.std.specs.Prelude.{◌≡◌, ℕ, zero, suc, ◌≤◌, List, [], ◌∷◌, ◌++◌, take, flat_map, All, Option, Some, None, Result, Ok, Err, MatchOption}

-- Bytes that were emitted in one call, with the moment of the disk that was shown.
pub record Piece : Type 0 where
  pub bytes : List ℕ
  pub moment : ℕ

-- The bytes of all pieces, one after another.
unfoldable pub bytes_of : List Piece → List ℕ
bytes_of pieces = flat_map (λ p. p.bytes) pieces

abbrev pub IsPrefix : List ℕ → List ℕ → Type 0
IsPrefix front all = (rest : List ℕ) × (all ≡ front ++ rest)

-- Where the bytes left are told, these were taken from their front; where they aren't, they still aren't.
abbrev pub Takes : Option (List ℕ) → Option (List ℕ) → List ℕ → Type 0
Takes old new taken = MatchOption old (new ≡ None) (λ all. (rest : List ℕ) × (new ≡ Some rest) × (all ≡ taken ++ rest))

-- Where the pieces are told, these came behind them; where they aren't, they still aren't.
abbrev pub Adds : Option (List Piece) → Option (List Piece) → List Piece → Type 0
Adds old new added = MatchOption old (new ≡ None) (λ pieces. new ≡ Some (pieces ++ added))

-- What a read took: as many bytes of the buffer as it answered, and none after a failure.
abbrev pub read_by : {E : Type 0} → Result ℕ E → List ℕ → List ℕ
read_by (Ok n) buffer = take n buffer
read_by (Err e) buffer = []

-- The piece that a call emitted: as many bytes as it answered, and none for no bytes or after a failure.
abbrev pub piece_by : {E : Type 0} → Result ℕ E → List ℕ → ℕ → List Piece
piece_by (Ok zero) bytes moment = []
piece_by (Ok (suc n)) bytes moment = record { bytes = take (suc n) bytes; moment = moment } ∷ []
piece_by (Err e) bytes moment = []

-- Each piece came at this moment.
unfoldable pub AllAt : ℕ → List Piece → Type 0
AllAt moment pieces = All (λ p. p.moment ≡ moment) pieces

-- Each piece came at a moment from the first on, and not after the last.
unfoldable pub Within : ℕ → ℕ → List Piece → Type 0
Within first last pieces = All (λ p. (first ≤ p.moment) × (p.moment ≤ last)) pieces
