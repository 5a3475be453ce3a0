-- The lines of some bytes. They are cut at `\n`; the last piece is a line only where the input ended and the piece isn't empty.
use Rattle.std.specs.Prelude.{◌≡◌, ◌==◌, ℕ, Bool, true, List, [], ◌∷◌, ◌++◌}
use Rattle.std.specs.List.{slice_split}

-- The byte `\n`.
abbrev pub is_line_end : ℕ → Bool
is_line_end b = b == 10

-- The piece behind the last line end, where it is a line.
abbrev pub last_line : List ℕ → Bool → List (List ℕ)
last_line (b ∷ bytes) true = (b ∷ bytes) ∷ []
last_line piece over = []

-- The lines among the pieces between line ends: each but the last, and the last where it is one.
unfoldable pub lines_among : List (List ℕ) → Bool → List (List ℕ)
lines_among [] over = []
lines_among (piece ∷ []) over = last_line piece over
lines_among (piece ∷ next ∷ pieces) over = piece ∷ lines_among (next ∷ pieces) over

-- The lines of the bytes, without their ends, `over` saying whether the input ended behind them.
unfoldable pub lines : List ℕ → Bool → List (List ℕ)
lines bytes over = lines_among (slice_split is_line_end bytes) over

-- What may still come: nothing once the input is over.
abbrev pub MayFollow : Bool → List ℕ → Bool → Type 0
MayFollow over more last = over ≡ true → (more ≡ []) × (last ≡ true)

-- Whatever follows, the lines of the bytes are these and then those of what is held.
pub record Cuts (bytes : List ℕ) (done : List (List ℕ)) (held : List ℕ) (over : Bool) : Type 0 where
  pub whole : (more : List ℕ) (last : Bool) → MayFollow over more last → lines (bytes ++ more) last ≡ done ++ lines (held ++ more) last
