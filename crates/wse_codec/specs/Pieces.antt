-- Reading a list of bytes field by field. A piece gives its value and the bytes behind it, or how many bytes are left from
-- its first wrong field on. Pieces are put one behind the other.
use Rattle.std.specs.Prelude.{ℕ, zero, suc, ◌-◌, Bool, true, false, List, [], ◌∷◌, length, take, drop, Option, Some, None, Result, Ok, Err, nat_lt, ◌==◌, if◌then◌else◌}
use Rattle.std.specs.Int.{Width, w32, byte_len, from_be_bytes}

-- A value and the bytes behind it, or where the first wrong field begins, counted from the end.
abbrev pub Read : Type 0 → Type 0
Read V = Result (V × List ℕ) ℕ

infixl 10 ◌>>=◌
abbrev pub ◌>>=◌ : {A B : Type 0} → Result A ℕ → (A → Result B ℕ) → Result B ℕ
(Ok x) >>= f = f x
(Err left) >>= f = Err left

-- The value, where the rule for the field that begins these bytes holds.
abbrev pub where_allowed : {A : Type 0} → Bool → List ℕ → A → Result A ℕ
where_allowed true field x = Ok x
where_allowed false field x = Err (length field)

-- A byte.
unfoldable pub byte_at : List ℕ → Read ℕ
byte_at [] = Err 0
byte_at (b ∷ rest) = Ok (b, rest)

-- A number of as many bytes as its width.
unfoldable pub number_at : Width → List ℕ → Read ℕ
number_at w bytes =
    if nat_lt (length bytes) (byte_len w) then Err (length bytes)
    else Ok (from_be_bytes w (take (byte_len w) bytes), drop (byte_len w) bytes)

-- That many bytes.
unfoldable pub run_at : ℕ → List ℕ → Read (List ℕ)
run_at n bytes = if nat_lt (length bytes) n then Err (length bytes) else Ok (take n bytes, drop n bytes)

-- What the byte stands for, where it stands for something.
abbrev pub meaning : {V : Type 0} → Option V → List ℕ → List ℕ → Read V
meaning None field rest = Err (length field)
meaning (Some v) field rest = Ok (v, rest)

-- A byte that stands for a value.
unfoldable pub coded_at : {V : Type 0} → (ℕ → Option V) → List ℕ → Read V
coded_at value_of bytes = do
  b ← byte_at bytes
  meaning (value_of b.0) bytes b.1

-- A count of four bytes that isn't 0.
unfoldable pub count_at : List ℕ → Read ℕ
count_at bytes = do
  n ← number_at w32 bytes
  where_allowed (nat_lt 0 n.0) bytes n

-- That many items one behind the other. Each is read with a look at the one before it.
unfoldable pub row_at : {V : Type 0} → (Option V → List ℕ → Read V) → Option V → ℕ → List ℕ → Read (List V)
row_at item before zero bytes = Ok ([], bytes)
row_at item before (suc n) bytes = do
  first ← item before bytes
  others ← row_at item (Some first.0) n first.1
  Ok (first.0 ∷ others.0, others.1)

-- The value, where no bytes are left.
abbrev pub whole : {V : Type 0} → V × List ℕ → Result V ℕ
whole x = where_allowed (length x.1 == 0) x.1 x.0

-- The same with places counted from the front of the bytes.
abbrev pub placed : {V : Type 0} → List ℕ → Result V ℕ → Result V ℕ
placed bytes (Ok v) = Ok v
placed bytes (Err left) = Err (length bytes - left)
