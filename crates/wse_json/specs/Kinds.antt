-- Kinds of values, and members of each kind.
use Rattle.std.specs.Prelude.{ℕ, ◌+◌, ℤ, int_lt, List, [], ◌∷◌, length, nat_le, Option, Some, None, is_some, option_and_then, option_map, Result, Ok, if◌then◌else◌}
use Rattle.std.specs.Str.{bytes_eq}
use Rattle.serde_json.specs.Data.{Data, Items, no_items, item, Members, no_members, member}
use Rattle.serde_json.specs.Find.{as_number, as_str, as_object, as_u64, as_i64}
use Rattle.wse_json.specs.declared.shape.Shape.{Shape}
use Rattle.wse_json.specs.Members.{optional}
use Rattle.wse_json.specs.Shapes.{or_field, under, to_member, to_item, ◌>>=◌}

-- ---- kinds: None is a value of another kind

-- An object.
abbrev pub an_object : Data → Option Data
an_object d = if is_some (as_object d) then Some d else None

-- A whole number up to 2^64-1. One with a point or an exponent is none, and neither is `-0`.
abbrev pub a_whole : Data → Option ℕ
a_whole d = option_and_then as_u64 (as_number d)

abbrev pub unless_above : ℕ → ℕ → Option ℕ
unless_above most n = if nat_le n most then Some n else None

-- A whole number up to another.
abbrev pub a_whole_up_to : ℕ → Data → Option ℕ
a_whole_up_to most d = option_and_then (unless_above most) (a_whole d)

abbrev pub unless_outside : ℤ → ℤ → ℤ → Option ℤ
unless_outside low high z = if int_lt z low then None else (if int_lt high z then None else Some z)

-- A whole number within two others.
abbrev pub a_whole_within : ℤ → ℤ → Data → Option ℤ
a_whole_within low high d = option_and_then (unless_outside low high) (option_and_then as_i64 (as_number d))

abbrev pub unless_longer : ℕ → List ℕ → Option (List ℕ)
unless_longer most text = if nat_le (length text) most then Some text else None

-- A text of at most so many bytes.
abbrev pub a_text_up_to : ℕ → Data → Option (List ℕ)
a_text_up_to most d = option_and_then (unless_longer most) (as_str d)

abbrev pub chosen : {X : Type 0} → List (List ℕ × X) → List ℕ → Option X
chosen [] text = None
chosen (c ∷ cs) text = if bytes_eq text c.0 then Some c.1 else chosen cs text

-- One of the texts of a table.
abbrev pub one_of : {X : Type 0} → List (List ℕ × X) → Data → Option X
one_of table d = option_and_then (chosen table) (as_str d)

-- ---- members of objects: null counts as missing

abbrev pub or_standard : {X : Type 0} → List ℕ → (Data → Option X) → X → Option Data → Result X Shape
or_standard pointer kind x None = Ok x
or_standard pointer kind x (Some d) = or_field pointer (kind d)

-- A member that must be there.
abbrev pub required : {X : Type 0} → List ℕ → (Data → Option X) → Data → Result X Shape
required name kind d = or_field (to_member name) (option_and_then kind (optional name d))

-- A member with a standard value.
abbrev pub standard : {X : Type 0} → List ℕ → (Data → Option X) → X → Data → Result X Shape
standard name kind x d = or_standard (to_member name) kind x (optional name d)

-- A member that may be missing.
abbrev pub perhaps : {X : Type 0} → List ℕ → (Data → Option X) → Data → Result (Option X) Shape
perhaps name kind d = standard name (λ value. option_map Some (kind value)) None d

-- A member that must be there, and what is read in it.
abbrev pub within : {X Y : Type 0} → List ℕ → (Data → Option X) → (X → Result Y Shape) → Data → Result Y Shape
within name kind read d = do
  x ← required name kind d
  under (to_member name) (read x)

abbrev pub if_there : {X Y : Type 0} → List ℕ → (X → Result Y Shape) → Y → Option X → Result Y Shape
if_there name read y None = Ok y
if_there name read y (Some x) = under (to_member name) (read x)

-- What is read in a member, with a standard value.
abbrev pub within_or : {X Y : Type 0} → List ℕ → (Data → Option X) → (X → Result Y Shape) → Y → Data → Result Y Shape
within_or name kind read y d = do
  x ← perhaps name kind d
  if_there name read y x

-- ---- lists and entries

abbrev pub items_from : {X : Type 0} → (Data → Result X Shape) → ℕ → Items → Result (List X) Shape
items_from read index no_items = Ok []
items_from read index (item d more) = do
  x ← under (to_item index) (read d)
  xs ← items_from read (index + 1) more
  Ok (x ∷ xs)

-- The items of a list, in order.
abbrev pub list_of : {X : Type 0} → (Data → Result X Shape) → Items → Result (List X) Shape
list_of read items = items_from read 0 items

-- The entries of an object, in byte order of their names.
abbrev pub entries_of : {X : Type 0} → (List ℕ → Data → Result X Shape) → Members → Result (List X) Shape
entries_of read no_members = Ok []
entries_of read (member name d more) = do
  x ← under (to_member name) (read name d)
  xs ← entries_of read more
  Ok (x ∷ xs)
