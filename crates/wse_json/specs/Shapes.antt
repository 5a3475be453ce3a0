-- What a reading gives: a value, or the first check that fails. A pointer is seen from the value that was read. This
-- project's own, but for the spelling of pointers.
use Rattle.std.specs.Prelude.{◌≡◌, ◌≢◌, ℕ, ◌==◌, List, ◌∷◌, ◌++◌, codes, decimal, encode_utf8, flat_map, Option, Some, None, Result, Ok, Err, ⊤, ◌⊎◌, if◌then◌else◌}
use Rattle.std.specs.Str.{chars}
use Rattle.wse_uri.specs.declared.refused.UriRefused.TheVariants as uris
use Rattle.wse_json.specs.declared.shape.Shape.{Shape}
use Rattle.wse_json.specs.declared.shape.Shape.TheVariants.{NotJson, Field, Uri, Annotation, Memory}

-- A character in a step of a JSON Pointer (RFC 6901): `~` is `~0`, and `/` is `~1`.
abbrev pub escaped : ℕ → List ℕ
escaped c = if c == 126 then codes "~0" else (if c == 47 then codes "~1" else encode_utf8 c)

-- The step to the member of this name.
unfoldable pub to_member : List ℕ → List ℕ
to_member name = 47 ∷ flat_map escaped (chars name)

-- The step to the item with this number, from 0.
unfoldable pub to_item : ℕ → List ℕ
to_item index = 47 ∷ decimal index

-- The refusal, seen from one step further out.
abbrev pub behind : List ℕ → Shape → Shape
behind step NotJson = NotJson
behind step (Field pointer) = Field (step ++ pointer)
behind step (Uri pointer why) = Uri (step ++ pointer) why
behind step (Annotation id) = Annotation id
behind step Memory = Memory

-- The reading, seen from one step further out.
abbrev pub under : {X : Type 0} → List ℕ → Result X Shape → Result X Shape
under step (Ok x) = Ok x
under step (Err why) = Err (behind step why)

-- The first reading, and then the second.
infixl 10 ◌>>=◌
abbrev pub ◌>>=◌ : {X Y : Type 0} → Result X Shape → (X → Result Y Shape) → Result Y Shape
Ok x >>= next = next x
Err why >>= next = Err why

-- The value, or that what the pointer leads to is missing or of another kind.
abbrev pub or_field : {X : Type 0} → List ℕ → Option X → Result X Shape
or_field pointer (Some x) = Ok x
or_field pointer None = Err (Field pointer)

-- The code's answer is this reading. Want of memory is free.
abbrev pub Gives : {X : Type 0} → Result X Shape → Result X Shape → Type 0
Gives reading (Ok x) = reading ≡ Ok x
Gives reading (Err why) = (why ≡ Memory) ⊎ (reading ≡ Err why)

-- A refused URI has another cause than want of memory.
abbrev pub HasUriCause : Shape → Type 0
HasUriCause NotJson = ⊤
HasUriCause (Field pointer) = ⊤
HasUriCause (Uri pointer why) = why ≢ uris.Memory
HasUriCause (Annotation id) = ⊤
HasUriCause Memory = ⊤
