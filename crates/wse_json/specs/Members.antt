-- Members of JSON values.
use Rattle.std.specs.Prelude.{ℕ, Bool, List, Option, Some, None, option_and_then, if◌then◌else◌}
use Rattle.std.specs.List.{list_any}
use Rattle.std.specs.Str.{is_utf8, bytes_eq}
use Rattle.serde_json.specs.Data.{Data, null, boolean, number, string, array, object}
use Rattle.serde_json.specs.Read.{read}
use Rattle.serde_json.specs.Find.{get}

-- What a line of bytes reads as, by serde_json. Bytes that are no UTF-8 have no reading.
abbrev pub reading : List ℕ → Option Data
reading line = if is_utf8 line then read line else None

-- The text is one of these.
abbrev pub is_among : List (List ℕ) → List ℕ → Bool
is_among texts text = list_any (λ t. bytes_eq t text) texts

-- A value that isn't null.
abbrev pub unless_null : Data → Option Data
unless_null null = None
unless_null (boolean b) = Some (boolean b)
unless_null (number n) = Some (number n)
unless_null (string s) = Some (string s)
unless_null (array ds) = Some (array ds)
unless_null (object ms) = Some (object ms)

-- A member that may be missing, null counting as missing.
abbrev pub optional : List ℕ → Data → Option Data
optional name d = option_and_then unless_null (get name d)
