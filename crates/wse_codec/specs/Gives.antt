-- What the reading functions give.
use Rattle.std.specs.Prelude.{◌≡◌, ℕ, List, map, Option, Some, None, Result, Ok, Err, Vec, if◌then◌else◌}
use Rattle.std.specs.List.{list_all}
use Rattle.std.specs.Str.{is_utf8}
use Rattle.wse_path.specs.Path.{Path}
use Rattle.wse_codec.specs.Reading.{is_path}
use Rattle.wse_codec.specs.declared.unread.Unread.{Unread}
use Rattle.wse_codec.specs.declared.unread.Unread.TheVariants as unread

-- Nothing is said where there was no memory.
abbrev pub Fails : {Y : Type 0} → Unread → Result Y ℕ → Type 0
Fails unread.Memory read = Unit {0}
Fails (unread.Wrong left) read = read ≡ Err left

-- What a function returned, seen by view, is what reading gives.
abbrev pub Gives : {X Y : Type 0} → (X → Y) → Result X Unread → Result Y ℕ → Type 0
Gives view (Ok x) read = read ≡ Ok (view x)
Gives view (Err e) read = Fails e read

-- The bytes of each.
abbrev pub bytes_in : {A : Type 0} → List (Vec ℕ A) → Path
bytes_in segments = map (λ s. s.items) segments

-- The bytes, where they are a text.
abbrev pub text_in : List ℕ → Option (List ℕ)
text_in bytes = if is_utf8 bytes then Some bytes else None

-- The segments, where each of them is a text.
abbrev pub texts_in : Path → Option Path
texts_in segments = if list_all is_utf8 segments then Some segments else None

abbrev pub path_in : Path → Option Path
path_in segments = if is_path segments then Some segments else None
