-- Lines that read as nothing.
use Rattle.std.proofs.Common.{◌≡◌, ℕ, Bool, true, false, List, Some, None, IsUtf8, if◌then◌else◌, refl}
use Rattle.std.specs.Str.{is_utf8}
use Rattle.std.proofs.lemmas.Str.{IsUtf8-from_is_utf8, is_utf8-from_IsUtf8}
use Rattle.serde_json.specs.Data.{Data}
use Rattle.serde_json.specs.Read.{read}
use Rattle.wse_json.specs.Members.{reading}

not_read_at : (line : List ℕ) (b : Bool) → is_utf8 line ≡ b → (IsUtf8 line → read line ≡ None) → (if b then read line else None) ≡ None
not_read_at line true e h = h (IsUtf8-from_is_utf8 line e)
not_read_at line false e h = refl

pub not_read : (line : List ℕ) → (IsUtf8 line → read line ≡ None) → reading line ≡ None
not_read line h = not_read_at line (is_utf8 line) refl h

pub reads_as : (line : List ℕ) (d : Data) → IsUtf8 line → read line ≡ Some d → reading line ≡ Some d
reads_as line d u e = rw (is_utf8-from_IsUtf8 line u) e
