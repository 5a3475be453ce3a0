-- The calls of a disk: their conditions, what they read, and what they leave. Of a disk that tells nothing they say that it
-- goes on telling nothing.
use Rattle.std.specs.Prelude.{◌≡◌, ⊤, ℕ, ◌+◌, ◌<◌, ◌≤◌, Bool, List, [], length, map, is_some, option_map, slice_range, Result, Option, Some, None}
use Rattle.wse_path.specs.Path.{Path}
use Rattle.wse_path.specs.Tree.{content, HasRoom}
use Rattle.wse_disk.specs.declared.area.Area.{Area}
use Rattle.wse_disk.specs.Reading.{Write, area_of, applied}
use Rattle.wse_disk.specs.Standing.{Standing, WriteLeaves, SyncLeaves}
use Rattle.wse_disk.specs.Told.{WhereTold}

abbrev pub bytes_or_none : Option (List ℕ) → List ℕ
bytes_or_none (Some bytes) = bytes
bytes_or_none None = []

-- These are the paths of the files, in path order.
abbrev pub ReadsNames : Option Standing → List Path → Type 0
ReadsNames told paths = WhereTold told (λ s. paths ≡ map (λ e. e.0) s.reading.files)

-- This is the file's number of bytes, or None where there is no file.
abbrev pub ReadsSize : Option Standing → Path → Option ℕ → Type 0
ReadsSize told p size = WhereTold told (λ s. size ≡ option_map length (content s.reading.files p))

-- The file is there or not, as `found` says, and these are its bytes, or none where there is no file.
abbrev pub ReadsFile : Option Standing → Path → Bool → List ℕ → Type 0
ReadsFile told p found bytes = WhereTold told (λ s. (found ≡ is_some (content s.reading.files p)) × (bytes ≡ bytes_or_none (content s.reading.files p)))

-- The area has so many bytes.
abbrev pub ReadsLength : Option Standing → Area → ℕ → Type 0
ReadsLength told area count = WhereTold told (λ s. count ≡ length (area_of area s.reading))

-- These are the `count` bytes of the area from the place on.
abbrev pub ReadsPart : Option Standing → Area → ℕ → ℕ → List ℕ → Type 0
ReadsPart told area place count bytes = WhereTold told (λ s. bytes ≡ slice_range (area_of area s.reading) place (place + count))

-- A file may be stored or erased at the path: it is there, or nothing is above or under it.
abbrev pub HasRoomFor : Option Standing → Path → Type 0
HasRoomFor told p = WhereTold told (λ s. HasRoom s.reading.files p)

-- The area has `count` bytes from the place on.
abbrev pub HasPart : Option Standing → Area → ℕ → ℕ → Type 0
HasPart told area place count = WhereTold told (λ s. place + count ≤ length (area_of area s.reading))

-- Bytes may be written there: there are some, and they begin at most at the area's end.
abbrev pub IsPatchable : Option Standing → Area → ℕ → List ℕ → Type 0
IsPatchable told area place bytes = WhereTold told (λ s. (0 < length bytes) × (place ≤ length (area_of area s.reading)))

-- Both are told and stand so to each other, or neither is told.
abbrev pub Told : (Standing → Standing → Type 0) → Option Standing → Option Standing → Type 0
Told R None None = ⊤
Told R None (Some t) = ⊥
Told R (Some s) None = ⊥
Told R (Some s) (Some t) = R s t

-- What is told after a write.
abbrev pub TellsWrite : {T E : Type 0} → Write → Option Standing → Option Standing → Result T E → Type 0
TellsWrite w old new result = Told (WriteLeaves w result) old new

-- What is told after a sync.
abbrev pub TellsSync : {T E : Type 0} → Option Standing → Option Standing → Result T E → Type 0
TellsSync old new result = Told (SyncLeaves result) old new

-- What is read is what was read before, with the write done whole.
abbrev pub HasApplied : Write → Option Standing → Option Standing → Type 0
HasApplied w old new = Told (λ s t. t.reading ≡ applied w s.reading) old new
