-- Words on what a disk tells. Of a disk that tells nothing they say nothing.
use Rattle.std.specs.Prelude.{◌≡◌, ◌⊎◌, ⊤, ℕ, List, [], length, drop, Option, Some, None}
use Rattle.wse_path.specs.Tree.{Entries}
use Rattle.wse_disk.specs.declared.area.Area.{Area}
use Rattle.wse_disk.specs.Reading.{Reading, nothing_read, area_of}
use Rattle.wse_disk.specs.Standing.{Standing, IsImageOf, IsOfOne, fresh}

-- What is told has the property.
abbrev pub WhereTold : Option Standing → (Standing → Type 0) → Type 0
WhereTold None P = ⊤
WhereTold (Some s) P = P s

-- What is read, and nothing where nothing is told.
abbrev pub reading_of : Option Standing → Reading
reading_of None = nothing_read
reading_of (Some s) = s.reading

-- The files that are read, in path order, and none where nothing is told.
abbrev pub files_of : Option Standing → Entries
files_of told = (reading_of told).files

-- The bytes that the area has, and none where nothing is told.
abbrev pub bytes_of_area : Area → Option Standing → List ℕ
bytes_of_area area told = area_of area (reading_of told)

-- These are the files that are read.
abbrev pub ReadsFiles : Option Standing → Entries → Type 0
ReadsFiles told files = WhereTold told (λ s. s.reading.files ≡ files)

-- These are the bytes of the area.
abbrev pub ReadsArea : Option Standing → Area → List ℕ → Type 0
ReadsArea told area bytes = WhereTold told (λ s. area_of area s.reading ≡ bytes)

-- A crash now may leave this.
abbrev pub MayLeave : Option Standing → Reading → Type 0
MayLeave None image = ⊥
MayLeave (Some s) image = IsImageOf s.pending image

-- Nothing is pending: what is read is all that a crash may leave.
abbrev pub IsAtRest : Option Standing → Type 0
IsAtRest told = (image : Reading) → MayLeave told image → image ≡ reading_of told

-- No write came since a sync that succeeded. So nothing is pending.
abbrev pub IsSynced : Option Standing → Type 0
IsSynced told = WhereTold told (λ s. (s.pending.base ≡ s.reading) × (s.pending.writes ≡ []))

-- The moment, as the number of those before it.
abbrev pub moment_told : Option Standing → ℕ
moment_told None = 0
moment_told (Some s) = length s.past

-- A crash at some moment from that one on might have left this.
abbrev pub LeftSince : Option Standing → ℕ → Reading → Type 0
LeftSince None moment image = ⊥
LeftSince (Some s) moment image = IsImageOf s.pending image ⊎ IsOfOne (drop moment s.past) image

-- What is read is one of the images.
abbrev pub ReadsAnImage : Option Standing → Type 0
ReadsAnImage told = WhereTold told (λ s. IsImageOf s.pending s.reading)

-- The moment is the number of those before it.
abbrev pub CountsMoments : Option Standing → ℕ → Type 0
CountsMoments told moment = WhereTold told (λ s. moment ≡ length s.past)

-- It is told.
abbrev pub IsTold : Option Standing → Type 0
IsTold None = ⊥
IsTold (Some s) = ⊤

-- What is told, and that of a disk that holds nothing where nothing is told.
abbrev pub standing_of : Option Standing → Standing
standing_of None = fresh nothing_read
standing_of (Some s) = s

-- All disks of the type tell.
abbrev pub AllTell : {D : Type 0} → (D → Option Standing) → Type 0
AllTell {D} told = (d : D) → IsTold (told d)
