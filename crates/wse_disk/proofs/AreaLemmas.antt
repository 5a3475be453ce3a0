-- The areas of a reading.
use Rattle.std.proofs.Common.{◌≡◌, true, false, List, ℕ, refl}
use Rattle.wse_disk.specs.declared.area.Area.{Area}
use Rattle.wse_disk.specs.declared.area.Area.TheVariants.{Switch, LogA, LogB}
use Rattle.wse_path.specs.Tree.{Entries}
use Rattle.wse_disk.specs.Reading.{Reading, area_of, with_area, is_same_area}

-- The area that was set has the bytes.
pub area_itself : (a : Area) (bytes : List ℕ) (r : Reading) → area_of a (with_area a bytes r) ≡ bytes
area_itself Switch bytes r = refl
area_itself LogA bytes r = refl
area_itself LogB bytes r = refl

-- The others stay.
pub area_other : (a b : Area) (bytes : List ℕ) (r : Reading) → is_same_area b a ≡ false → area_of b (with_area a bytes r) ≡ area_of b r
area_other Switch Switch bytes r h = cc
area_other Switch LogA bytes r h = refl
area_other Switch LogB bytes r h = refl
area_other LogA Switch bytes r h = refl
area_other LogA LogA bytes r h = cc
area_other LogA LogB bytes r h = refl
area_other LogB Switch bytes r h = refl
area_other LogB LogA bytes r h = refl
area_other LogB LogB bytes r h = cc

-- So do the files.
pub files_stay : (a : Area) (bytes : List ℕ) (r : Reading) → (with_area a bytes r).files ≡ r.files
files_stay Switch bytes r = refl
files_stay LogA bytes r = refl
files_stay LogB bytes r = refl

-- Other files leave the areas.
pub areas_stay : (a : Area) (files : Entries) (r : Reading) → area_of a (record r { files = files }) ≡ area_of a r
areas_stay Switch files r = refl
areas_stay LogA files r = refl
areas_stay LogB files r = refl

pub area_is : (a b : Area) → is_same_area b a ≡ true → b ≡ a
area_is Switch Switch h = refl
area_is Switch LogA h = cc
area_is Switch LogB h = cc
area_is LogA Switch h = cc
area_is LogA LogA h = refl
area_is LogA LogB h = cc
area_is LogB Switch h = cc
area_is LogB LogA h = cc
area_is LogB LogB h = refl

pub same_itself : (a : Area) → is_same_area a a ≡ true
same_itself Switch = refl
same_itself LogA = refl
same_itself LogB = refl

-- Two readings with the same files and areas are one.
pub same_reading : (r s : Reading) → r.files ≡ s.files → ((a : Area) → area_of a r ≡ area_of a s) → r ≡ s
same_reading r s files areas = λ i. record { files = files i; switch = areas Switch i; log_a = areas LogA i; log_b = areas LogB i }
