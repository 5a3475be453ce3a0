-- What a step leaves, of the disk that it hands on or back.
use Rattle.std.specs.Prelude.{◌≡◌, ℕ, ◌≤◌, Result, Option, MatchResult}
use Rattle.wse_path.specs.Causes.{Rose}
use Rattle.wse_disk.specs.Reading.{Reading}
use Rattle.wse_disk.specs.Standing.{Standing}
use Rattle.wse_disk.specs.Told.{IsTold}
use Rattle.wse_disk.specs.LeavesOnly.{LeavesOnly}

-- A step fails only where the count of faults rose in it, and else the count is as it was. It never falls.
abbrev pub FailsByFault : {D A : Type 0} → (D → ℕ) → (A → D) → D → Result A D → Type 0
FailsByFault faults disk_of old result = MatchResult result
    (λ next. faults (disk_of next) ≡ faults old)
    (λ broken. (faults old ≤ faults broken) × Rose (faults old) (faults broken))

-- Whether it fails or not, no moment is lost.
abbrev pub KeepsMoments : {D A : Type 0} → (D → ℕ) → (A → D) → D → Result A D → Type 0
KeepsMoments moment_of disk_of old result = MatchResult result
    (λ next. moment_of old ≤ moment_of (disk_of next))
    (λ broken. moment_of old ≤ moment_of broken)

-- Whether it fails or not, a crash at any moment of it leaves what has the property.
abbrev pub Leaves : {D A : Type 0} → (D → Option Standing) → (A → D) → D → Result A D → (Reading → Type 0) → Type 0
Leaves told disk_of old result P = MatchResult result
    (λ next. LeavesOnly (told old) (told (disk_of next)) P)
    (λ broken. LeavesOnly (told old) (told broken) P)

-- The disk tells what it holds where it told before, and nowhere else.
pub record TellsAsBefore (old new : Option Standing) : Type 0 where
  pub on : IsTold old → IsTold new
  pub back : IsTold new → IsTold old
