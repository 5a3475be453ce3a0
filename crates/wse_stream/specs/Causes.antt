-- When a count of faults may rise.
use Rattle.std.specs.Prelude.{◌≡◌, ℕ, ◌≤◌, Bool, true, false}
use Rattle.wse_path.specs.Causes.{Rose}

-- A count never falls. It rose where there was a failure, and is as it was where there was none.
abbrev pub CountsFault : (failed : Bool) → (before now : ℕ) → Type 0
CountsFault true before now = (before ≤ now) × Rose before now
CountsFault false before now = now ≡ before
