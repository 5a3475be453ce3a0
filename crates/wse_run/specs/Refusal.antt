-- Why a store isn't opened. This project's own rule.
use Rattle.std.specs.Prelude.{◌≡◌, ◌⊎◌, Bool, true, false, Option}
use Rattle.wse_path.specs.Path.{Path}
use Rattle.wse_path.specs.declared.limits.Limits.{Limits}
use Rattle.wse_path.specs.declared.limits.Hit.{Hit}
use Rattle.wse_disk.specs.Standing.{Standing}
use Rattle.wse_disk.specs.Told.{WhereTold}
use Rattle.wse_txn.specs.Stands.{IsNoStore}
use Rattle.wse_recover.specs.Untouched.{IsUntouched}
use Rattle.wse_recover.specs.Open.{IsInTheWay, DiffersFirstAt, IsTooBig, AdoptsTooMuch, HasStayed}
use Rattle.wse_run.specs.declared.end.RunEnd.{RunEnd}
use Rattle.wse_run.specs.declared.end.RunEnd.TheVariants.{Done, Read, Write, Disk, Memory, NotAStore, TooBig, InputLimit, Differs}

-- The tree passes the limit, or with `adopt` it passes none and adopting would pass this one. What is read stands for what it
-- stood for.
abbrev pub IsPassed : (adopt : Bool) → Limits → (old new : Option Standing) → Hit → Type 0
IsPassed adopt limits old new hit =
    WhereTold old (λ s. IsTooBig limits hit s.reading ⊎ ((adopt ≡ true) × AdoptsTooMuch limits hit s.reading)) × HasStayed old new

-- The path is the first file in the way of an unsettled record, and nothing was written; or without `adopt` it is the first
-- that isn't as the elements say, and what is read stands for what it stood for.
abbrev pub IsInDispute : (adopt : Bool) → (old new : Option Standing) → Path → Type 0
IsInDispute adopt old new p =
    (WhereTold old (λ s. IsInTheWay s.reading p) × IsUntouched old new)
    ⊎ ((adopt ≡ false) × WhereTold old (λ s. DiffersFirstAt p s.reading) × HasStayed old new)

-- The end tells why the store wasn't opened, and that is so. Where it is no store nothing was written.
abbrev pub IsRefusal : (adopt : Bool) → Limits → (old new : Option Standing) → RunEnd → Type 0
IsRefusal adopt limits old new Done = ⊥
IsRefusal adopt limits old new Read = ⊥
IsRefusal adopt limits old new Write = ⊥
IsRefusal adopt limits old new Disk = ⊥
IsRefusal adopt limits old new Memory = ⊥
IsRefusal adopt limits old new (NotAStore at) = WhereTold old (λ s. IsNoStore s.reading at) × IsUntouched old new
IsRefusal adopt limits old new (TooBig hit) = IsPassed adopt limits old new hit
IsRefusal adopt limits old new (InputLimit limit) = ⊥
IsRefusal adopt limits old new (Differs p) = IsInDispute adopt old new p
