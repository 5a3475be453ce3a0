-- What a disk that tells tells, and how its calls change that.
use Rattle.std.specs.Prelude.{◌≡◌, ◌⊎◌, List, [], ◌∷◌, ◌++◌, Result, Ok, Err}
use Rattle.wse_disk.specs.Reading.{Reading, Write, applied}
use Rattle.wse_disk.specs.Image.{IsImage, DiffersBy}

-- What decides the images of a moment: what was read after the last sync that succeeded, and the writes since then.
pub record Pending : Type 0 where
  pub base : Reading
  pub writes : List Write

-- What is read, what is pending, and what was pending at each moment before this one.
pub record Standing : Type 0 where
  pub reading : Reading
  pub pending : Pending
  pub past : List Pending

-- A crash at that moment may leave this.
abbrev pub IsImageOf : Pending → Reading → Type 0
IsImageOf p image = IsImage p.base p.writes image

-- It is an image of one of these moments.
abbrev pub IsOfOne : List Pending → Reading → Type 0
IsOfOne [] image = ⊥
IsOfOne (p ∷ ps) image = IsImageOf p image ⊎ IsOfOne ps image

-- Nothing was written yet.
abbrev pub fresh : Reading → Standing
fresh r = record { reading = r; pending = record { base = r; writes = [] }; past = [] }

-- One moment later this is read and this is pending.
abbrev pub next : Standing → Reading → Pending → Standing
next s reading pending = record { reading = reading; pending = pending; past = s.past ++ s.pending ∷ [] }

abbrev pub with_write : Write → Pending → Pending
with_write w p = record { base = p.base; writes = p.writes ++ w ∷ [] }

-- After a write that was done whole.
abbrev pub after_whole_write : Write → Standing → Standing
after_whole_write w s = next s (applied w s.reading) (with_write w s.pending)

-- After a write that failed: it counts as a write and changed at most what it names, or it left no trace.
abbrev pub FailedWrite : Write → Standing → Standing → Type 0
FailedWrite w old new = (new ≡ old) ⊎ ((r : Reading) × (new ≡ next old r (with_write w old.pending)) × DiffersBy w old.reading r)

-- After a write.
abbrev pub WriteLeaves : {T E : Type 0} → Write → Result T E → Standing → Standing → Type 0
WriteLeaves w (Ok x) old new = new ≡ after_whole_write w old
WriteLeaves w (Err e) old new = FailedWrite w old new

-- After a sync that succeeded: what is read is what a crash leaves.
abbrev pub after_whole_sync : Standing → Standing
after_whole_sync s = next s s.reading (record { base = s.reading; writes = [] })

-- After a sync. One that failed changes nothing; a moment may pass.
abbrev pub SyncLeaves : {T E : Type 0} → Result T E → Standing → Standing → Type 0
SyncLeaves (Ok x) old new = new ≡ after_whole_sync old
SyncLeaves (Err e) old new = (new ≡ old) ⊎ (new ≡ next old old.reading old.pending)
