-- Calls of a record, as what they do to a reading.
use Rattle.std.specs.Prelude.{ℕ, Bool, true, false, not, List, [], ◌∷◌, ◌++◌, length, replicate, slice_index_or, ◌≡◌, if◌then◌else◌}
use Rattle.wse_disk.specs.Reading.{Reading, Write, Stores, Erases, Patches}
use Rattle.wse_disk.specs.declared.call.Call.{Call}
use Rattle.wse_disk.specs.declared.call.Call.TheVariants.{Store, Erase, Patch, Sync}
use Rattle.wse_disk.specs.declared.fate.Fate.{Fate}
use Rattle.wse_disk.specs.Replay.{laid}
use Rattle.wse_disk.specs.Chosen.{left_by}

-- The write that the call asks for. A sync asks for none.
abbrev pub write_of : Call → List Write
write_of (Store path bytes failed) = Stores path bytes ∷ []
write_of (Erase path failed) = Erases path ∷ []
write_of (Patch area at bytes failed) = Patches area at bytes ∷ []
write_of (Sync failed) = []

abbrev pub writes_of : List Call → List Write
writes_of [] = []
writes_of (c ∷ cs) = write_of c ++ writes_of cs

abbrev pub has_failed : Call → Bool
has_failed (Store path bytes failed) = failed
has_failed (Erase path failed) = failed
has_failed (Patch area at bytes failed) = failed
has_failed (Sync failed) = failed

-- A sync that succeeded.
abbrev pub is_done_sync : Call → Bool
is_done_sync (Store path bytes failed) = false
is_done_sync (Erase path failed) = false
is_done_sync (Patch area at bytes failed) = false
is_done_sync (Sync failed) = not failed

-- The call, whether or not it failed.
abbrev pub kept_call : Call → Reading → Reading
kept_call (Store path bytes failed) r = laid (Stores path bytes) r
kept_call (Erase path failed) r = laid (Erases path) r
kept_call (Patch area at bytes failed) r = laid (Patches area at bytes) r
kept_call (Sync failed) r = r

-- Its path absent, or its bytes zeros.
abbrev pub blank_call : Call → Reading → Reading
blank_call (Store path bytes failed) r = laid (Erases path) r
blank_call (Erase path failed) r = laid (Erases path) r
blank_call (Patch area at bytes failed) r = laid (Patches area at (replicate (length bytes) 0)) r
blank_call (Sync failed) r = r

-- The call, unless it failed.
abbrev pub redone : Call → Reading → Reading
redone c r = if has_failed c then r else kept_call c r

abbrev pub redone_all : Reading → List Call → Reading
redone_all r [] = r
redone_all r (c ∷ cs) = redone_all (redone c r) cs

-- What the write leaves, if there is one.
abbrev pub left_one : Fate → List Write → Reading → Reading
left_one f [] r = r
left_one f (w ∷ ws) r = left_by f w r

-- The call at that place is a sync that succeeded.
abbrev pub IsSyncAt : List Call → ℕ → Type 0
IsSyncAt calls at = (d : Call) → is_done_sync (slice_index_or calls at d) ≡ true
