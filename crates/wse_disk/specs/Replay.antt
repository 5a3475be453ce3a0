-- What a disk in memory stands for: its calls, done again from what it had at first.
use Rattle.std.specs.Prelude.{ℕ, ◌+◌, ◌-◌, Bool, List, [], ◌∷◌, ◌++◌, length, take, drop, replicate, slice_index_or, if◌then◌else◌, Option, Some, None}
use Rattle.wse_path.specs.Tree.{Entries}
use Rattle.wse_disk.specs.Reading.{Reading, Write, Stores, Erases, Patches, applied, area_of, with_area}
use Rattle.wse_disk.specs.Standing.{Standing, Pending, next, with_write, after_whole_sync}
use Rattle.wse_disk.specs.declared.areas.Areas.{Areas}
use Rattle.wse_disk.specs.declared.draft.Draft.{Draft}
use Rattle.wse_disk.specs.declared.call.Call.{Call}
use Rattle.wse_disk.specs.declared.call.Call.TheVariants.{Store, Erase, Patch, Sync}

-- Files and areas, as a reading.
abbrev pub held : Entries → Areas → Reading
held files areas = record { files = files; switch = areas.switch.items; log_a = areas.log_a.items; log_b = areas.log_b.items }

abbrev pub drafted : Draft → Reading
drafted draft = held draft.files.entries draft.areas

-- What a disk had at first: what it has, as long as no other was kept.
abbrev pub first_of : Option Draft → Reading → Reading
first_of None now = now
first_of (Some draft) now = drafted draft

-- Bytes with these at a place, a gap before it being zeros.
abbrev pub laid_bytes : ℕ → List ℕ → List ℕ → List ℕ
laid_bytes place bytes old = take place old ++ replicate (place - length old) 0 ++ bytes ++ drop (place + length bytes) old

-- What is read after a write that was done whole, a gap before its place being zeros.
abbrev pub laid : Write → Reading → Reading
laid (Stores p bytes) r = applied (Stores p bytes) r
laid (Erases p) r = applied (Erases p) r
laid (Patches a place bytes) r = with_area a (laid_bytes place bytes (area_of a r)) r

-- The writes, one after another.
abbrev pub laid_all : Reading → List Write → Reading
laid_all r [] = r
laid_all r (w ∷ ws) = laid_all (laid w r) ws

-- A write that failed counts, and leaves what is read.
abbrev pub after_write : Write → Bool → Standing → Standing
after_write w failed s = next s (if failed then s.reading else laid w s.reading) (with_write w s.pending)

abbrev pub stands_after : Standing → Call → Standing
stands_after s (Store path bytes failed) = after_write (Stores path bytes) failed s
stands_after s (Erase path failed) = after_write (Erases path) failed s
stands_after s (Patch area at bytes failed) = after_write (Patches area at bytes) failed s
stands_after s (Sync failed) = if failed then next s s.reading s.pending else after_whole_sync s

-- The calls, one after another.
abbrev pub replay : Standing → List Call → Standing
replay s [] = s
replay s (c ∷ cs) = replay (stands_after s c) cs

-- What was pending at a moment.
abbrev pub pending_at : Standing → ℕ → Pending
pending_at s moment = slice_index_or s.past moment s.pending

-- What was read after the last sync, with all the writes since, those that failed among them.
abbrev pub with_all : Pending → Reading
with_all p = laid_all p.base p.writes
