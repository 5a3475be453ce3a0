-- How the showing of a store goes.
use Rattle.std.proofs.Common.{◌≡◌, ◌⊎◌, inl, inr, ⊎_elim, ℕ, ◌≤◌, Bool, true, false, List, Option, Some, None, refl, sym, subst, arith}
use Rattle.wse_path.specs.Causes.{Rose}
use Rattle.wse_path.specs.declared.limits.Limits.{Limits}
use Rattle.wse_path.specs.declared.limits.Hit.{Hit}
use Rattle.wse_apply.specs.Limit.{limit_hit}
use Rattle.wse_element.specs.Linked.{IsStateLinked}
use Rattle.wse_element.specs.State.{State}
use Rattle.wse_disk.specs.declared.area.Area.{Area}
use Rattle.wse_disk.specs.Standing.{Standing}
use Rattle.wse_disk.specs.Told.{WhereTold, MayLeave, IsTold, CountsMoments, reading_of}
use Rattle.wse_disk.specs.LeavesOnly.{LeavesOnly}
use Rattle.wse_disk.proofs.Moments.{no_call}
use Rattle.wse_io.specs.Stream.{Piece, Adds, AllAt, IsPrefix, bytes_of}
use Rattle.wse_io.proofs.StreamLemmas.{within_at, within_wider}
use Rattle.wse_txn.specs.Command.{IsAt}
use Rattle.wse_txn.specs.Stands.{StandsFor, IsNoStore}
use Rattle.wse_txn.proofs.OneState.{stands_for_one}
use Rattle.wse_stream.specs.Causes.{CountsFault}
use Rattle.wse_stream.specs.Runs.{HasCauses}
use Rattle.wse_stream.specs.Scene.{DiskAt, disk_at, Faults, faults}
use Rattle.wse_stream.proofs.MomentLemmas.{stretch_since}
use Rattle.wse_recover.specs.Open.{RefusesOpen, StandsForOpened, fault_may_adopt, disk_of_fault, IsInTheWay, DiffersFirstAt, IsTooBig, AdoptsTooMuch}
use Rattle.wse_recover.specs.declared.open.OpenFault.{OpenFault}
use Rattle.wse_recover.specs.declared.open.OpenFault.TheVariants as opens
use Rattle.wse_engine.specs.Engine.{IsEngine}
use Rattle.wse_run.specs.Complete.{IsOpenable}
use Rattle.wse_run.specs.End.{ending_of}
use Rattle.wse_run.specs.Fault.{end_of_fault}
use Rattle.wse_run.specs.Refusal.{IsPassed, IsInDispute}
use Rattle.wse_run.specs.declared.end.RunEnd.{RunEnd}
use Rattle.wse_run.specs.declared.end.RunEnd.TheVariants.{Done, Read, Write, Disk, Memory, NotAStore, TooBig, InputLimit, Differs}
use Rattle.wse_run.proofs.OpeningLemmas.{disk_told}
use Rattle.wse_show.specs.Show.{show_text}
use Rattle.wsedit.specs.Showing.{Emits, HasEmittedOr, Opens, HasShownOr, LeavesShown, Shows}

-- what opening without adopting may leave
abbrev pub Leaves : (start now : Option Standing) → Type 0
Leaves start now = (s : State) → StandsFor s (reading_of start) → LeavesOnly start now (λ image. MayLeave start image ⊎ StandsFor s image)

-- Opening without adopting adopts nothing, whatever it answers.
never_adopts : {D : Type 0} (fault : OpenFault D) → fault_may_adopt false fault ≡ false
never_adopts (opens.Disk disk) = refl
never_adopts (opens.NotAStore disk at) = refl
never_adopts (opens.TooBig disk which found) = refl
never_adopts (opens.Differs disk p) = refl
never_adopts (opens.Memory disk) = refl

leaves_unadopted : {D : Type 0} (fault : OpenFault D) (start now : Option Standing)
    → ((s : State) → StandsFor s (reading_of start) → LeavesOnly start now (λ image. MayLeave start image ⊎ StandsForOpened (fault_may_adopt false fault) s image)) → Leaves start now
leaves_unadopted fault start now during =
    subst (λ (b : Bool). (s : State) → StandsFor s (reading_of start) → LeavesOnly start now (λ image. MayLeave start image ⊎ StandsForOpened b s image)) (never_adopts fault) during

stands_read : (told : Option Standing) (s : State) → IsTold told → WhereTold told (λ d. StandsFor s d.reading) → StandsFor s (reading_of told)
stands_read None s t is = absurd t
stands_read (Some d) s t is = is

pub leaves_shown : (moment : ℕ) (told : Option Standing) (now : DiskAt) → CountsMoments told moment → Leaves told now.told → LeavesShown (disk_told moment told) now
leaves_shown moment told now counts during = λ t s is at image le left.
    stretch_since told now.told moment at (λ c. MayLeave told c ⊎ StandsFor s c) image counts t (λ _. during s (stands_read told s t is)) le left

-- no call of the disk was made, or none that it tells of
pub leaves_untouched : (moment : ℕ) (told : Option Standing) (now : ℕ) (now_told : Option Standing) → CountsMoments told moment → now_told ≡ told → LeavesShown (disk_told moment told) (disk_told now now_told)
leaves_untouched moment told now now_told counts same = leaves_shown moment told (disk_told now now_told) counts (λ s stands. no_call told now_told _ same (λ c may. inl may))

-- ---- behind an opening

-- pieces of one moment that are a front of the text
abbrev pub emits_of : (text : List ℕ) (moment : ℕ) (old new : Option (List Piece)) (added : List Piece) → Adds old new added → AllAt moment added → IsPrefix (bytes_of added) text → Emits text moment moment old new
emits_of text moment old new added adds all front = record { added = added; adds = adds; times = within_at moment moment moment added (omega arith) (omega arith) all; front = front }

-- the same text at the same moment
pub emitted_of : (text bytes : List ℕ) (moment at : ℕ) (old new : Option (List Piece)) (end : RunEnd) → bytes ≡ text → at ≡ moment → HasEmittedOr bytes at at old new end → HasEmittedOr text moment moment old new end
emitted_of text bytes moment at old new end is same e =
    subst (λ (t : List ℕ). HasEmittedOr t moment moment old new end) is (subst (λ (m : ℕ). HasEmittedOr bytes m m old new end) same e)

-- the text came out at a moment between these
abbrev emits_within : (text : List ℕ) (first moment last : ℕ) (old new : Option (List Piece)) → first ≤ moment → moment ≤ last → Emits text moment moment old new → Emits text first last old new
emits_within text first moment last old new le le' e = record { added = e.added; adds = e.adds; times = within_wider first moment moment last e.added le le' e.times; front = e.front }

pub shown_opened : (limits : Limits) (old new : DiskAt) (s : State) (pieces pieces' : Option (List Piece)) (end : RunEnd) → old.moment ≤ new.moment → Opens limits old.told new.told s
    → HasEmittedOr (show_text s) new.moment new.moment pieces pieces' end → HasShownOr limits old new pieces pieces' end
shown_opened limits old new s pieces pieces' Done le is e = (s, is, (emits_within (show_text s) old.moment new.moment new.moment pieces pieces' le (omega arith) e.0, e.1))
shown_opened limits old new s pieces pieces' Read le is e = absurd e
shown_opened limits old new s pieces pieces' Write le is e = (s, is, emits_within (show_text s) old.moment new.moment new.moment pieces pieces' le (omega arith) e)
shown_opened limits old new s pieces pieces' Disk le is e = absurd e
shown_opened limits old new s pieces pieces' Memory le is e = e
shown_opened limits old new s pieces pieces' (NotAStore at) le is e = absurd e
shown_opened limits old new s pieces pieces' (TooBig hit) le is e = absurd e
shown_opened limits old new s pieces pieces' (InputLimit limit) le is e = absurd e
shown_opened limits old new s pieces pieces' (Differs p) le is e = absurd e

-- an engine that stands for the state
pub opens_of : (limits : Limits) (old new : Option Standing) (area : Area) (gate : ℕ) (s : State) → WhereTold old (λ d. StandsFor s d.reading) → IsStateLinked s → limit_hit limits s.files ≡ None → IsEngine new area gate s → Opens limits old new s
opens_of limits old new area gate s stood linked fits is = record { stood = stood; linked = linked; fits = fits; rests = record { at_rest = is.rests; reads = reads new is.at } }
  where
    reads : (told : Option Standing) → (IsTold told → IsAt s area gate told) → WhereTold told (λ d. StandsFor s d.reading)
    reads None at = tt
    reads (Some d) at = (at tt).stands

-- the disk didn't fail
pub emitted_cause : (text : List ℕ) (first last : ℕ) (pieces pieces' : Option (List Piece)) (end : RunEnd) (before now : ℕ) → HasEmittedOr text first last pieces pieces' end → now ≡ before → CountsFault (ending_of end).disk before now
emitted_cause text first last pieces pieces' Done before now e kept = kept
emitted_cause text first last pieces pieces' Read before now e kept = absurd e
emitted_cause text first last pieces pieces' Write before now e kept = kept
emitted_cause text first last pieces pieces' Disk before now e kept = absurd e
emitted_cause text first last pieces pieces' Memory before now e kept = kept
emitted_cause text first last pieces pieces' (NotAStore at) before now e kept = absurd e
emitted_cause text first last pieces pieces' (TooBig hit) before now e kept = absurd e
emitted_cause text first last pieces pieces' (InputLimit limit) before now e kept = absurd e
emitted_cause text first last pieces pieces' (Differs p) before now e kept = absurd e

-- ---- a store that isn't opened

module _ {D : Type 0} (moment_of : D → ℕ) (told : D → Option Standing) (count : D → ℕ) (limits : Limits) (old : D) (pieces : Option (List Piece)) where
  by_fault : (fault : OpenFault D) → RefusesOpen told count false limits old fault → HasShownOr limits (disk_at moment_of told old) (disk_at moment_of told (disk_of_fault fault)) pieces pieces (end_of_fault fault)
  by_fault (opens.Disk disk) why = refl
  by_fault (opens.NotAStore disk place) why = (refl, why)
  by_fault (opens.TooBig disk which found) why = (refl, why)
  by_fault (opens.Differs disk p) why = (refl, why)
  by_fault (opens.Memory disk) why = refl

  -- the end tells why
  pub shown_refused : (fault : OpenFault D) (new : D) (end : RunEnd) → new ≡ disk_of_fault fault → end ≡ end_of_fault fault → CountsMoments (told old) (moment_of old) → moment_of old ≤ moment_of (disk_of_fault fault)
      → ((s : State) → StandsFor s (reading_of (told old)) → LeavesOnly (told old) (told (disk_of_fault fault)) (λ image. MayLeave (told old) image ⊎ StandsForOpened (fault_may_adopt false fault) s image)) → RefusesOpen told count false limits old fault → Shows limits (disk_at moment_of told old) (disk_at moment_of told new) pieces pieces end
  shown_refused fault new end disk is counts later during why =
      subst (λ (e : RunEnd). Shows limits (disk_at moment_of told old) (disk_at moment_of told new) pieces pieces e) (sym is)
      (subst (λ (d : D). Shows limits (disk_at moment_of told old) (disk_at moment_of told d) pieces pieces (end_of_fault fault)) (sym disk)
      (record {
        later = later;
        images = leaves_shown (moment_of old) (told old) (disk_at moment_of told (disk_of_fault fault)) counts (leaves_unadopted fault (told old) (told (disk_of_fault fault)) during);
        shown = by_fault fault why;
      }))

-- ---- from an earlier moment

shown_earlier : (limits : Limits) (old mid : ℕ) (told : Option Standing) (new : DiskAt) (pieces pieces' : Option (List Piece)) (end : RunEnd) → old ≤ mid
    → HasShownOr limits (disk_told mid told) new pieces pieces' end → HasShownOr limits (disk_told old told) new pieces pieces' end
shown_earlier limits old mid told new pieces pieces' Done le h =
    (h.0, h.1, (record { added = h.2.0.added; adds = h.2.0.adds; times = within_wider old mid new.moment new.moment h.2.0.added le (omega arith) h.2.0.times; front = h.2.0.front }, h.2.1))
shown_earlier limits old mid told new pieces pieces' Read le h = absurd h
shown_earlier limits old mid told new pieces pieces' Write le h =
    (h.0, h.1, record { added = h.2.added; adds = h.2.adds; times = within_wider old mid new.moment new.moment h.2.added le (omega arith) h.2.times; front = h.2.front })
shown_earlier limits old mid told new pieces pieces' Disk le h = h
shown_earlier limits old mid told new pieces pieces' Memory le h = h
shown_earlier limits old mid told new pieces pieces' (NotAStore at) le h = h
shown_earlier limits old mid told new pieces pieces' (TooBig hit) le h = h
shown_earlier limits old mid told new pieces pieces' (InputLimit limit) le h = absurd h
shown_earlier limits old mid told new pieces pieces' (Differs p) le h = h

images_earlier : (old mid : ℕ) (told : Option Standing) (new : DiskAt) → CountsMoments told old → CountsMoments told mid → LeavesShown (disk_told mid told) new → LeavesShown (disk_told old told) new
images_earlier old mid None new counts counts' images = λ t. absurd t
images_earlier old mid (Some d) new counts counts' images = λ t s is at image le left. images t s is at image (omega (arith, le, counts, counts')) left

pub shows_earlier : (limits : Limits) (old mid : ℕ) (told mid_told : Option Standing) (new : DiskAt) (pieces pieces' : Option (List Piece)) (end : RunEnd) → old ≤ mid → mid_told ≡ told → CountsMoments told old → CountsMoments mid_told mid
    → Shows limits (disk_told mid mid_told) new pieces pieces' end → Shows limits (disk_told old told) new pieces pieces' end
shows_earlier limits old mid told mid_told new pieces pieces' end le same counts counts' shows =
    let from : Shows limits (disk_told mid told) new pieces pieces' end = subst (λ (t : Option Standing). Shows limits (disk_told mid t) new pieces pieces' end) same shows in
    record {
      later = omega (arith, le, from.later);
      images = images_earlier old mid told new counts (subst (λ (t : Option Standing). CountsMoments t mid) same counts') from.images;
      shown = shown_earlier limits old mid told new pieces pieces' end le from.shown;
    }

-- ---- causes

-- the source has no part in it
pub shown_causes : (limits : Limits) (old new : DiskAt) (pieces pieces' : Option (List Piece)) (end : RunEnd) (source sink sink' disk disk' : ℕ) → HasShownOr limits old new pieces pieces' end
    → CountsFault (ending_of end).write sink sink' → CountsFault (ending_of end).disk disk disk' → HasCauses (ending_of end) (faults source sink disk) (faults source sink' disk')
shown_causes limits old new pieces pieces' Done source sink sink' disk disk' h out rose = record { source = refl; sink = out; disk = rose }
shown_causes limits old new pieces pieces' Read source sink sink' disk disk' h out rose = absurd h
shown_causes limits old new pieces pieces' Write source sink sink' disk disk' h out rose = record { source = refl; sink = out; disk = rose }
shown_causes limits old new pieces pieces' Disk source sink sink' disk disk' h out rose = record { source = refl; sink = out; disk = rose }
shown_causes limits old new pieces pieces' Memory source sink sink' disk disk' h out rose = record { source = refl; sink = out; disk = rose }
shown_causes limits old new pieces pieces' (NotAStore at) source sink sink' disk disk' h out rose = record { source = refl; sink = out; disk = rose }
shown_causes limits old new pieces pieces' (TooBig hit) source sink sink' disk disk' h out rose = record { source = refl; sink = out; disk = rose }
shown_causes limits old new pieces pieces' (InputLimit limit) source sink sink' disk disk' h out rose = absurd h
shown_causes limits old new pieces pieces' (Differs p) source sink sink' disk disk' h out rose = record { source = refl; sink = out; disk = rose }

-- ---- a store that can't but be shown

module _ (limits : Limits) (old new : DiskAt) (s : Standing) (told : old.told ≡ Some s) (open' : IsOpenable false limits s.reading) where
  told_here : (P : Standing → Type 0) → WhereTold old.told P → P s
  told_here P h = subst (λ (t : Option Standing). WhereTold t P) told h

  no_store : (at : ℕ) → WhereTold old.told (λ d. IsNoStore d.reading at) → ⊥
  no_store at h = stands_for_one.never open'.is_store.0 s.reading at open'.is_store.1 (told_here (λ d. IsNoStore d.reading at) h)

  passes_none : (hit : Hit) → IsPassed false limits old.told new.told hit → ⊥
  passes_none hit h =
      ⊎_elim (λ big. open'.fits hit big) (λ more. open'.adopts more.0 hit more.1)
      (told_here (λ d. IsTooBig limits hit d.reading ⊎ ((false ≡ true) × AdoptsTooMuch limits hit d.reading)) h.0)

  no_dispute : (p : List (List ℕ)) → IsInDispute false old.told new.told p → ⊥
  no_dispute p (inl way) = open'.is_clear p (told_here (λ d. IsInTheWay d.reading p) way.0)
  no_dispute p (inr other) = open'.agrees other.0 p (told_here (λ d. DiffersFirstAt p d.reading) other.1)

  pub done_or_starved : (pieces pieces' : Option (List Piece)) (counts counts' : Faults) (end : RunEnd) → (Rose counts.sink counts'.sink → ⊥) → (Rose counts.disk counts'.disk → ⊥)
      → HasCauses (ending_of end) counts counts' → HasShownOr limits old new pieces pieces' end → (end ≡ Done) ⊎ (end ≡ Memory)
  done_or_starved pieces pieces' counts counts' Done out calm causes h = inl refl
  done_or_starved pieces pieces' counts counts' Read out calm causes h = absurd h
  done_or_starved pieces pieces' counts counts' Write out calm causes h = absurd (out causes.sink.1)
  done_or_starved pieces pieces' counts counts' Disk out calm causes h = absurd (calm causes.disk.1)
  done_or_starved pieces pieces' counts counts' Memory out calm causes h = inr refl
  done_or_starved pieces pieces' counts counts' (NotAStore at) out calm causes h = absurd (no_store at h.1.0)
  done_or_starved pieces pieces' counts counts' (TooBig hit) out calm causes h = absurd (passes_none hit h.1)
  done_or_starved pieces pieces' counts counts' (InputLimit limit) out calm causes h = absurd h
  done_or_starved pieces pieces' counts counts' (Differs p) out calm causes h = absurd (no_dispute p h.1)
