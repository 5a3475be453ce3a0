-- The calls of one command, one after the other.
use Rattle.std.proofs.Common.{◌≡◌, inr, ℕ, List, Option, Some, None, refl}
use Rattle.wse_path.specs.Changes.{stored, erased}
use Rattle.wse_path.specs.declared.change.Change.{Change}
use Rattle.wse_element.specs.declared.plan.Plan.{Plan}
use Rattle.wse_element.specs.State.{State}
use Rattle.wse_element.specs.Effects.{state_after}
use Rattle.wse_disk.specs.Reading.{Reading, with_files}
use Rattle.wse_disk.specs.Standing.{Standing}
use Rattle.wse_disk.specs.Told.{reading_of}
use Rattle.wse_disk.specs.Changes.{HasChanged, ChangesOnly}
use Rattle.wse_disk.proofs.Moments.{joined, weaker}
use Rattle.wse_log.specs.Grammar.{JournalRecord}
use Rattle.wse_log.specs.Writing.{next_gate}
use Rattle.wse_txn.specs.States.{body_of}
use Rattle.wse_txn.specs.Images.{IsSealing, IsClosing}
use Rattle.wse_txn.proofs.ToldSteps.{told_by_journal}
use Rattle.wse_txn.specs.Stands.{chosen}
use Rattle.wse_txn.specs.Command.{StandsForOneOf}
use Rattle.wse_txn.specs.Laws.{Seals, Settles, Closes, LeavesOneOf, CommandIsWhole}
use Rattle.wse_txn.proofs.TwoStates.{IsReady, ready, sealing_stands, changing_stands, closing_stands, closed_stands}

changed_told : (changes : List Change) (old new : Option Standing) → (old ≡ None → ⊥) → HasChanged changes old new → reading_of new ≡ with_files (stored changes (erased changes (reading_of old).files)) (reading_of old)
changed_told changes None new some is = absurd (some refl)
changed_told changes (Some s) None some is = absurd is
changed_told changes (Some s) (Some t) some is = is

module _ (s : State) (plan : Plan) (records : List JournalRecord) (gate : ℕ) (start sealed : Option Standing) (w : Seals s plan records gate start sealed) where
  pub is_ready : IsReady s records gate (reading_of start)
  is_ready = ready s records gate (reading_of start) w.stands w.journal

  abbrev one_of : Reading → Type 0
  one_of = StandsForOneOf s (state_after s plan.effects)

  writing : LeavesOneOf s plan start sealed
  writing =
      weaker start sealed (IsSealing (chosen (reading_of start)) records gate (body_of plan) (reading_of start)) one_of
      (sealing_stands s records gate (reading_of start) is_ready plan w.may) w.leaves

changing : (s : State) (plan : Plan) (records : List JournalRecord) (gate : ℕ) (start sealed made : Option Standing) → Settles s plan records gate start sealed made → LeavesOneOf s plan start made
changing s plan records gate start sealed made c =
    let P = StandsForOneOf s (state_after s plan.effects) in
    joined start sealed made P (writing s plan records gate start sealed c.seals)
    (weaker sealed made (ChangesOnly plan.changes (reading_of sealed)) P
    (λ image only. inr (changing_stands s records gate (reading_of start) (is_ready s plan records gate start sealed c.seals) plan c.seals.may (reading_of sealed) c.whole image only)) c.leaves)

pub made_from : (s : State) (plan : Plan) (records : List JournalRecord) (gate : ℕ) (start sealed made : Option Standing) → Settles s plan records gate start sealed made → HasChanged plan.changes sealed made → reading_of made ≡ with_files (stored plan.changes (erased plan.changes (reading_of sealed).files)) (reading_of sealed)
made_from s plan records gate start sealed made c done =
    changed_told plan.changes sealed made (told_by_journal (chosen (reading_of start)) sealed _ (next_gate gate (body_of plan)) c.whole.journal.journal) done

module _ (s : State) (plan : Plan) (records : List JournalRecord) (gate : ℕ) (start sealed made closed : Option Standing) (c : Closes s plan records gate start sealed made closed) where
  made_whole : reading_of made ≡ with_files (stored plan.changes (erased plan.changes (reading_of sealed).files)) (reading_of sealed)
  made_whole = made_from s plan records gate start sealed made c.settles c.done

  closing : LeavesOneOf s plan start closed
  closing =
      let P = StandsForOneOf s (state_after s plan.effects) in
      joined start made closed P (changing s plan records gate start sealed made c.settles)
      (weaker made closed (IsClosing (chosen (reading_of start)) records (next_gate gate (body_of plan)) (body_of plan) (reading_of made)) P
      (λ image is. inr (closing_stands s records gate (reading_of start) (is_ready s plan records gate start sealed c.settles.seals) plan c.settles.seals.may (reading_of sealed) c.settles.whole (reading_of made) made_whole image is)) c.leaves)

pub whole : CommandIsWhole
whole = record {
  writing = writing;
  changing = changing;
  closing = closing;
  closed = λ s plan records gate start sealed made closed c is.
      closed_stands s records gate (reading_of start) (is_ready s plan records gate start sealed c.settles.seals) plan c.settles.seals.may (reading_of sealed) c.settles.whole (reading_of made) (made_whole s plan records gate start sealed made closed c) (reading_of closed) is;
}
