-- One command, from the answers of the three calls.
use Rattle.std.proofs.Common.{◌≡◌, ℕ, List, [], ◌∷◌, ◌++◌, Option, sym, ap, subst, ◌∙◌}
use Rattle.wse_path.specs.Changes.{stored, erased}
use Rattle.wse_element.specs.declared.plan.Plan.{Plan}
use Rattle.wse_element.specs.State.{State}
use Rattle.wse_element.specs.Effects.{state_after}
use Rattle.wse_disk.specs.declared.area.Area.{Area}
use Rattle.wse_disk.specs.Reading.{area_of, with_files}
use Rattle.wse_disk.specs.Standing.{Standing}
use Rattle.wse_disk.specs.Told.{reading_of, bytes_of_area}
use Rattle.wse_disk.specs.LeavesOnly.{LeavesOnly}
use Rattle.wse_disk.specs.Changes.{HasChanged, ChangesOnly}
use Rattle.wse_disk.proofs.AreaLemmas.{areas_stay}
use Rattle.wse_log.specs.Grammar.{JournalRecord}
use Rattle.wse_log.specs.Writing.{settled, next_gate}
use Rattle.wse_txn.specs.States.{body_of}
use Rattle.wse_txn.specs.Journal.{IsSettledJournal, IsUnsettledJournal}
use Rattle.wse_txn.specs.Images.{IsSealing, IsSealed, IsClosing, IsClosed}
use Rattle.wse_txn.specs.Stands.{chosen}
use Rattle.wse_codec.specs.Comes.{MayCome}
use Rattle.wse_txn.specs.Command.{IsAt}
use Rattle.wse_txn.specs.Laws.{Seals, Settles, Closes, LeavesOneOf}
use Rattle.wse_txn.proofs.TwoStates.{closed_choice}
use Rattle.wse_txn.proofs.Together.{whole, is_ready, made_from}

-- What the three calls say, of the journal's records.
abbrev pub SealLeaves : Plan → Area → ℕ → Option Standing → Option Standing → Type 0
SealLeaves plan area gate start sealed = (records : List JournalRecord) → IsSettledJournal (bytes_of_area area start) records gate
    → LeavesOnly start sealed (IsSealing area records gate (body_of plan) (reading_of start))

abbrev pub SealGives : Plan → Area → ℕ → Option Standing → Option Standing → Type 0
SealGives plan area gate start sealed = (records : List JournalRecord) → IsSettledJournal (bytes_of_area area start) records gate
    → IsSealed area records gate (body_of plan) (reading_of start) (reading_of sealed)

abbrev pub CloseLeaves : Plan → Area → ℕ → Option Standing → Option Standing → Type 0
CloseLeaves plan area next made closed = (records : List JournalRecord) → IsUnsettledJournal (bytes_of_area area made) records (body_of plan) next
    → LeavesOnly made closed (IsClosing area records next (body_of plan) (reading_of made))

abbrev pub CloseGives : Plan → Area → ℕ → Option Standing → Option Standing → Type 0
CloseGives plan area next made closed = (records : List JournalRecord) → IsUnsettledJournal (bytes_of_area area made) records (body_of plan) next
    → IsClosed area records next (body_of plan) (reading_of made) (reading_of closed)

module _ (s : State) (plan : Plan) (area : Area) (gate : ℕ) (start : Option Standing) (is : IsAt s area gate start) (may : MayCome s plan) where
  is_sealing : (sealed : Option Standing) → SealLeaves plan area gate start sealed → Seals s plan is.records gate start sealed
  is_sealing sealed seals = record {
    stands = is.stands;
    may = may;
    journal = is.journal;
    leaves = subst (λ (a : Area). SealLeaves plan a gate start sealed) is.same_area seals is.records is.journal;
  }

  -- `seal` failed.
  pub leaves_sealing : (sealed : Option Standing) → SealLeaves plan area gate start sealed → LeavesOneOf s plan start sealed
  leaves_sealing sealed seals = whole.writing s plan is.records gate start sealed (is_sealing sealed seals)

  module _ (sealed : Option Standing) (seals : SealLeaves plan area gate start sealed) (has : SealGives plan area gate start sealed) where
    is_whole : IsSealed (chosen (reading_of start)) is.records gate (body_of plan) (reading_of start) (reading_of sealed)
    is_whole = subst (λ (a : Area). SealGives plan a gate start sealed) is.same_area has is.records is.journal

    is_settling : (made : Option Standing) → LeavesOnly sealed made (ChangesOnly plan.changes (reading_of sealed)) → Settles s plan is.records gate start sealed made
    is_settling made leaves = record { seals = is_sealing sealed seals; whole = is_whole; leaves = leaves }

    -- `settle` failed.
    pub leaves_changing : (made : Option Standing) → LeavesOnly sealed made (ChangesOnly plan.changes (reading_of sealed)) → LeavesOneOf s plan start made
    leaves_changing made leaves = whole.changing s plan is.records gate start sealed made (is_settling made leaves)

    module _ (made : Option Standing) (leaves : LeavesOnly sealed made (ChangesOnly plan.changes (reading_of sealed))) (done : HasChanged plan.changes sealed made) where
      made_is : reading_of made ≡ with_files (stored plan.changes (erased plan.changes (reading_of sealed).files)) (reading_of sealed)
      made_is = made_from s plan is.records gate start sealed made (is_settling made leaves) done

      -- The journal that `close` finds.
      journal_made : IsUnsettledJournal (area_of (chosen (reading_of start)) (reading_of made)) is.records (body_of plan) (next_gate gate (body_of plan))
      journal_made =
          subst (λ (l : List ℕ). IsUnsettledJournal l is.records (body_of plan) (next_gate gate (body_of plan)))
          (sym (ap (area_of (chosen (reading_of start))) made_is ∙ areas_stay (chosen (reading_of start)) (stored plan.changes (erased plan.changes (reading_of sealed).files)) (reading_of sealed)))
          is_whole.journal

      module _ (closed : Option Standing) (settles : CloseLeaves plan area (next_gate gate (body_of plan)) made closed) where
        closes : Closes s plan is.records gate start sealed made closed
        closes = record {
          settles = is_settling made leaves;
          done = done;
          leaves = subst (λ (a : Area). CloseLeaves plan a (next_gate gate (body_of plan)) made closed) is.same_area settles is.records journal_made;
        }

        -- `close` failed or not.
        pub leaves_closing : LeavesOneOf s plan start closed
        leaves_closing = whole.closing s plan is.records gate start sealed made closed closes

        -- All was done.
        pub is_at : CloseGives plan area (next_gate gate (body_of plan)) made closed → IsAt (state_after s plan.effects) area (next_gate gate (body_of plan)) closed
        is_at has_settled =
            let is_closed = subst (λ (a : Area). CloseGives plan a (next_gate gate (body_of plan)) made closed) is.same_area has_settled is.records journal_made in
            let same : chosen (reading_of closed) ≡ chosen (reading_of start) =
            closed_choice s is.records gate (reading_of start) (is_ready s plan is.records gate start sealed (is_sealing sealed seals)) plan may (reading_of sealed) is_whole (reading_of made) made_is (reading_of closed) is_closed.only in
            record {
              stands = whole.closed s plan is.records gate start sealed made closed closes is_closed;
              same_area = is.same_area ∙ sym same;
              records = is.records ++ settled (body_of plan) ∷ [];
              journal = subst (λ (a : Area). IsSettledJournal (area_of a (reading_of closed)) (is.records ++ settled (body_of plan) ∷ []) (next_gate gate (body_of plan))) (sym same) is_closed.journal;
            }
