-- The images of one command stand for the state before it or for the one after it.
use Rattle.std.proofs.Common.{◌≡◌, inl, inr, ⊎_elim, ℕ, eqb, Bool, true, false, cond, List, [], ◌∷◌, ◌++◌, Option, Some, None, Ok, refl, sym, ap, subst, ◌∙◌}
use Rattle.std.specs.Prelude.{◌%◌}
use Rattle.std.specs.List.{last_or}
use Rattle.std.specs.Option.{option_map_or}
use Rattle.std.proofs.lemmas.Bool.{ne_eqb}
use Rattle.wse_path.specs.Path.{Path}
use Rattle.wse_path.specs.Tree.{Entries, set_files}
use Rattle.wse_path.specs.Changes.{is_changed, changes_between, stored, erased, LeadToTree, DiffersOnlyAt}
use Rattle.wse_path.specs.declared.change.Change.{Change}
use Rattle.wse_path.proofs.LeadLemmas.{finished}
use Rattle.wse_element.specs.declared.effect.Effect.{Effect}
use Rattle.wse_element.specs.declared.plan.Plan.{Plan}
use Rattle.wse_element.specs.Content.{Content}
use Rattle.wse_element.specs.State.{State, kept_of, stacks_of}
use Rattle.wse_element.specs.Effects.{state_after}
use Rattle.wse_element.proofs.ListLemmas.{last_or_push}
use Rattle.wse_disk.specs.declared.area.Area.{Area}
use Rattle.wse_disk.specs.declared.area.Area.TheVariants.{Switch, LogA, LogB}
use Rattle.wse_disk.specs.Reading.{Reading, area_of, is_same_area, with_files}
use Rattle.wse_disk.specs.Changes.{ChangesOnly}
use Rattle.wse_codec.specs.Spelling.{record_bytes}
use Rattle.wse_codec.specs.Reading.{read_effects}
use Rattle.wse_codec.specs.Pieces.{placed}
use Rattle.wse_codec.specs.Allowed.{IsAllowedRecord}
use Rattle.wse_codec.proofs.RecordLemmas.{record_again}
use Rattle.wse_log.specs.Grammar.{JournalRecord, EndSettled, IsJournal, ClosedAt, settled_byte}
use Rattle.wse_log.specs.Writing.{next_gate}
use Rattle.wse_log.proofs.OneReading.{one_reading}
use Rattle.wse_txn.specs.Journal.{IsSettledJournal, IsUnsettledJournal}
use Rattle.wse_txn.specs.Images.{DiffersInArea, IsSealing, IsSealed, IsClosing, IsClosed}
use Rattle.wse_txn.specs.Replay.{Leaves, sets_each, Gives}
use Rattle.wse_txn.specs.Stands.{chosen, chosen_by, journal_of, ends_settled, StandsFor}
use Rattle.wse_codec.specs.Comes.{MayCome}
use Rattle.wse_txn.specs.Command.{StandsForOneOf}
use Rattle.wse_txn.proofs.SetLemmas.{set_alike, set_again, unchanged_where_unset}
use Rattle.wse_txn.proofs.ReplayLemmas.{gives_more, files_as_set}

-- ---- which journal

not_the_switch : (switch : List ℕ) → is_same_area Switch (chosen_by switch) ≡ false
not_the_switch [] = refl
not_the_switch (b ∷ rest) = elim (eqb (b % 2) 0) as (λ x. is_same_area Switch (cond x LogA LogB) ≡ false) [ true ↦ refl | false ↦ refl ]

-- Where only the chosen journal differs, the same one is chosen.
same_choice : (old image : Reading) → DiffersInArea (chosen old) old image → chosen image ≡ chosen old
same_choice old image only = ap chosen_by (only.others Switch (not_the_switch old.switch))

-- ---- which records are settled

settled_behind : (r : JournalRecord) (rs : List JournalRecord) (o : Option JournalRecord) → EndSettled (r ∷ rs) → option_map_or (λ x. eqb x.mark settled_byte) (last_or o (r ∷ rs)) true ≡ true
settled_behind r [] o ends = subst (λ (n : ℕ). eqb n settled_byte ≡ true) (sym (ends [] r refl)) refl
settled_behind r (s ∷ rs) o ends = settled_behind s rs (Some r) (λ others last e. ends (r ∷ others) last (ap (λ (l : List JournalRecord). r ∷ l) e))

all_settled : (rs : List JournalRecord) → EndSettled rs → ends_settled rs ≡ true
all_settled [] ends = refl
all_settled (r ∷ rs) ends = settled_behind r rs None ends

ends_with : (rs : List JournalRecord) (r : JournalRecord) → ends_settled (rs ++ r ∷ []) ≡ eqb r.mark settled_byte
ends_with rs r = ap (λ (o : Option JournalRecord). option_map_or (λ x. eqb x.mark settled_byte) o true) (last_or_push None rs r)

-- ---- what the spelled record reads as

reads_back : (es : List Effect) → IsAllowedRecord es → read_effects (record_bytes es) ≡ Ok es
reads_back es h = ap (placed (record_bytes es)) (record_again es h)

-- ---- a state that is read and written on

-- What is known of a reading that stands for a state, with a journal that is settled.
pub record IsReady (s : State) (records : List JournalRecord) (gate : ℕ) (old : Reading) : Type 0 where
  pub journal : IsSettledJournal (journal_of old) records gate
  pub sets : List (Path × Content)
  pub gives : Gives records (ClosedAt gate) (Leaves (record { kept = kept_of s; sets = sets }))
  pub files : s.files ≡ old.files

pub ready : (s : State) (records : List JournalRecord) (gate : ℕ) (old : Reading) → StandsFor s old → IsSettledJournal (journal_of old) records gate → IsReady s records gate old
ready s records gate old stands journal =
    let same = one_reading (journal_of old) stands.records records (ClosedAt stands.gate) (ClosedAt gate) stands.journal journal.journal in
    record {
      journal = journal;
      sets = stands.sets;
      gives = subst (λ (rs : List JournalRecord). Gives rs (ClosedAt gate) (Leaves (record { kept = kept_of s; sets = stands.sets }))) same.0
          (subst (λ e. Gives stands.records e (Leaves (record { kept = kept_of s; sets = stands.sets }))) same.1 stands.gives);
      files = stands.files ∙ ap (λ (b : Bool). cond b old.files (set_files stands.sets old.files)) (ap ends_settled same.0 ∙ all_settled records journal.settled);
    }

module _ (s : State) (records : List JournalRecord) (gate : ℕ) (old : Reading) (is : IsReady s records gate old) (plan : Plan) (may : MayCome s plan) where
  abbrev new_state : State
  new_state = state_after s plan.effects

  abbrev body : List ℕ
  body = record_bytes plan.effects

  abbrev sets : List (Path × Content)
  sets = sets_each (stacks_of (kept_of s)) plan.effects

  new_files : new_state.files ≡ set_files sets s.files
  new_files = files_as_set (stacks_of (kept_of s)) plan.effects s.files

  -- The journal with the command's record leaves the new state.
  gives_new : (mark close : ℕ) → Gives (records ++ record { body = body; mark = mark } ∷ []) (ClosedAt close) (Leaves (record { kept = kept_of new_state; sets = sets }))
  gives_new mark close =
      gives_more records (record { body = body; mark = mark }) gate close (record { kept = kept_of s; sets = is.sets }) plan.effects is.gives
      (reads_back plan.effects may.some) may.applicable

  -- Files that differ only where the command changes them are finished as the new ones.
  finish : (image : Entries) → DiffersOnlyAt plan.changes s.files image → set_files sets image ≡ new_state.files
  finish image differs =
      set_alike sets image s.files differs.tree.rises may.old_tree.rises
      (λ q none. differs.others q
      (ap (λ (cs : List Change). is_changed cs q) (may.changes ∙ ap (changes_between s.files) new_files)
      ∙ unchanged_where_unset sets s.files q none))
      ∙ sym new_files

  finish_again : set_files sets new_state.files ≡ new_state.files
  finish_again = ap (set_files sets) new_files ∙ set_again sets s.files may.old_tree.rises ∙ sym new_files

  abbrev lead : LeadToTree s.files plan.changes
  lead = record { old = may.old_tree; new = new_state.files; tree = may.new_tree; between = may.changes }

  stands_old : (image : Reading) → DiffersInArea (chosen old) old image → IsSettledJournal (area_of (chosen old) image) records gate → StandsFor s image
  stands_old image only journal = record {
    records = records;
    gate = gate;
    journal = subst (λ (a : Area). IsJournal (area_of a image) records gate) (sym (same_choice old image only)) journal.journal;
    sets = is.sets;
    gives = is.gives;
    files = is.files ∙ sym only.files ∙ sym (ap (λ (b : Bool). cond b image.files (set_files is.sets image.files)) (all_settled records is.journal.settled));
  }

  stands_new : (image : Reading) (mark close : ℕ) → chosen image ≡ chosen old → IsJournal (area_of (chosen old) image) (records ++ record { body = body; mark = mark } ∷ []) close → new_state.files ≡ cond (eqb mark settled_byte) image.files (set_files sets image.files) → StandsFor new_state image
  stands_new image mark close same journal files = record {
    records = records ++ record { body = body; mark = mark } ∷ [];
    gate = close;
    journal = subst (λ (a : Area). IsJournal (area_of a image) (records ++ record { body = body; mark = mark } ∷ []) close) (sym same) journal;
    sets = sets;
    gives = gives_new mark close;
    files = files ∙ sym (ap (λ (b : Bool). cond b image.files (set_files sets image.files)) (ends_with records (record { body = body; mark = mark })));
  }

  unsettled_stands : (image : Reading) (close : ℕ) → chosen image ≡ chosen old → IsUnsettledJournal (area_of (chosen old) image) records body close → DiffersOnlyAt plan.changes s.files image.files → StandsFor new_state image
  unsettled_stands image close same journal differs =
      stands_new image journal.mark close same journal.journal
      (sym (finish image.files differs) ∙ sym (ap (λ (b : Bool). cond b image.files (set_files sets image.files)) (ne_eqb journal.mark settled_byte journal.unsettled)))

  itself : DiffersOnlyAt plan.changes s.files s.files
  itself = record { tree = may.old_tree; others = λ q none. refl }

  -- Up to the end of `seal` an image stands for the old state or for the new one.
  pub sealing_stands : (image : Reading) → IsSealing (chosen old) records gate body old image → StandsForOneOf s new_state image
  sealing_stands image sealing =
      ⊎_elim
      (λ (journal : IsSettledJournal (area_of (chosen old) image) records gate). inl (stands_old image sealing.only journal))
      (λ (journal : IsUnsettledJournal (area_of (chosen old) image) records body (next_gate gate body)). inr (unsettled_stands image (next_gate gate body) (same_choice old image sealing.only) journal
      (subst (DiffersOnlyAt plan.changes s.files) (is.files ∙ sym sealing.only.files) itself)))
      sealing.journal

  module _ (sealed : Reading) (whole : IsSealed (chosen old) records gate body old sealed) where
    abbrev changes_sealed : (image : Reading) → ChangesOnly plan.changes sealed image → chosen image ≡ chosen old
    changes_sealed image only = ap chosen_by (only.areas Switch) ∙ same_choice old sealed whole.only

    -- From then on it stands for the new one.
    pub changing_stands : (image : Reading) → ChangesOnly plan.changes sealed image → StandsFor new_state image
    changing_stands image only =
        unsettled_stands image (next_gate gate body) (changes_sealed image only)
        (subst (λ (l : List ℕ). IsUnsettledJournal l records body (next_gate gate body)) (sym (only.areas (chosen old))) whole.journal)
        (subst (λ (files : Entries). DiffersOnlyAt plan.changes files image.files) (whole.only.files ∙ sym is.files) only.files)

    module _ (made : Reading) (changed : made ≡ with_files (stored plan.changes (erased plan.changes sealed.files)) sealed) where
      files_made : made.files ≡ new_state.files
      files_made =
          ap (λ (r : Reading). r.files) changed
          ∙ ap (λ (files : Entries). stored plan.changes (erased plan.changes files)) (whole.only.files ∙ sym is.files)
          ∙ finished s.files plan.changes lead

      switch_made : made.switch ≡ old.switch
      switch_made = ap (λ (r : Reading). r.switch) changed ∙ whole.only.others Switch (not_the_switch old.switch)

      pub closed_choice : (image : Reading) → DiffersInArea (chosen old) made image → chosen image ≡ chosen old
      closed_choice image only = ap chosen_by (only.others Switch (not_the_switch old.switch) ∙ switch_made)

      marked_stands : (image : Reading) (mark close : ℕ) → DiffersInArea (chosen old) made image → IsJournal (area_of (chosen old) image) (records ++ record { body = body; mark = mark } ∷ []) close → StandsFor new_state image
      marked_stands image mark close only journal =
          let now : image.files ≡ new_state.files = only.files ∙ files_made in
          stands_new image mark close (closed_choice image only) journal
          (elim (eqb mark settled_byte) as (λ b. new_state.files ≡ cond b image.files (set_files sets image.files)) [
            | true ↦ sym now
            | false ↦ sym (ap (set_files sets) now ∙ finish_again)
          ])

      pub closing_stands : (image : Reading) → IsClosing (chosen old) records (next_gate gate body) body made image → StandsFor new_state image
      closing_stands image closing = marked_stands image closing.mark (next_gate gate body) closing.only closing.journal

      pub closed_stands : (image : Reading) → IsClosed (chosen old) records (next_gate gate body) body made image → StandsFor new_state image
      closed_stands image closed = marked_stands image settled_byte (next_gate gate body) closed.only closed.journal.journal
