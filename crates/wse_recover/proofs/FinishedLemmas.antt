-- What an unsettled record leaves while it is finished.
use Rattle.std.proofs.Common.{◌≡◌, inl, inr, ⊎_elim, ℕ, eqb, Bool, true, false, cond, List, [], ◌∷◌, ◌++◌, Option, Some, None, refl, sym, ap, subst, ◌∙◌}
use Rattle.std.specs.Prelude.{◌%◌, Result, Ok, Err}
use Rattle.std.specs.Option.{option_map_or}
use Rattle.std.proofs.lemmas.Bool.{ne_eqb}
use Rattle.wse_path.specs.Path.{Path}
use Rattle.wse_path.specs.Tree.{Entries, set_files, IsTree}
use Rattle.wse_path.specs.Changes.{changes_between, stored, erased, LeadToTree, DiffersOnlyAt}
use Rattle.wse_path.specs.declared.change.Change.{Change}
use Rattle.wse_path.proofs.LeadLemmas.{finished}
use Rattle.wse_element.specs.declared.plan.Plan.{Plan}
use Rattle.wse_element.specs.Content.{Content}
use Rattle.wse_element.proofs.ListLemmas.{last_or_push}
use Rattle.wse_element.specs.State.{State, Kept, kept_of}
use Rattle.wse_element.specs.declared.effect.Effect.{Effect}
use Rattle.wse_codec.specs.declared.snapshot.Snapshot.{Snapshot}
use Rattle.wse_codec.specs.Reading.{read_effects, read_snapshot}
use Rattle.wse_disk.specs.declared.area.Area.{Area}
use Rattle.wse_disk.specs.declared.area.Area.TheVariants.{Switch, LogA, LogB}
use Rattle.wse_disk.specs.Reading.{Reading, area_of, is_same_area, with_files}
use Rattle.wse_disk.specs.Standing.{Standing}
use Rattle.wse_disk.specs.Told.{reading_of, bytes_of_area}
use Rattle.wse_disk.specs.LeavesOnly.{LeavesOnly}
use Rattle.wse_disk.specs.Changes.{HasChanged, ChangesOnly}
use Rattle.wse_disk.proofs.AreaLemmas.{areas_stay}
use Rattle.wse_disk.proofs.Moments.{joined, weaker}
use Rattle.wse_log.specs.Grammar.{JournalRecord, IsJournal, ClosedAt, settled_byte}
use Rattle.wse_log.specs.Writing.{next_gate, settled}
use Rattle.wse_txn.specs.Journal.{IsSettledJournal, IsUnsettledJournal}
use Rattle.wse_txn.specs.Images.{DiffersInArea, IsClosing, IsClosed}
use Rattle.wse_txn.specs.Replay.{Replayed, replayed, begun_with, Given, Leaves, Gives, GivesBehind, GivesNext, GivesFirst}
use Rattle.wse_txn.specs.States.{body_of}
use Rattle.wse_txn.specs.Stands.{StandsFor, chosen, chosen_by, journal_of, ends_settled}
use Rattle.wse_txn.specs.Command.{IsAt}
use Rattle.wse_txn.proofs.SetLemmas.{set_again}
use Rattle.wse_txn.proofs.ToldSteps.{told_by_journal}
use Rattle.wse_recover.specs.Finish.{IsUnfinished}
use Rattle.wse_recover.proofs.FinishLemmas.{finish}

-- ---- which journal, and which records are settled

not_the_switch : (switch : List ℕ) → is_same_area Switch (chosen_by switch) ≡ false
not_the_switch [] = refl
not_the_switch (b ∷ rest) = elim (eqb (b % 2) 0) as (λ x. is_same_area Switch (cond x LogA LogB) ≡ false) [ true ↦ refl | false ↦ refl ]

same_choice : (old image : Reading) → DiffersInArea (chosen old) old image → chosen image ≡ chosen old
same_choice old image only = ap chosen_by (only.others Switch (not_the_switch old.switch))

pub ends_with : (rs : List JournalRecord) (r : JournalRecord) → ends_settled (rs ++ r ∷ []) ≡ eqb r.mark settled_byte
ends_with rs r = ap (λ (o : Option JournalRecord). option_map_or (λ x. eqb x.mark settled_byte) o true) (last_or_push None rs r)

-- ---- the mark of a record doesn't matter for what it leaves

next_map : (kept : Kept) (gate : ℕ) (o : Result (List Effect) ℕ) (A B : Replayed → Type 0) (given : Given) → ((n : Replayed) → A n → B n) → GivesNext kept gate o A given → GivesNext kept gate o B given
next_map kept gate (Err at) A B given f h = h
next_map kept gate (Ok es) A B given f h = ⊎_elim (λ a. inl (a.0, f (replayed kept es) a.1)) (λ b. inr b) h

first_map : (o : Result Snapshot ℕ) (A B : Replayed → Type 0) (given : Given) → ((n : Replayed) → A n → B n) → GivesFirst o A given → GivesFirst o B given
first_map (Err at) A B given f h = h
first_map (Ok s) A B given f h = ⊎_elim (λ a. inl (a.0, f (begun_with s) a.1)) (λ b. inr b) h

marked_behind : (left : Replayed) (gate : ℕ) (rs : List JournalRecord) (body : List ℕ) (m n end : ℕ) (given : Given)
    → GivesBehind left gate (rs ++ record { body = body; mark = m } ∷ []) (ClosedAt end) given → GivesBehind left gate (rs ++ record { body = body; mark = n } ∷ []) (ClosedAt end) given
marked_behind left gate [] body m n end given h = h
marked_behind left gate (r ∷ rs) body m n end given h =
    next_map left.kept gate (read_effects r.body)
    (λ next. GivesBehind next (next_gate gate r.body) (rs ++ record { body = body; mark = m } ∷ []) (ClosedAt end) given)
    (λ next. GivesBehind next (next_gate gate r.body) (rs ++ record { body = body; mark = n } ∷ []) (ClosedAt end) given)
    given (λ next g. marked_behind next (next_gate gate r.body) rs body m n end given g) h

marked : (rs : List JournalRecord) (body : List ℕ) (m n end : ℕ) (given : Given)
    → Gives (rs ++ record { body = body; mark = m } ∷ []) (ClosedAt end) given → Gives (rs ++ record { body = body; mark = n } ∷ []) (ClosedAt end) given
marked [] body m n end given h = h
marked (r ∷ rs) body m n end given h =
    first_map (read_snapshot r.body)
    (λ left. GivesBehind left (next_gate 8 r.body) (rs ++ record { body = body; mark = m } ∷ []) (ClosedAt end) given)
    (λ left. GivesBehind left (next_gate 8 r.body) (rs ++ record { body = body; mark = n } ∷ []) (ClosedAt end) given)
    given (λ left g. marked_behind left (next_gate 8 r.body) rs body m n end given g) h

module _ (s : State) (area : Area) (gate : ℕ) (plan : Plan) (old : Reading) (is : IsUnfinished s area gate plan old) where
  abbrev with_mark : ℕ → List JournalRecord
  with_mark mark = is.before ++ record { body = body_of plan; mark = mark } ∷ []

  stands_with : (image : Reading) (mark : ℕ) → area ≡ chosen image → IsJournal (area_of area image) (with_mark mark) gate → s.files ≡ cond (eqb mark settled_byte) image.files (set_files is.sets image.files) → StandsFor s image
  stands_with image mark same journal files = record {
    records = with_mark mark;
    gate = gate;
    journal = subst (λ (a : Area). IsJournal (area_of a image) (with_mark mark) gate) same journal;
    sets = is.sets;
    gives = marked is.before (body_of plan) is.journal.mark mark gate (Leaves (record { kept = kept_of s; sets = is.sets })) is.gives;
    files = files ∙ sym (ap (λ (b : Bool). cond b image.files (set_files is.sets image.files)) (ends_with is.before (record { body = body_of plan; mark = mark })));
  }

  -- While its changes are made.
  pub changing_stands : (image : Reading) → ChangesOnly plan.changes old image → StandsFor s image
  changing_stands image only =
      stands_with image is.journal.mark
      (is.same_area ∙ ap chosen_by (sym (only.areas Switch)))
      (subst (λ (l : List ℕ). IsJournal l (with_mark is.journal.mark) gate) (sym (only.areas area)) is.journal.journal)
      (is.files
      ∙ sym (finish is.sets old.files image.files is.old_tree (subst (λ (cs : List Change). DiffersOnlyAt cs old.files image.files) is.changes only.files))
      ∙ sym (ap (λ (b : Bool). cond b image.files (set_files is.sets image.files)) (ne_eqb is.journal.mark settled_byte is.journal.unsettled)))

  abbrev lead : LeadToTree old.files plan.changes
  lead = record { old = is.old_tree; new = s.files; tree = is.new_tree; between = is.changes ∙ ap (changes_between old.files) (sym is.files) }

  module _ (made : Reading) (changed : made ≡ with_files (stored plan.changes (erased plan.changes old.files)) old) where
    files_made : made.files ≡ s.files
    files_made = ap (λ (r : Reading). r.files) changed ∙ finished old.files plan.changes lead

    choice_made : area ≡ chosen made
    choice_made = is.same_area ∙ ap chosen_by (sym (ap (λ (r : Reading). r.switch) changed))

    pub journal_made : IsUnsettledJournal (area_of area made) is.before (body_of plan) gate
    journal_made = subst (λ (l : List ℕ). IsUnsettledJournal l is.before (body_of plan) gate)
        (sym (ap (area_of area) changed ∙ areas_stay area (stored plan.changes (erased plan.changes old.files)) old)) is.journal

    set_twice : set_files is.sets s.files ≡ s.files
    set_twice = ap (set_files is.sets) is.files ∙ set_again is.sets old.files is.old_tree.rises ∙ sym is.files

    pub choice_after : (image : Reading) → DiffersInArea area made image → area ≡ chosen image
    choice_after image only =
        choice_made ∙ sym (same_choice made image (subst (λ (a : Area). DiffersInArea a made image) choice_made only))

    marked_stands : (image : Reading) (mark : ℕ) → DiffersInArea area made image → IsJournal (area_of area image) (with_mark mark) gate → StandsFor s image
    marked_stands image mark only journal =
        let now : image.files ≡ s.files = only.files ∙ files_made in
        stands_with image mark (choice_after image only) journal
        (elim (eqb mark settled_byte) as (λ b. s.files ≡ cond b image.files (set_files is.sets image.files)) [
          | true ↦ sym now
          | false ↦ sym (ap (set_files is.sets) now ∙ set_twice)
        ])

    -- While it is settled.
    pub closing_stands : (image : Reading) → IsClosing area is.before gate (body_of plan) made image → StandsFor s image
    closing_stands image closing = marked_stands image closing.mark closing.only closing.journal

    pub closed_stands : (image : Reading) → IsClosed area is.before gate (body_of plan) made image → StandsFor s image
    closed_stands image closed = marked_stands image settled_byte closed.only closed.journal.journal

-- ---- the same over what is told

abbrev pub CloseLeaves : Plan → Area → ℕ → Option Standing → Option Standing → Type 0
CloseLeaves plan area gate made closed = (records : List JournalRecord) → IsUnsettledJournal (bytes_of_area area made) records (body_of plan) gate
    → LeavesOnly made closed (IsClosing area records gate (body_of plan) (reading_of made))

abbrev pub CloseGives : Plan → Area → ℕ → Option Standing → Option Standing → Type 0
CloseGives plan area gate made closed = (records : List JournalRecord) → IsUnsettledJournal (bytes_of_area area made) records (body_of plan) gate
    → IsClosed area records gate (body_of plan) (reading_of made) (reading_of closed)

changed_told : (changes : List Change) (old new : Option Standing) → (old ≡ None → ⊥) → HasChanged changes old new → reading_of new ≡ with_files (stored changes (erased changes (reading_of old).files)) (reading_of old)
changed_told changes None new some is = absurd (some refl)
changed_told changes (Some s) None some is = absurd is
changed_told changes (Some s) (Some t) some is = is

module _ (s : State) (area : Area) (gate : ℕ) (plan : Plan) (start : Option Standing) (is : IsUnfinished s area gate plan (reading_of start)) where
  -- `settle`, whether it failed or not.
  pub leaves_changing : (made : Option Standing) → LeavesOnly start made (ChangesOnly plan.changes (reading_of start)) → LeavesOnly start made (StandsFor s)
  leaves_changing made leaves = weaker start made (ChangesOnly plan.changes (reading_of start)) (StandsFor s) (changing_stands s area gate plan (reading_of start) is) leaves

  module _ (made : Option Standing) (leaves : LeavesOnly start made (ChangesOnly plan.changes (reading_of start))) (done : HasChanged plan.changes start made) where
    made_is : reading_of made ≡ with_files (stored plan.changes (erased plan.changes (reading_of start).files)) (reading_of start)
    made_is = changed_told plan.changes start made (told_by_journal area start _ gate is.journal.journal) done

    abbrev there : IsUnsettledJournal (area_of area (reading_of made)) is.before (body_of plan) gate
    there = journal_made s area gate plan (reading_of start) is (reading_of made) made_is

    -- `close`, whether it failed or not.
    pub leaves_closing : (closed : Option Standing) → CloseLeaves plan area gate made closed → LeavesOnly start closed (StandsFor s)
    leaves_closing closed closes =
        joined start made closed (StandsFor s) (leaves_changing made leaves)
        (weaker made closed (IsClosing area is.before gate (body_of plan) (reading_of made)) (StandsFor s)
        (closing_stands s area gate plan (reading_of start) is (reading_of made) made_is) (closes is.before there))

    pub is_at : (closed : Option Standing) → CloseGives plan area gate made closed → IsAt s area gate closed
    is_at closed has =
        let end = has is.before there in
        let same = choice_after s area gate plan (reading_of start) is (reading_of made) made_is (reading_of closed) end.only in
        record {
          stands = closed_stands s area gate plan (reading_of start) is (reading_of made) made_is (reading_of closed) end;
          same_area = same;
          records = is.before ++ settled (body_of plan) ∷ [];
          journal = subst (λ (a : Area). IsSettledJournal (area_of a (reading_of closed)) (is.before ++ settled (body_of plan) ∷ []) gate) same end.journal;
        }
