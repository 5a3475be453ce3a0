-- What reading, finishing and loading tell while a store is opened.
use Rattle.std.proofs.Common.{◌≡◌, ◌≢◌, ◌<◌, ◌^◌, ⊎_elim, IfOk, IfErr, ℕ, Bool, true, false, cond, List, [], ◌∷◌, ◌++◌, Option, Some, None, Result, Ok, Err, refl, sym, ap, subst, ◌∙◌}
use Rattle.wse_path.specs.Path.{Path}
use Rattle.wse_path.specs.Tree.{Entries, set_files, IsTree}
use Rattle.wse_path.specs.Changes.{LeadToTree}
use Rattle.wse_path.specs.declared.change.Change.{Change}
use Rattle.wse_element.specs.declared.plan.Plan.{Plan}
use Rattle.wse_element.specs.declared.effect.Effect.{Effect}
use Rattle.wse_element.specs.State.{State, Kept, kept_of}
use Rattle.wse_element.specs.Way.{in_the_way}
use Rattle.wse_element.proofs.WayLemmas.{tree_where_free}
use Rattle.wse_disk.specs.declared.area.Area.{Area}
use Rattle.wse_disk.specs.declared.area.Area.TheVariants.{LogA}
use Rattle.wse_disk.specs.Reading.{Reading, area_of}
use Rattle.wse_disk.specs.Standing.{Standing, after_whole_sync}
use Rattle.wse_disk.specs.Told.{WhereTold, MayLeave, ReadsAnImage, IsSynced, IsAtRest, reading_of}
use Rattle.wse_disk.specs.Calls.{Told, TellsSync}
use Rattle.wse_disk.specs.Changes.{LeadsToTree}
use Rattle.wse_disk.specs.LeavesOnly.{LeavesOnly}
use Rattle.wse_disk.proofs.ImageLemmas.{synced_images}
use Rattle.wse_disk.proofs.Moments.{one_call, no_call, joined, weaker, synced_goes}
use Rattle.wse_codec.specs.Spelling.{record_bytes}
use Rattle.wse_log.specs.Grammar.{JournalRecord, JournalEnd, ClosedAt, IsJournal, Reads}
use Rattle.wse_log.proofs.EachReads.{each_reads}
use Rattle.wse_txn.specs.Journal.{IsUnsettledJournal, HasUnsettledJournal}
use Rattle.wse_txn.specs.Replay.{Replayed, Leaves, NoStoreAt, Gives}
use Rattle.wse_txn.specs.States.{body_of, IsSealedFor}
use Rattle.wse_txn.specs.Stands.{StandsFor, IsNoStore, IsSameButLocks, journal_of, finished, ends_settled}
use Rattle.wse_txn.specs.Command.{IsAt}
use Rattle.wse_txn.proofs.OneState.{stands_alike, stands_for_one}
use Rattle.wse_txn.proofs.ToldSteps.{told_by_journal}
use Rattle.wse_recover.specs.Choose.{ReadsChosen}
use Rattle.wse_recover.specs.Held.{held}
use Rattle.wse_recover.specs.Journal.{IsJournalRead, GivesJournal}
use Rattle.wse_recover.specs.Finish.{IsUnfinished}
use Rattle.wse_recover.specs.Opening.{files_finished, state_over, IsJournalOf, HasJournal, EndsWith, TellsNoStore, IsFree, IsPlanFor}
use Rattle.wse_recover.specs.Sets.{AreToCome}
use Rattle.wse_recover.specs.Unsettled.{IsLast, IsUnsettled}
use Rattle.wse_recover.specs.Untouched.{IsUntouched}
use Rattle.wse_recover.specs.declared.fault.ReplayFault.{ReplayFault}
use Rattle.wse_recover.specs.declared.fault.ReplayFault.TheVariants as faults
use Rattle.wse_recover.specs.declared.read.Journal.{Journal}
use Rattle.wse_recover.specs.declared.unsettled.Unsettled.{Unsettled}

-- ---- the sync, and the journal that is read then

pub sync_untouched : {T E : Type 0} (old new : Option Standing) (result : Result T E) → ReadsAnImage old → TellsSync old new result → IsUntouched old new
sync_untouched {T} {E} old new result image after = record {
  reading = same old new result after;
  leaves = one_call old new (MayLeave old) (synced_goes old new result after) (λ c may. may) (λ c may. synced_images old new result image after c may);
}
  where
    same : (old new : Option Standing) (result : Result T E) → TellsSync old new result → Told (λ s t. t.reading ≡ s.reading) old new
    same None None result after = tt
    same None (Some t) result after = absurd after
    same (Some s) None result after = absurd after
    same (Some s) (Some t) (Ok x) after = ap (λ (w : Standing). w.reading) after
    same (Some s) (Some t) (Err e) after = ⊎_elim (λ w. ap (λ (v : Standing). v.reading) w) (λ w. ap (λ (v : Standing). v.reading) w) after

pub has_journal : (told : Option Standing) (journal : Journal) → ReadsChosen told journal.area → GivesJournal told (Ok journal) → HasJournal told journal
has_journal None journal chose gives = tt
has_journal (Some s) journal chose gives =
    let one = each_reads (journal_of s.reading) in
    let is = gives one.0 one.1 one.2 in
    record {
      same_area = chose;
      records = one.0;
      journal = subst (λ (e : JournalEnd). Reads (journal_of s.reading) one.0 e) is.0 one.2;
      left = is.1.0;
      kept_is = is.1.1;
      gives = subst (λ (e : JournalEnd). Gives one.0 e (Leaves is.1.0)) is.0 is.1.2;
      ends = is.1.3;
    }

-- It is none: the same before the sync.
pub tells_no_store : (told : Option Standing) (why : ReplayFault) → GivesJournal told (Err why) → TellsNoStore told why
tells_no_store None (faults.NotAStore at) gives = tt
tells_no_store (Some s) (faults.NotAStore at) gives =
    let one = each_reads (journal_of s.reading) in
    record { records = one.0; ending = one.1; reads = one.2; gives = gives one.0 one.1 one.2 }
tells_no_store told faults.Disk gives = tt
tells_no_store told faults.Memory gives = tt

pub no_store_before : (old new : Option Standing) (why : ReplayFault) → Told (λ s t. t.reading ≡ s.reading) old new → TellsNoStore new why → TellsNoStore old why
no_store_before None new (faults.NotAStore at) same is = tt
no_store_before (Some s) None (faults.NotAStore at) same is = absurd same
no_store_before (Some s) (Some t) (faults.NotAStore at) same is = subst (λ (r : Reading). IsNoStore r at) same is
no_store_before old new faults.Disk same is = tt
no_store_before old new faults.Memory same is = tt

-- ---- the state for which the image stands then

finished_is : (records : List JournalRecord) (left : Replayed) (last : Option Unsettled) (files : Entries) → IsLast records left last → files_finished last files ≡ finished records left.sets files
finished_is records left None files ends = sym (ap (λ (b : Bool). cond b files (set_files left.sets files)) ends)
finished_is records left (Some last) files ends =
    let of = ends.1 in
    ap (λ sets. set_files sets files) of.sets_are ∙ sym (ap (λ (b : Bool). cond b files (set_files left.sets files)) ends.0)

pub stands_over : (area : Area) (gate : ℕ) (kept : Kept) (last : Option Unsettled) (image : Reading) → IsJournalOf area gate kept last image → StandsFor (state_over kept (files_finished last image.files)) image
stands_over area gate kept last image is = record {
  records = is.records;
  gate = gate;
  journal = is.journal;
  sets = is.left.sets;
  gives = subst (λ (k : Kept). Gives is.records (ClosedAt gate) (Leaves (record { kept = k; sets = is.left.sets }))) is.kept_is is.gives;
  files = finished_is is.records is.left last image.files is.ends;
}

-- ---- finishing

module _ (area : Area) (gate : ℕ) (kept : Kept) (last : Unsettled) (image : Reading) (is : IsJournalOf area gate kept (Some last) image) where
  abbrev of : IsUnsettled is.records is.left last
  of = is.ends.1

  unsettled_journal : IsUnsettledJournal (area_of area image) of.before (record_bytes last.effects) gate
  unsettled_journal = record {
    some = of.some;
    mark = of.mark;
    unsettled = of.unsettled;
    journal = subst (λ (rs : List JournalRecord). IsJournal (area_of area image) rs gate) of.all
        (subst (λ (a : Area). IsJournal (area_of a image) is.records gate) (sym is.same_area) is.journal);
  }

  gives_all : Gives (of.before ++ record { body = record_bytes last.effects; mark = of.mark } ∷ []) (ClosedAt gate) (Leaves (record { kept = kept; sets = last.sets }))
  gives_all =
      subst (λ (rs : List JournalRecord). Gives rs (ClosedAt gate) (Leaves (record { kept = kept; sets = last.sets }))) of.all
      (subst (λ (k : Kept). Gives is.records (ClosedAt gate) (Leaves (record { kept = k; sets = last.sets }))) is.kept_is
      (subst (λ sets. Gives is.records (ClosedAt gate) (Leaves (record { kept = is.left.kept; sets = sets }))) (sym of.sets_are) is.gives))

  module _ (come : AreToCome last.sets) (plan : Plan) (same : plan.effects ≡ last.effects) (free : IsFree last image.files plan.changes) where
    abbrev new_files : Entries
    new_files = set_files last.sets image.files

    new_tree : IsTree new_files
    new_tree = tree_where_free image.files last.sets free.tree come.apart free.free

    abbrev bodies : record_bytes last.effects ≡ body_of plan
    bodies = ap record_bytes (sym same)

    pub is_unfinished : IsUnfinished (state_over kept new_files) area gate plan image
    unfolding unsettled_journal
    is_unfinished =
        record {
          same_area = is.same_area;
          before = of.before;
          journal = record {
            some = of.some;
            mark = of.mark;
            unsettled = of.unsettled;
            journal = subst (λ (b : List ℕ). IsJournal (area_of area image) (of.before ++ record { body = b; mark = of.mark } ∷ []) gate) bodies unsettled_journal.journal;
          };
          sets = last.sets;
          gives = subst (λ (b : List ℕ). Gives (of.before ++ record { body = b; mark = of.mark } ∷ []) (ClosedAt gate) (Leaves (record { kept = kept; sets = last.sets }))) bodies gives_all;
          files = refl;
          old_tree = free.tree;
          new_tree = new_tree;
          changes = free.changes_are;
        }

    pub leads : LeadToTree image.files plan.changes
    leads = record { old = free.tree; new = new_files; tree = new_tree; between = free.changes_are }

pub has_unsettled : (told : Option Standing) (area : Area) (gate : ℕ) (last : Unsettled) (plan : Plan) → plan.effects ≡ last.effects → EndsWith told area gate (Some last) → HasUnsettledJournal told area (body_of plan) gate
has_unsettled None area gate last plan same ends = tt
has_unsettled (Some s) area gate last plan same ends =
    let is = ends.1 in
    (is.ends.1.before, subst (λ (b : List ℕ). IsUnsettledJournal (area_of area s.reading) is.ends.1.before b gate) (ap record_bytes (sym same)) (unsettled_journal area gate ends.0 last s.reading is))

pub leads_told : (told : Option Standing) (area : Area) (gate : ℕ) (last : Unsettled) (plan : Plan) → AreToCome last.sets → IsPlanFor told last plan → EndsWith told area gate (Some last) → LeadsToTree told plan.changes
leads_told None area gate last plan come is ends = tt
leads_told (Some s) area gate last plan come is ends = leads area gate ends.0 last s.reading ends.1 come plan is.effects_are is.free

pub sealed_for : (told : Option Standing) (area : Area) (gate : ℕ) (last : Unsettled) (plan : Plan) → IsSynced told → 0 < gate → gate < 2 ^ 63 → AreToCome last.sets → IsPlanFor told last plan → EndsWith told area gate (Some last) → IsSealedFor told area gate plan
sealed_for told area gate last plan synced some small come is ends = record {
  written = record { synced = synced; journal = has_unsettled told area gate last plan is.effects_are ends; some = some; small = small };
  tree = leads_told told area gate last plan come is ends;
}

-- ---- one state for another that differs in the locks alone

pub at_alike : (s t : State) (area : Area) (gate : ℕ) (told : Option Standing) → IsSameButLocks s t → IsAt s area gate told → IsAt t area gate told
at_alike s t area gate told same is = record {
  stands = stands_alike s t (reading_of told) same is.stands;
  same_area = is.same_area;
  records = is.records;
  journal = is.journal;
}

pub leaves_alike : (s t : State) (old new : Option Standing) → IsSameButLocks s t → LeavesOnly old new (StandsFor s) → LeavesOnly old new (StandsFor t)
leaves_alike s t old new same leaves = weaker old new (StandsFor s) (StandsFor t) (λ c stands. stands_alike s t c same stands) leaves

pub untold_stands : (s : State) → StandsFor s (reading_of None) → ⊥
untold_stands s is = told_by_journal LogA None is.records is.gate is.journal refl

-- The state that is finished, and the one that is asked for.
pub record FinishesAs (area : Area) (gate : ℕ) (plan : Plan) (told : Option Standing) (s : State) : Type 0 where
  pub state : State
  pub is : IsUnfinished state area gate plan (reading_of told)
  pub same : IsSameButLocks state s

pub finishes_as : (told : Option Standing) (area : Area) (gate : ℕ) (last : Unsettled) (plan : Plan) → AreToCome last.sets → IsPlanFor told last plan → EndsWith told area gate (Some last)
    → (s : State) → StandsFor s (reading_of told) → FinishesAs area gate plan told s
finishes_as None area gate last plan come is ends s stands = absurd (untold_stands s stands)
finishes_as (Some t) area gate last plan come is ends s stands =
    let one = state_over ends.0 (set_files last.sets t.reading.files) in
    record {
      state = one;
      is = is_unfinished area gate ends.0 last t.reading ends.1 come plan is.effects_are is.free;
      same = stands_for_one.one one s t.reading (stands_over area gate ends.0 (Some last) t.reading ends.1) stands;
    }

-- ---- the same of what a call answers

pub journal_in : (old new : Option Standing) (result : Result Journal ReplayFault) → new ≡ old → IfOk result (λ journal. ReadsChosen old journal.area) → GivesJournal old result → IfOk result (HasJournal new)
journal_in old new (Ok journal) same chose gives = subst (λ (t : Option Standing). HasJournal t journal) (sym same) (has_journal old journal chose gives)
journal_in old new (Err why) same chose gives = tt

pub refused_in : (start old : Option Standing) (result : Result Journal ReplayFault) → Told (λ s t. t.reading ≡ s.reading) start old → GivesJournal old result → IfErr result (TellsNoStore start)
refused_in start old (Ok journal) same gives = tt
refused_in start old (Err why) same gives = no_store_before start old why same (tells_no_store old why gives)
