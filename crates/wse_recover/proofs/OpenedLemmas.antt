-- What the steps of opening leave, over what is told.
use Rattle.std.proofs.Common.{◌≡◌, ◌≢◌, ⊎_elim, inl, inr, IfOk, IfErr, ℕ, Bool, true, false, cond, List, [], ◌∷◌, ◌++◌, Option, Some, None, Result, Ok, Err, refl, sym, ap, subst, ◌∙◌}
use Rattle.std.specs.Prelude.{◌⊎◌, slice_get}
use Rattle.std.proofs.Math.Dec.{eqb}
use Rattle.std.proofs.lemmas.Bool.{eqb-true}
use Rattle.wse_path.specs.Path.{Path}
use Rattle.wse_path.specs.Tree.{Entries, set_files, IsTree}
use Rattle.wse_path.specs.Changes.{changes_between}
use Rattle.wse_path.specs.Versions.{VersionsState}
use Rattle.wse_path.specs.declared.change.Change.{Change}
use Rattle.wse_path.specs.declared.limits.Limits.{Limits}
use Rattle.wse_path.specs.declared.limits.Hit.{Hit}
use Rattle.wse_element.specs.declared.plan.Plan.{Plan}
use Rattle.wse_element.specs.declared.effect.Effect.{Effect}
use Rattle.wse_element.specs.Content.{Content}
use Rattle.wse_element.specs.State.{State, Kept}
use Rattle.wse_element.specs.Way.{in_the_way}
use Rattle.wse_stacks.specs.Stacks.{StacksNow}
use Rattle.wse_disk.specs.declared.area.Area.{Area}
use Rattle.wse_disk.specs.Reading.{Reading, area_of}
use Rattle.wse_disk.specs.Standing.{Standing}
use Rattle.wse_disk.specs.Told.{WhereTold, MayLeave, ReadsAnImage, ReadsFiles, IsSynced, IsAtRest, IsTold, reading_of}
use Rattle.wse_disk.specs.Calls.{Told}
use Rattle.wse_disk.specs.LeavesOnly.{LeavesOnly}
use Rattle.wse_disk.proofs.ImageLemmas.{at_rest}
use Rattle.wse_disk.proofs.Moments.{no_call, joined, weaker}
use Rattle.wse_log.specs.Grammar.{JournalRecord, settled_byte, EndSettled, IsSettled}
use Rattle.wse_txn.specs.Journal.{IsSettledJournal, HasSettledJournal}
use Rattle.wse_txn.specs.States.{Working, Resting}
use Rattle.wse_txn.specs.Stands.{StandsFor, IsSameButLocks, ends_settled}
use Rattle.wse_txn.specs.Command.{IsAt}
use Rattle.wse_txn.specs.Outcomes.{TellsAsBefore}
use Rattle.wse_txn.proofs.TwoStates.{ready}
use Rattle.wse_recover.specs.Finish.{IsUnfinished}
use Rattle.wse_recover.specs.Held.{held}
use Rattle.wse_recover.specs.Measure.{TellsHit}
use Rattle.wse_recover.specs.Open.{opened_state, disk_of_open, disk_of_fault, IsInTheWay, IsTooBig, HasStayed}
use Rattle.wse_recover.specs.Opening.{files_finished, state_over, IsJournalOf, HasJournal, EndsWith, IsFree, IsPlanFor, IsFoundOn, RefusesTreeOn, RefusesFinishing, RefusesFoundBy, LeavesEarlierOr}
use Rattle.wse_recover.specs.Sets.{AreToCome}
use Rattle.wse_recover.specs.Start.{start_hit}
use Rattle.wse_recover.specs.Untouched.{IsUntouched}
use Rattle.wse_recover.specs.declared.open.Opened.{Opened}
use Rattle.wse_recover.specs.declared.open.OpenFault.{OpenFault}
use Rattle.wse_recover.specs.declared.open.OpenFault.TheVariants as opens
use Rattle.wse_recover.specs.declared.read.Journal.{Journal}
use Rattle.wse_recover.specs.declared.unsettled.Unsettled.{Unsettled}
use Rattle.wse_recover.proofs.FinishedLemmas.{ends_with}
use Rattle.wse_recover.proofs.OpeningLemmas.{stands_over, at_alike, leaves_alike, untold_stands, FinishesAs, finishes_as}

-- ---- what is in the way

first_is : {X : Type 0} (xs : List X) (x : X) → slice_get xs 0 ≡ Some x → (others : List X) × (xs ≡ x ∷ others)
first_is [] x e = cc
first_is (y ∷ ys) x e = let same : y ≡ x = cc in (ys, ap (λ z. z ∷ ys) same)

none_is : {X : Type 0} (xs : List X) → slice_get xs 0 ≡ None → xs ≡ []
none_is [] e = refl
none_is (x ∷ xs) e = cc

pub way_told : (told : Option Standing) (files : Entries) (sets : List (Path × Content)) (p : Path) → ReadsFiles told files → slice_get (in_the_way files sets) 0 ≡ Some p
    → WhereTold told (λ s. (others : List Path) × (in_the_way s.reading.files sets ≡ p ∷ others))
way_told None files sets p reads first = tt
way_told (Some s) files sets p reads first =
    let is = first_is (in_the_way files sets) p first in
    (is.0, ap (λ (f : Entries). in_the_way f sets) reads ∙ is.1)

pub plan_for : (told : Option Standing) (files : Entries) (last : Unsettled) (changes : List Change) → ReadsFiles told files → IsTree files → slice_get (in_the_way files last.sets) 0 ≡ None
    → changes ≡ changes_between files (set_files last.sets files) → IsPlanFor told last (record { effects = last.effects; changes = changes })
plan_for told files last changes reads tree none are = record { effects_are = refl; free = free told reads }
  where
    free : (told : Option Standing) → ReadsFiles told files → WhereTold told (λ s. IsFree last s.reading.files changes)
    free None reads = tt
    free (Some s) reads = subst (λ (f : Entries). IsFree last f changes) (sym reads)
        (record { tree = tree; free = none_is (in_the_way files last.sets) none; changes_are = are })

-- ---- where nothing is pending and nothing is written

pub quiet : (old new : Option Standing) (s : State) → ReadsAnImage old → IsSynced old → new ≡ old → StandsFor s (reading_of old) → LeavesOnly old new (StandsFor s)
quiet old new s image synced same stands =
    no_call old new (StandsFor s) same (λ c may. subst (StandsFor s) (sym (at_rest old image synced c may)) stands)

settled_so : (n : ℕ) → eqb n settled_byte ≡ true → n ≡ settled_byte
settled_so n e = eqb-true n settled_byte e

pub all_settled_so : (records : List JournalRecord) → ends_settled records ≡ true → EndSettled records
all_settled_so records e others last same = settled_so last.mark (sym (ends_with others last) ∙ ap ends_settled (sym same) ∙ e)

pub at_settled : (told : Option Standing) (area : Area) (gate : ℕ) → EndsWith told area gate None → (s : State) → StandsFor s (reading_of told) → IsAt s area gate told
at_settled None area gate ends s stands = absurd (untold_stands s stands)
at_settled (Some t) area gate ends s stands =
    let is = ends.1 in
    record {
      stands = stands;
      same_area = is.same_area;
      records = is.records;
      journal = record { journal = is.journal; settled = all_settled_so is.records is.ends };
    }

-- ---- finishing

module _ {D : Type 0} (told : D → Option Standing) (start : D) (area : Area) (gate : ℕ) (last : Unsettled) (plan : Plan) (come : AreToCome last.sets)
    (is : IsPlanFor (told start) last plan) (ends : EndsWith (told start) area gate (Some last)) (sealed : Working D) (now : D) (same : told now ≡ told start)
    (sealed_is : sealed ≡ record { disk = now; area = area; gate = gate; plan = plan }) where
  told_is : told sealed.disk ≡ told start
  told_is = ap (λ (w : Working D). told w.disk) sealed_is ∙ same

  asks : (s : State) (stands : StandsFor s (reading_of (told start))) → IsUnfinished (finishes_as (told start) area gate last plan come is ends s stands).state sealed.area sealed.gate sealed.plan (reading_of (told sealed.disk))
  asks s stands =
      let f = finishes_as (told start) area gate last plan come is ends s stands in
      subst (λ (w : Working D). IsUnfinished f.state w.area w.gate w.plan (reading_of (told w.disk))) (sym sealed_is)
      (subst (λ (t : Option Standing). IsUnfinished f.state area gate plan (reading_of t)) (sym same) f.is)

  pub finished_at : (idle : Resting D) → ((s : State) → IsUnfinished s sealed.area sealed.gate sealed.plan (reading_of (told sealed.disk)) → IsAt s idle.area idle.gate (told idle.disk))
      → (idle.area ≡ sealed.area) × (idle.gate ≡ sealed.gate) → (s : State) → StandsFor s (reading_of (told start)) → IsAt s area gate (told idle.disk)
  finished_at idle at there s stands =
      let f = finishes_as (told start) area gate last plan come is ends s stands in
      at_alike f.state s area gate (told idle.disk) f.same
      (subst (λ (n : ℕ). IsAt f.state area n (told idle.disk)) (there.1 ∙ ap (λ (w : Working D). w.gate) sealed_is)
      (subst (λ (a : Area). IsAt f.state a idle.gate (told idle.disk)) (there.0 ∙ ap (λ (w : Working D). w.area) sealed_is) (at f.state (asks s stands))))

  pub finished_leaves : (new : D) → ((s : State) → IsUnfinished s sealed.area sealed.gate sealed.plan (reading_of (told sealed.disk)) → LeavesOnly (told sealed.disk) (told new) (StandsFor s))
      → (s : State) → StandsFor s (reading_of (told start)) → LeavesOnly (told start) (told new) (StandsFor s)
  finished_leaves new leaves s stands =
      let f = finishes_as (told start) area gate last plan come is ends s stands in
      leaves_alike f.state s (told start) (told new) f.same
      (subst (λ (t : Option Standing). LeavesOnly t (told new) (StandsFor f.state)) told_is (leaves f.state (asks s stands)))

-- ---- the store that is found

reading_same : (old new : Option Standing) → Told (λ s t. t.reading ≡ s.reading) old new → reading_of new ≡ reading_of old
reading_same None None same = refl
reading_same None (Some t) same = absurd same
reading_same (Some s) None same = absurd same
reading_same (Some s) (Some t) same = same

pub ends_so : (told : Option Standing) (journal : Journal) → HasJournal told journal → EndsWith told journal.area journal.gate journal.last
ends_so None journal has = tt
ends_so (Some s) journal has = (held journal.stacks journal.versions, has)

pub settled_there : (old new : Option Standing) (journal : Journal) → HasJournal old journal → ((s : State) → StandsFor s (reading_of old) → IsAt s journal.area journal.gate new) → TellsAsBefore old new → HasSettledJournal new journal.area journal.gate
settled_there old None journal has at tells = tt
settled_there None (Some u) journal has at tells = absurd (tells.back tt)
settled_there (Some t) (Some u) journal has at tells =
    let s = state_over (held journal.stacks journal.versions) (files_finished journal.last t.reading.files) in
    let is = at s (stands_over journal.area journal.gate (held journal.stacks journal.versions) journal.last t.reading has) in
    (is.records, subst (λ (a : Area). IsSettledJournal (area_of a u.reading) is.records journal.gate) (sym is.same_area) is.journal)

-- The state is that over these files, which are read in the end.
pub record IsOver (journal : Journal) (start mid : Option Standing) (files : Entries) : Type 0 where
  pub stood : WhereTold start (λ t. StandsFor (state_over (held journal.stacks journal.versions) files) t.reading)
  pub now : IsTold mid → IsAt (state_over (held journal.stacks journal.versions) files) journal.area journal.gate mid

over_told : (journal : Journal) (a b : Option Standing) (files : Entries) → HasJournal a journal → ((s : State) → StandsFor s (reading_of a) → IsAt s journal.area journal.gate b) → TellsAsBefore a b → ReadsFiles b files → IsOver journal a b files
over_told journal None None files has at tells reads = record { stood = tt; now = λ is. absurd is }
over_told journal None (Some u) files has at tells reads = absurd (tells.back tt)
over_told journal (Some t) None files has at tells reads = absurd (tells.on tt)
over_told journal (Some t) (Some u) files has at tells reads =
    let kept = held journal.stacks journal.versions in
    let s = state_over kept (files_finished journal.last t.reading.files) in
    let stands = stands_over journal.area journal.gate kept journal.last t.reading has in
    let is = at s stands in
    let same : s.files ≡ files = (ready s is.records journal.gate u.reading is.stands is.journal).files ∙ reads in
    record {
      stood = subst (λ (f : Entries). StandsFor (state_over kept f) t.reading) same stands;
      now = λ _. subst (λ (f : Entries). IsAt (state_over kept f) journal.area journal.gate (Some u)) same is;
    }

where_told : (told : Option Standing) (a b : State) → a ≡ b → WhereTold told (λ t. StandsFor b t.reading) → WhereTold told (λ t. StandsFor a t.reading)
where_told None a b same is = tt
where_told (Some t) a b same is = subst (λ (s : State). StandsFor s t.reading) (sym same) is

too_big_told : (journal : Journal) (a b : Option Standing) (limits : Limits) (hit : Hit) → HasJournal a journal → ((s : State) → StandsFor s (reading_of a) → IsAt s journal.area journal.gate b) → TellsAsBefore a b → TellsHit b limits (Some hit)
    → WhereTold a (λ s. IsTooBig limits hit s.reading)
too_big_told journal None b limits hit has at tells tells_hit = tt
too_big_told journal (Some t) None limits hit has at tells tells_hit = absurd (tells.on tt)
too_big_told journal (Some t) (Some u) limits hit has at tells tells_hit =
    let is = over_told journal (Some t) (Some u) u.reading.files has at tells refl in
    (state_over (held journal.stacks journal.versions) u.reading.files, is.stood, tells_hit)

stayed_told : (a b : Option Standing) (area : Area) (gate : ℕ) → ((s : State) → StandsFor s (reading_of a) → IsAt s area gate b) → TellsAsBefore a b → HasStayed a b
stayed_told None None area gate at tells = tt
stayed_told None (Some u) area gate at tells = absurd (tells.back tt)
stayed_told (Some t) None area gate at tells = absurd (tells.on tt)
stayed_told (Some t) (Some u) area gate at tells = λ s stands. (at s stands).stands

module _ {D : Type 0} (told : D → Option Standing) (start : D) (journal : Journal) (has : HasJournal (told start) journal) (mid : D)
    (at : (s : State) → StandsFor s (reading_of (told start)) → IsAt s journal.area journal.gate (told mid)) (tells : TellsAsBefore (told start) (told mid)) where
  abbrev kept : Kept
  kept = held journal.stacks journal.versions

  -- The state is that over the files that are read in the end.
  pub over : (files : Entries) → ReadsFiles (told mid) files → IsOver journal (told start) (told mid) files
  over files reads = over_told journal (told start) (told mid) files has at tells reads

  abbrev Mid : Opened D → Type 0
  Mid = IsFoundOn told mid journal.area journal.gate journal.stacks journal.versions

  opened_is : (o : Opened D) → Mid o → opened_state o ≡ state_over kept o.tree.files
  opened_is o is =
      ap (λ (x : StacksNow). state_over (held x o.versions) o.tree.files) is.same_stacks
      ∙ ap (λ (v : VersionsState). state_over (held journal.stacks v) o.tree.files) is.same_versions

  pub stood : (result : Result (Opened D) (OpenFault D)) → IfOk result Mid → IfOk result (λ o. WhereTold (told start) (λ t. StandsFor (opened_state o) t.reading))
  stood (Err fault) is = tt
  stood (Ok o) is = where_told (told start) (opened_state o) (state_over kept o.tree.files) (opened_is o is) (over o.tree.files is.tree).stood

  pub at_opened : (result : Result (Opened D) (OpenFault D)) → IfOk result Mid → IfOk result (λ o. IsTold (told o.idle.disk) → IsAt (opened_state o) o.idle.area o.idle.gate (told o.idle.disk))
  at_opened (Err fault) is = tt
  at_opened (Ok o) is = λ yes.
      let now = (over o.tree.files is.tree).now (subst IsTold is.same yes) in
      subst (λ (s : State). IsAt s o.idle.area o.idle.gate (told o.idle.disk)) (sym (opened_is o is))
      (subst (λ (n : ℕ). IsAt (state_over kept o.tree.files) o.idle.area n (told o.idle.disk)) (sym is.same_gate)
      (subst (λ (a : Area). IsAt (state_over kept o.tree.files) a journal.gate (told o.idle.disk)) (sym is.same_area)
      (subst (λ (t : Option Standing). IsAt (state_over kept o.tree.files) journal.area journal.gate t) (sym is.same) now)))

  -- The tree was read, and nothing was written.
  pub same_after : (limits : Limits) (result : Result (Opened D) (OpenFault D)) → IfOk result Mid → IfErr result (RefusesTreeOn told limits mid) → told (disk_of_open result) ≡ told mid
  same_after limits (Ok o) is why = is.same
  same_after limits (Err (opens.Disk new)) is why = why
  same_after limits (Err (opens.NotAStore new place)) is why = absurd why
  same_after limits (Err (opens.TooBig new which found)) is why = why.1
  same_after limits (Err (opens.Differs new p)) is why = absurd why
  same_after limits (Err (opens.Memory new)) is why = why

  pub too_big : (limits : Limits) (hit : Hit) → TellsHit (told mid) limits (Some hit) → WhereTold (told start) (λ s. IsTooBig limits hit s.reading)
  too_big limits hit tells_hit = too_big_told journal (told start) (told mid) limits hit has at tells tells_hit

  pub has_stayed : HasStayed (told start) (told mid)
  has_stayed = stayed_told (told start) (told mid) journal.area journal.gate at tells

  pub refused_by : (limits : Limits) (result : Result (Opened D) (OpenFault D)) → IfErr result (RefusesTreeOn told limits mid) → IfErr result (RefusesFoundBy told limits start)
  refused_by limits (Ok o) why = tt
  refused_by limits (Err (opens.Disk new)) why = tt
  refused_by limits (Err (opens.NotAStore new place)) why = why
  refused_by limits (Err (opens.TooBig new which found)) why =
      (too_big limits (record { which = which; would_be = found }) why.0, subst (λ (t : Option Standing). HasStayed (told start) t) (sym why.1) has_stayed)
  refused_by limits (Err (opens.Differs new p)) why = absurd why
  refused_by limits (Err (opens.Memory new)) why = tt

-- ---- from the start on

pub first_then : (old mid new : Option Standing) (s : State) → IsUntouched old mid → StandsFor s (reading_of old) → ((t : State) → StandsFor t (reading_of mid) → LeavesOnly mid new (StandsFor t)) → LeavesEarlierOr s old new
first_then old mid new s untouched stands then =
    joined old mid new (λ image. MayLeave old image ⊎ StandsFor s image)
    (weaker old mid (MayLeave old) (λ image. MayLeave old image ⊎ StandsFor s image) (λ c may. inl may) untouched.leaves)
    (weaker mid new (StandsFor s) (λ image. MayLeave old image ⊎ StandsFor s image) (λ c is. inr is)
    (then s (subst (StandsFor s) (sym (reading_same old mid untouched.reading)) stands)))

pub untouched_leaves : (old new : Option Standing) (s : State) → IsUntouched old new → LeavesEarlierOr s old new
untouched_leaves old new s untouched =
    weaker old new (MayLeave old) (λ image. MayLeave old image ⊎ StandsFor s image) (λ c may. inl may) untouched.leaves
