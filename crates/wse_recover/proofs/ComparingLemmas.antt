-- A tree that differs nowhere is linked.
use Rattle.std.proofs.Common.{◌≡◌, ◌≢◌, ◌<◌, ◌≤◌, ◌+◌, inl, inr, ⊎_elim, ℕ, Bool, true, false, not, ◌&&◌, List, [], ◌∷◌, length, Option, Some, None, Result, Ok, Err, IfErr, refl, sym, ap, subst, ◌∙◌, arith}
use Rattle.std.specs.Prelude.{◌⊎◌, nat_lt}
use Rattle.wse_path.specs.Causes.{Rose}
use Rattle.wse_path.specs.declared.limits.Hit.{Hit}
use Rattle.std.specs.List.{All, list_all}
use Rattle.std.specs.Option.{option_map_or}
use Rattle.std.proofs.lemmas.Bool.{and_from, lt-ltb}
use Rattle.std.proofs.lemmas.List.Elements.{All-head, All-tail}
use Rattle.wse_path.specs.Path.{Path}
use Rattle.wse_path.specs.Tree.{Entries, IsTree, content}
use Rattle.wse_path.specs.Versions.{Numbers, VersionsState}
use Rattle.wse_path.proofs.EntryLemmas.{and_parts}
use Rattle.wse_element.specs.Record.{Record}
use Rattle.wse_element.specs.Stacks.{closest_past, closest_future}
use Rattle.wse_element.specs.Linked.{is_left_by, is_found_by, IsLinked, IsTreeLinkedAt, IsKeptLinked, IsStateLinked}
use Rattle.wse_element.specs.Numbers.{is_bounded, are_some}
use Rattle.wse_path.specs.declared.limits.Limits.{Limits}
use Rattle.wse_disk.specs.declared.area.Area.{Area}
use Rattle.wse_disk.specs.Reading.{Reading}
use Rattle.wse_disk.specs.Standing.{Standing}
use Rattle.wse_disk.specs.Told.{WhereTold, MayLeave, IsTold, IsAtRest, reading_of}
use Rattle.wse_disk.specs.LeavesOnly.{LeavesOnly}
use Rattle.wse_disk.proofs.Moments.{no_call, joined, weaker}
use Rattle.wse_element.specs.declared.effect.Effect.TheVariants.{Invalidate, Bump}
use Rattle.wse_element.specs.declared.effect.Effect.{Effect}
use Rattle.wse_element.specs.Effects.{after, after_each, begun, kept_after, files_after_each, state_after}
use Rattle.wse_element.specs.State.{StacksState, Kept, State, stacks_of, kept_of}
use Rattle.wse_txn.specs.Command.{IsAt, StandsForOneOf}
use Rattle.wse_txn.specs.Outcomes.{TellsAsBefore}
use Rattle.wse_txn.specs.Stands.{StandsFor, IsSameButLocks}
use Rattle.wse_txn.proofs.OneState.{stands_alike, stands_for_one}
use Rattle.wse_recover.specs.Adopting.{adopting, adopted_at, IsAdopted}
use Rattle.wse_recover.specs.Comparing.{IsComparedAs, IsAdoptedWithin, RefusesCompared, RefusesAdopting}
use Rattle.wse_recover.specs.Open.{opened_state, IsOpened, StandsForOpened, LeavesOpening, disk_of_open, AdoptsWithin, AdoptsTooMuch, IsTooBig, DiffersFirstAt, HasStayed, RefusesOpen}
use Rattle.wse_recover.specs.Start.{start_hit}
use Rattle.wse_recover.specs.declared.open.Opened.{Opened}
use Rattle.wse_recover.specs.declared.open.OpenFault.{OpenFault}
use Rattle.wse_recover.specs.declared.open.OpenFault.TheVariants as opens
use Rattle.wse_stacks.specs.Stacks.{StacksNow}
use Rattle.wse_recover.specs.Differing.{differs, AreDiffering}
use Rattle.wse_recover.specs.Held.{held, AreNumbersBounded}
use Rattle.wse_recover.specs.Opening.{state_over, LeavesEarlierOr, CountsOpen}
use Rattle.wse_recover.proofs.OpeningLemmas.{untold_stands}

pub not_false : (b : Bool) → not b ≡ false → b ≡ true
not_false true h = refl
not_false false h = cc

pub as_recorded : (files : Entries) (records : List Record) (p : Path) → differs files records p ≡ false → IsTreeLinkedAt files records p
as_recorded files records p same =
    let both = and_parts (option_map_or (is_left_by p (content files p)) (closest_past records p) true) (option_map_or (is_found_by p (content files p)) (closest_future records p) true)
    (not_false _ same) in
    record { past = both.0; future = both.1 }

pub linked_where_same : (files : Entries) (records : List Record) → AreDiffering files records [] → (p : Path) → IsTreeLinkedAt files records p
linked_where_same files records none p = as_recorded files records p (sym (none.each p))

pub some_all : (versions : Numbers) → All (λ e. 0 < e.1) versions → are_some versions ≡ true
some_all [] all = refl
some_all (v ∷ versions) all =
    and_from (nat_lt 0 v.1) (are_some versions) (lt-ltb 0 v.1 (All-head (λ e. 0 < e.1) v versions all)) (some_all versions (All-tail (λ e. 0 < e.1) v versions all))

pub kept_linked : (stacks : StacksNow) (versions : VersionsState) → IsLinked stacks.state.next_id stacks.state.records → is_bounded stacks.state ≡ true → AreNumbersBounded (held stacks versions) → IsKeptLinked (held stacks versions)
kept_linked stacks versions linked bounded numbers = record {
  records = linked;
  rise = versions.rises;
  some = some_all versions.entries versions.some;
  bounded = bounded;
  versions = numbers.versions;
  known = numbers.known;
}

pub state_linked : (stacks : StacksNow) (versions : VersionsState) (files : Entries) → IsTree files → IsLinked stacks.state.next_id stacks.state.records → is_bounded stacks.state ≡ true → AreNumbersBounded (held stacks versions)
    → ((p : Path) → IsTreeLinkedAt files stacks.state.records p) → IsStateLinked (state_over (held stacks versions) files)
state_linked stacks versions files tree linked bounded numbers each = record { kept = kept_linked stacks versions linked bounded numbers; tree = tree; each = each }

-- ---- what comparing leaves

nil_of : {X : Type 0} (xs : List X) → length xs < 1 → xs ≡ []
nil_of [] l = refl
nil_of (x ∷ xs) l = absurd (omega (arith, l))

pub none_differ : (files : Entries) (records : List Record) (paths shown : List Path) → shown ≡ paths → length shown < 1 → AreDiffering files records paths → AreDiffering files records []
none_differ files records paths shown same few are = subst (AreDiffering files records) (sym same ∙ nil_of shown few) are

pub compared_same : (adopt : Bool) (s t : State) → t ≡ s → AreDiffering s.files s.records [] → IsComparedAs adopt s t
compared_same false s t same none = same
compared_same true s t same none = ([], none, same)

pub compared_adopted : (s t : State) (paths : List Path) → paths ≢ [] → AreDiffering s.files s.records paths → t ≡ state_after s (adopting paths) → IsAdopted s t
compared_adopted s t [] some are is = absurd (some refl)
compared_adopted s t (p ∷ paths) some are is = (p ∷ paths, are, is)

stands_opened : (adopt : Bool) (s : State) (image : Reading) → StandsFor s image → StandsForOpened adopt s image
stands_opened false s image stands = stands
stands_opened true s image stands = inl stands

told_at : (told : Option Standing) (area : Area) (gate : ℕ) (s : State) → (IsTold told → IsAt s area gate told) → IsTold told → StandsFor s (reading_of told)
told_at told area gate s at is = (at is).stands

pub nothing_done : (adopt : Bool) (old new : Option Standing) (area : Area) (gate : ℕ) (s : State) → IsAtRest old → new ≡ old → (IsTold old → IsAt s area gate old) → IsTold old → LeavesOnly old new (StandsForOpened adopt s)
nothing_done adopt old new area gate s rests same at is =
    no_call old new (StandsForOpened adopt s) same
    (λ c may. stands_opened adopt s c (subst (StandsFor s) (sym (rests c may)) (told_at old area gate s at is)))

pub adopted_leaves : (old new : Option Standing) (s : State) (paths : List Path) → paths ≢ [] → AreDiffering s.files s.records paths → LeavesOnly old new (StandsForOneOf s (state_after s (adopting paths))) → LeavesOnly old new (StandsForOpened true s)
adopted_leaves old new s paths some are leaves =
    weaker old new (StandsForOneOf s (state_after s (adopting paths))) (StandsForOpened true s)
    (λ c one. ⊎_elim (λ before. inl before) (λ after. inr (state_after s (adopting paths), compared_adopted s (state_after s (adopting paths)) paths some are refl, after)) one) leaves

more_serial : (n : ℕ) → n + 1 ≡ n → ⊥
more_serial n e = omega (arith, e)

pub serial_adopted : (h : StacksState) (paths : List Path) → (after_each h (adopting paths)).serial ≡ h.serial
serial_adopted h [] = refl
serial_adopted h (p ∷ paths) = serial_adopted (after (after h (Invalidate p)) (Bump p 1)) paths

pub adopted_other : (s : State) (paths : List Path) → state_after s (adopting paths) ≢ s
adopted_other s paths same = more_serial s.serial (sym (serial_adopted (begun (stacks_of (kept_of s))) paths) ∙ ap (λ (t : State). t.serial) same)

pub refuses_adopting : {D : Type 0} (told : D → Option Standing) (limits : Limits) (old : Opened D) (paths : List Path) (result : Result (Opened D) (OpenFault D)) → paths ≢ [] → AreDiffering old.tree.files old.stacks.state.records paths
    → IfErr result (RefusesAdopting told limits old paths) → IfErr result (RefusesCompared told true limits old)
refuses_adopting told limits old paths (Ok o) some are why = tt
refuses_adopting told limits old paths (Err (opens.Disk new)) some are why = tt
refuses_adopting told limits old paths (Err (opens.NotAStore new at)) some are why = why
refuses_adopting told limits old paths (Err (opens.TooBig new which found)) some are why =
    let s = opened_state old in
    let t = state_after s (adopting paths) in
    (refl, (t, compared_adopted s t paths some are refl, adopted_other s paths, why.0), why.1)
refuses_adopting told limits old paths (Err (opens.Differs new p)) some are why = absurd why
refuses_adopting told limits old paths (Err (opens.Memory new)) some are why = why

pub some_paths : (paths shown : List Path) → shown ≡ paths → 1 ≤ length shown → paths ≢ []
some_paths paths shown same some none = let e : length shown ≡ 0 = ap length (same ∙ none) in omega (arith, e, some)

-- ---- from the start of opening on

kept_alike : (s t : State) (effects : List Effect) → IsSameButLocks s t → IsSameButLocks (state_after s effects) (state_after t effects)
kept_alike s t effects same = record {
  kept = ap (λ (k : Kept). kept_after k effects) same.kept;
  files = ap (λ (k : Kept). files_after_each (stacks_of k) effects s.files) same.kept ∙ ap (λ (f : Entries). files_after_each (stacks_of (kept_of t)) effects f) same.files;
}

adopted_alike : (s t : State) (paths : List Path) → IsSameButLocks s t → IsSameButLocks (adopted_at paths s) (adopted_at paths t)
adopted_alike s t [] same = same
adopted_alike s t (p ∷ paths) same = kept_alike s t (adopting (p ∷ paths)) same

differing_alike : (s t : State) (paths : List Path) → IsSameButLocks s t → AreDiffering s.files s.records paths → AreDiffering t.files t.records paths
differing_alike s t paths same are =
    subst (λ (f : Entries). AreDiffering f t.records paths) same.files
    (subst (λ (rs : List Record). AreDiffering s.files rs paths) (ap (λ (k : Kept). k.records) same.kept) are)

opened_alike : (adopt : Bool) (s t : State) (image : Reading) → IsSameButLocks s t → StandsForOpened adopt s image → StandsForOpened adopt t image
opened_alike false s t image same stands = stands_alike s t image same stands
opened_alike true s t image same stands = ⊎_elim
    (λ before. inl (stands_alike s t image same before))
    (λ after.
    let paths = after.1.0 in
    let is : after.0 ≡ adopted_at paths s = after.1.2 in
    inr (
      adopted_at paths t,
      (paths, differing_alike s t paths same after.1.1, refl),
      stands_alike (adopted_at paths s) (adopted_at paths t) image (adopted_alike s t paths same) (subst (λ (x : State). StandsFor x image) is after.2),
    ))
    stands

-- A crash leaves what a crash at the start might have left, or what stands for the state, or for what adopting makes of it.
abbrev pub EarlierOr : (adopt : Bool) → Option Standing → State → Reading → Type 0
EarlierOr adopt start s image = MayLeave start image ⊎ StandsForOpened adopt s image

pub found_leaves : (adopt : Bool) (start mid : Option Standing) (s : State) → LeavesEarlierOr s start mid → LeavesOnly start mid (EarlierOr adopt start s)
found_leaves adopt start mid s leaves = weaker start mid (λ image. MayLeave start image ⊎ StandsFor s image) (EarlierOr adopt start s)
    (λ c h. ⊎_elim (λ may. inl may) (λ is. inr (stands_opened adopt s c is)) h) leaves

module _ (adopt : Bool) (start mid : Option Standing) (one : State) (stood : WhereTold start (λ d. StandsFor one d.reading)) where
  same_one : (told : Option Standing) → WhereTold told (λ d. StandsFor one d.reading) → (s : State) → StandsFor s (reading_of told) → IsSameButLocks one s
  same_one None stood s stands = absurd (untold_stands s stands)
  same_one (Some d) stood s stands = stands_for_one.one one s d.reading stood stands

  is_told : (told : Option Standing) (s : State) → StandsFor s (reading_of told) → IsTold told
  is_told None s stands = absurd (untold_stands s stands)
  is_told (Some d) s stands = tt

  pub opened_leaves : (new : Option Standing) → TellsAsBefore start mid → (IsTold mid → LeavesOnly mid new (StandsForOpened adopt one)) → (s : State) → StandsFor s (reading_of start) → LeavesEarlierOr s start mid → LeavesOnly start new (EarlierOr adopt start s)
  opened_leaves new tells then s stands before =
      joined start mid new (EarlierOr adopt start s) (found_leaves adopt start mid s before)
      (weaker mid new (StandsForOpened adopt one) (EarlierOr adopt start s) (λ c is. inr (opened_alike adopt one s c (same_one start stood s stands) is)) (then (tells.on (is_told start s stands))))

  pub has_stayed_at : (area : Area) (gate : ℕ) → TellsAsBefore start mid → (IsTold mid → IsAt one area gate mid) → HasStayed start mid
  has_stayed_at area gate tells at = from start mid tells at stood
    where
      from : (a b : Option Standing) → TellsAsBefore a b → (IsTold b → IsAt one area gate b) → WhereTold a (λ d. StandsFor one d.reading) → HasStayed a b
      from None None tells at stood = tt
      from None (Some u) tells at stood = absurd (tells.back tt)
      from (Some t) None tells at stood = absurd (tells.on tt)
      from (Some t) (Some u) tells at stood = λ s stands. stands_alike one s u.reading (stands_for_one.one one s t.reading stood stands) (at tt).stands

-- What a refusal after comparing leaves is what was left before, since nothing was written.
module _ {D : Type 0} (told : D → Option Standing) (adopt : Bool) (limits : Limits) (disk : D) (o : Opened D) (s : State) (before : LeavesEarlierOr s (told disk) (told o.idle.disk)) where
  same_leaves : (new : D) → told new ≡ told o.idle.disk → LeavesOnly (told disk) (told new) (EarlierOr false (told disk) s)
  same_leaves new same = subst (λ (t : Option Standing). LeavesOnly (told disk) t (EarlierOr false (told disk) s)) (sym same) (found_leaves false (told disk) (told o.idle.disk) s before)

  pub leaves_opening : (result : Result (Opened D) (OpenFault D)) → IfErr result (RefusesCompared told adopt limits o) → LeavesOnly (told disk) (told (disk_of_open result)) (EarlierOr adopt (told disk) s) → LeavesOpening adopt told disk s result
  leaves_opening (Ok x) why leaves = leaves
  leaves_opening (Err (opens.Disk new)) why leaves = leaves
  leaves_opening (Err (opens.NotAStore new at)) why leaves = absurd why
  leaves_opening (Err (opens.TooBig new which found)) why leaves = same_leaves new why.2
  leaves_opening (Err (opens.Differs new p)) why leaves = same_leaves new why.2
  leaves_opening (Err (opens.Memory new)) why leaves = same_leaves new why

module _ (adopt : Bool) (limits : Limits) (start : Option Standing) (s : State) where
  pub is_opened : (t : State) → WhereTold start (λ d. StandsFor s d.reading) → IsComparedAs adopt s t → WhereTold start (λ d. IsOpened adopt t d.reading)
  is_opened t stood compared = opened_told start stood
    where
      opened_so : (a : Bool) (image : Reading) → StandsFor s image → IsComparedAs a s t → IsOpened a t image
      opened_so false image stands is = subst (λ (x : State). StandsFor x image) (sym is) stands
      opened_so true image stands is = (s, stands, is)

      opened_told : (told : Option Standing) → WhereTold told (λ d. StandsFor s d.reading) → WhereTold told (λ d. IsOpened adopt t d.reading)
      opened_told None stood = tt
      opened_told (Some d) stood = opened_so adopt d.reading stood compared

  pub adopts_within : (t : State) → WhereTold start (λ d. StandsFor s d.reading) → IsAdoptedWithin limits s t → WhereTold start (λ d. AdoptsWithin limits t d.reading)
  adopts_within t stood is = within_told start stood
    where
      within_told : (told : Option Standing) → WhereTold told (λ d. StandsFor s d.reading) → WhereTold told (λ d. AdoptsWithin limits t d.reading)
      within_told None stood = tt
      within_told (Some d) stood = (s, stood, is)

pub tells_on : (a b c : Option Standing) → TellsAsBefore a b → TellsAsBefore b c → TellsAsBefore a c
tells_on a b c first then = record { on = λ is. then.on (first.on is); back = λ is. first.back (then.back is) }

where_pair : (told : Option Standing) (one : State) (P : Reading → Type 0) → ((image : Reading) → StandsFor one image → P image) → WhereTold told (λ d. StandsFor one d.reading) → WhereTold told (λ d. P d.reading)
where_pair None one P f stood = tt
where_pair (Some d) one P f stood = f d.reading stood

-- What is refused after comparing, from the start on.
module _ {D : Type 0} (told : D → Option Standing) (faults : D → ℕ) (adopt : Bool) (limits : Limits) (disk : D) (o : Opened D) (stood : WhereTold (told disk) (λ d. StandsFor (opened_state o) d.reading))
    (tells : TellsAsBefore (told disk) (told o.idle.disk)) (at : IsTold (told o.idle.disk) → IsAt (opened_state o) o.idle.area o.idle.gate (told o.idle.disk)) (starts : start_hit limits o.tree.files ≡ None)
    (counted : faults o.idle.disk ≡ faults disk) where
  stayed_to : (new : D) → told new ≡ told o.idle.disk → HasStayed (told disk) (told new)
  stayed_to new same = subst (λ (t : Option Standing). HasStayed (told disk) t) (sym same)
      (has_stayed_at adopt (told disk) (told o.idle.disk) (opened_state o) stood o.idle.area o.idle.gate tells at)

  pub refuses_open : (result : Result (Opened D) (OpenFault D)) → IfErr result (RefusesCompared told adopt limits o) → CountsOpen faults o.idle.disk result → IfErr result (RefusesOpen told faults adopt limits disk)
  refuses_open (Ok x) why counts = tt
  refuses_open (Err (opens.Disk new)) why counts = subst (λ (n : ℕ). Rose n (faults new)) counted counts.1
  refuses_open (Err (opens.NotAStore new place)) why counts = absurd why
  refuses_open (Err (opens.TooBig new which found)) why counts =
      let hit : Hit = record { which = which; would_be = found } in (
        where_pair (told disk) (opened_state o) (λ image. IsTooBig limits hit image ⊎ ((adopt ≡ true) × AdoptsTooMuch limits hit image))
            (λ image stands. inr (why.0, (opened_state o, stands, starts, why.1))) stood,
        stayed_to new why.2,
      )
  refuses_open (Err (opens.Differs new p)) why counts = inr (
    why.0,
    where_pair (told disk) (opened_state o) (DiffersFirstAt p) (λ image stands. (opened_state o, stands, why.1)) stood,
    stayed_to new why.2,
  )
  refuses_open (Err (opens.Memory new)) why counts = tt

pub nothing_written : (old new : Option Standing) (area : Area) (gate : ℕ) (s t : State) → IsAtRest old → new ≡ old → IsAt s area gate old → LeavesOnly old new (StandsForOneOf s t)
nothing_written old new area gate s t rests same at =
    no_call old new (StandsForOneOf s t) same (λ c may. inl (subst (StandsFor s) (sym (rests c may)) at.stands))
