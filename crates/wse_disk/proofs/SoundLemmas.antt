-- What a disk in memory keeps over its calls.
use Rattle.std.proofs.Common.{◌≡◌, ◌⊎◌, inl, inr, ℕ, ◌≤◌, Bool, true, false, cond, ◌||◌, List, [], ◌∷◌, ◌++◌, length, Option, Some, None, refl, sym, ◌∙◌, ap, subst, arith, length-append}
use Rattle.std.specs.Prelude.{Result, Ok, Err, OnOk, OnErr, is_err}
use Rattle.std.proofs.lemmas.Bool.{cases_order}
use Rattle.std.proofs.lemmas.List.{get_or_append_left, get_or_at, get_or_past, get_or_default}
use Rattle.wse_path.specs.Path.{Path}
use Rattle.wse_path.specs.Tree.{Entries, IsTree}
use Rattle.wse_disk.specs.Reading.{Reading, Write}
use Rattle.wse_disk.specs.Image.{DiffersBy}
use Rattle.wse_disk.specs.Reading.Write.{Stores, Erases, Patches}
use Rattle.wse_disk.specs.Standing.{Standing, Pending, IsImageOf, fresh, next, with_write, WriteLeaves, SyncLeaves}
use Rattle.wse_disk.specs.Replay.{held, laid, after_write, stands_after, replay, pending_at, first_of}
use Rattle.wse_disk.specs.MemState.{MemState, KeepsImages, IsHeld, Notes, standing}
use Rattle.wse_disk.specs.CallCounts.{CallState, next_fails, finished}
use Rattle.wse_disk.specs.declared.areas.Areas.{Areas}
use Rattle.wse_disk.specs.declared.call.Call.{Call}
use Rattle.wse_disk.specs.declared.call.Call.TheVariants.{Sync}
use Rattle.wse_disk.specs.declared.draft.Draft.{Draft}
use Rattle.wse_disk.proofs.ImageLemmas.{more_images, torn_itself}
use Rattle.wse_disk.proofs.NearLemmas.{Fits, laid_plain, written_image, base_image}
use Rattle.wse_disk.proofs.ReplayLemmas.{replay-append, past_after}

-- Before the first call.
pub sound_first : (r : Reading) → IsTree r.files → KeepsImages r []
sound_first r tree = record { stays = base_image r [] tree; bases = λ t. bases t; counted = refl }
  where
    bases : (t : ℕ) → IsTree (pending_at (fresh r) t).base.files
    bases t = tree

base_of : Standing → ℕ → Type 0
base_of s t = IsTree (pending_at s t).base.files

next_pending : (s : Standing) (r : Reading) (p : Pending) (t : ℕ) → (pending_at (next s r p) t ≡ pending_at s t) ⊎ (pending_at (next s r p) t ≡ p)
next_pending s r p t = elim (cases_order t (length s.past)) [
  | inl is ↦ inl (get_or_at s.past s.pending [] p t (sym is) ∙ sym (get_or_past s.past t s.pending (omega (arith, is))))
  | inr (inl before) ↦ inl (get_or_append_left s.past (s.pending ∷ []) p t before ∙ get_or_default s.past t p s.pending before)
  | inr (inr after) ↦ inr (get_or_past (s.past ++ s.pending ∷ []) t p (omega (arith, after, length-append s.past (s.pending ∷ []))))
]

bases_next : (s : Standing) (r : Reading) (p : Pending) → IsTree p.base.files → ((t : ℕ) → IsTree (pending_at s t).base.files) → (t : ℕ) → IsTree (pending_at (next s r p) t).base.files
bases_next s r p base trees t = elim (next_pending s r p t) [
  | inl before ↦ subst (λ (q : Pending). IsTree q.base.files) (sym before) (trees t)
  | inr now ↦ subst (λ (q : Pending). IsTree q.base.files) (sym now) base
]

base_now : (s : Standing) → ((t : ℕ) → IsTree (pending_at s t).base.files) → IsTree s.pending.base.files
base_now s trees = subst (λ (q : Pending). IsTree q.base.files) (get_or_past s.past (length s.past) s.pending (omega arith)) (trees (length s.past))

-- What stays after a call.
record StaysSound (s : Standing) : Type 0 where
  pub stays : IsImageOf s.pending s.reading
  pub bases : (t : ℕ) → IsTree (pending_at s t).base.files

after_sound : (w : Write) (failed : Bool) (s : Standing) → Fits w s.reading → StaysSound s → StaysSound (after_write w failed s)
after_sound w true s fits sound = record {
  stays = more_images s.pending.base s.pending.writes w s.reading sound.stays;
  bases = bases_next s s.reading (with_write w s.pending) (base_now s sound.bases) sound.bases;
}
after_sound w false s fits sound = record {
  stays = written_image s.pending.base s.pending.writes w s.reading fits sound.stays;
  bases = bases_next s (laid w s.reading) (with_write w s.pending) (base_now s sound.bases) sound.bases;
}

sync_sound : (failed : Bool) (s : Standing) → StaysSound s → StaysSound (stands_after s (Sync failed))
sync_sound true s sound = record { stays = sound.stays; bases = bases_next s s.reading s.pending (base_now s sound.bases) sound.bases }
sync_sound false s sound = record {
  stays = base_image s.reading [] sound.stays.tree;
  bases = bases_next s s.reading (record { base = s.reading; writes = [] }) sound.stays.tree sound.bases;
}

with_call : (first : Reading) (calls : List Call) (call : Call) → KeepsImages first calls → StaysSound (stands_after (replay (fresh first) calls) call) → KeepsImages first (calls ++ call ∷ [])
with_call first calls call sound after =
    let s = replay (fresh first) calls in
    let is : replay (fresh first) (calls ++ call ∷ []) ≡ stands_after s call = replay-append (fresh first) calls (call ∷ []) in
    let all = subst StaysSound (sym is) after in
    record {
      stays = all.stays;
      bases = all.bases;
      counted = omega (arith, length-append calls (call ∷ []), sound.counted, ap (λ (t : Standing). length t.past) is, ap length (past_after s call), length-append s.past (s.pending ∷ []));
    }

-- After one write more.
pub sound_write : (first : Reading) (calls : List Call) (call : Call) (w : Write) (failed : Bool) → ((s : Standing) → stands_after s call ≡ after_write w failed s) → Fits w (replay (fresh first) calls).reading → KeepsImages first calls
    → KeepsImages first (calls ++ call ∷ [])
sound_write first calls call w failed is_write fits sound =
    let s = replay (fresh first) calls in
    with_call first calls call sound (subst StaysSound (sym (is_write s)) (after_sound w failed s fits (record { stays = sound.stays; bases = sound.bases })))

-- After one sync more.
pub sound_sync : (first : Reading) (calls : List Call) (failed : Bool) → KeepsImages first calls → KeepsImages first (calls ++ Sync failed ∷ [])
sound_sync first calls failed sound = with_call first calls (Sync failed) sound (sync_sound failed (replay (fresh first) calls) (record { stays = sound.stays; bases = sound.bases }))

-- What is kept after a call, or after it found no memory.
pub record Kept {C : Type 0} (before : Reading) (first : Option Draft) (now : Reading) (calls : List Call) (to_make : List C) : Type 0 where
  pub sound : KeepsImages (first_of first now) calls
  pub held : IsHeld first now calls to_make
  pub same : first_of first now ≡ before

begun_first : (first : Option Draft) (now now' : Reading) → (first ≡ None → ⊥) → first_of first now' ≡ first_of first now
begun_first None now now' some = absurd (some refl)
begun_first (Some d) now now' some = refl

on_done : {T E : Type 0} (r : Result T E) (w : Write) (failed : Bool) (s : Standing) (call : Call) (now now' : Reading) → now ≡ s.reading → stands_after s call ≡ after_write w failed s → OnOk r (now' ≡ cond failed now (laid w now)) → OnOk r (now' ≡ (stands_after s call).reading)
on_done (Ok x) w failed s call now now' same is_write is = is ∙ ap (λ (r : Reading). cond failed r (laid w r)) same ∙ ap (λ (t : Standing). t.reading) (sym is_write)
on_done (Err e) w failed s call now now' same is_write is = tt

on_sync : {T E : Type 0} (r : Result T E) (failed : Bool) (s : Standing) (now : Reading) → now ≡ s.reading → OnOk r (now ≡ (stands_after s (Sync failed)).reading)
on_sync (Ok x) true s now same = same
on_sync (Ok x) false s now same = same
on_sync (Err e) failed s now same = tt

on_none : {T E : Type 0} (r : Result T E) (now : Reading) → OnErr r (now ≡ now)
on_none (Ok x) now = tt
on_none (Err e) now = refl

module _ (before : Reading) where
  pub settled : {C : Type 0} (first : Option Draft) (now now' : Reading) (calls : List Call) (to_make to_make' : List C) → now' ≡ now → to_make' ≡ [] → Kept before first now calls to_make → Kept before first now' calls to_make'
  settled first now now' calls to_make to_make' same none kept = record {
    sound = subst (λ (r : Reading). KeepsImages (first_of first r) calls) (sym same) kept.sound;
    held = record {
      same = subst (λ (r : Reading). r ≡ (replay (fresh (first_of first r)) calls).reading) (sym same) kept.held.same;
      begun = λ e. ((kept.held.begun e).0, none);
    };
    same = ap (first_of first) same ∙ kept.same;
  }

  -- What it had at first is kept apart, before the first call that changes it.
  pub parted : {C : Type 0} (first first' : Option Draft) (now now' : Reading) (calls : List Call) (to_make to_make' : List C) → now' ≡ now → first_of first' now' ≡ first_of first now → (first' ≡ None → (first ≡ None) × (to_make' ≡ [])) → Kept before first now calls to_make
      → Kept before first' now' calls to_make'
  parted first first' now now' calls to_make to_make' same kept_first made kept = record {
    sound = subst (λ (r : Reading). KeepsImages r calls) (sym kept_first) kept.sound;
    held = record {
      same = same ∙ kept.held.same ∙ ap (λ (r : Reading). (replay (fresh r) calls).reading) (sym kept_first);
      begun = λ e. ((kept.held.begun (made e).0).0, (made e).1);
    };
    same = kept_first ∙ kept.same;
  }

  pub noted : {C T E : Type 0} (r : Result T E) (call : Call) (first : Option Draft) (now now' : Reading) (calls calls' : List Call) (to_make to_make' : List C) → (first ≡ None → ⊥) → Kept before first now calls to_make
      → KeepsImages (first_of first now) (calls ++ call ∷ []) → OnOk r (now' ≡ (stands_after (replay (fresh (first_of first now)) calls) call).reading) → OnErr r (now' ≡ now)
      → OnOk r (calls' ≡ calls ++ call ∷ []) → OnErr r (calls' ≡ calls) → Kept before first now' calls' to_make'
  noted (Ok x) call first now now' calls calls' to_make to_make' some kept next done undone more none =
      let same = begun_first first now now' some in
      record {
        sound = subst (λ (cs : List Call). KeepsImages (first_of first now') cs) (sym more) (subst (λ (r : Reading). KeepsImages r (calls ++ call ∷ [])) (sym same) next);
        held = record {
          same = done ∙ ap (λ (s : Standing). s.reading) (sym (replay-append (fresh (first_of first now)) calls (call ∷ [])))
              ∙ ap (λ (cs : List Call). (replay (fresh (first_of first now)) cs).reading) (sym more)
              ∙ ap (λ (r : Reading). (replay (fresh r) calls').reading) (sym same);
          begun = λ e. absurd (some e);
        };
        same = same ∙ kept.same;
      }
  noted (Err e) call first now now' calls calls' to_make to_make' some kept next done undone more none = record {
    sound = subst (λ (cs : List Call). KeepsImages (first_of first now') cs) (sym none) (subst (λ (r : Reading). KeepsImages (first_of first r) calls) (sym undone) kept.sound);
    held = record {
      same = undone ∙ kept.held.same ∙ ap (λ (r : Reading). (replay (fresh (first_of first r)) calls).reading) (sym undone)
          ∙ ap (λ (cs : List Call). (replay (fresh (first_of first now')) cs).reading) (sym none);
      begun = λ e. absurd (some e);
    };
    same = ap (first_of first) undone ∙ kept.same;
  }

  -- One write more, by its parts.
  pub noted_write : {C T E : Type 0} (r : Result T E) (call : Call) (w : Write) (failed : Bool) (first : Option Draft) (now now' : Reading) (calls calls' : List Call) (to_make to_make' : List C) → ((s : Standing) → stands_after s call ≡ after_write w failed s)
      → (first ≡ None → ⊥) → Kept before first now calls to_make → Fits w now
      → OnOk r (now' ≡ cond failed now (laid w now)) → OnErr r (now' ≡ now) → OnOk r (calls' ≡ calls ++ call ∷ []) → OnErr r (calls' ≡ calls) → Kept before first now' calls' to_make'
  noted_write r call w failed first now now' calls calls' to_make to_make' is_write some kept fits done undone more none =
      let s = replay (fresh (first_of first now)) calls in
      noted r call first now now' calls calls' to_make to_make' some kept
      (sound_write (first_of first now) calls call w failed is_write (subst (Fits w) kept.held.same fits) kept.sound)
      (on_done r w failed s call now now' kept.held.same (is_write s) done) undone more none

  pub noted_sync : {C T E : Type 0} (r : Result T E) (failed : Bool) (first : Option Draft) (now : Reading) (calls calls' : List Call) (to_make : List C) → (first ≡ None → ⊥) → Kept before first now calls to_make
      → OnOk r (calls' ≡ calls ++ Sync failed ∷ []) → OnErr r (calls' ≡ calls) → Kept before first now calls' to_make
  noted_sync r failed first now calls calls' to_make some kept more none =
      noted r (Sync failed) first now now calls calls' to_make to_make some kept (sound_sync (first_of first now) calls failed kept.sound)
      (on_sync r failed (replay (fresh (first_of first now)) calls) now kept.held.same) (on_none r now) more none

-- What is read differs nowhere from itself.
differs_itself : (w : Write) (r : Reading) → IsTree r.files → DiffersBy w r r
differs_itself (Stores p bytes) r tree = record { tree = tree; others = λ q ne. refl; areas = λ a. refl }
differs_itself (Erases p) r tree = record { tree = tree; others = λ q ne. refl; areas = λ a. refl }
differs_itself (Patches a place bytes) r tree = record { torn = torn_itself a place (length bytes) r; no_longer = omega arith }

writes_told : {T E : Type 0} (w : Write) (no_memory failed : Bool) (r : Result T E) (old new : Standing) → is_err r ≡ (no_memory || failed) → Fits w old.reading → IsTree old.reading.files
    → new ≡ cond no_memory old (after_write w failed old) → WriteLeaves w r old new
writes_told w true failed (Ok x) old new e fits tree is = cc
writes_told w true failed (Err x) old new e fits tree is = inl is
writes_told w false true (Ok x) old new e fits tree is = cc
writes_told w false true (Err x) old new e fits tree is = inr (old.reading, is, differs_itself w old.reading tree)
writes_told w false false (Ok x) old new e fits tree is = is ∙ ap (λ (r : Reading). next old r (with_write w old.pending)) (laid_plain w old.reading fits)
writes_told w false false (Err x) old new e fits tree is = cc

syncs_told : {T E : Type 0} (no_memory failed : Bool) (r : Result T E) (old new : Standing) → is_err r ≡ (no_memory || failed) → new ≡ cond no_memory old (stands_after old (Sync failed)) → SyncLeaves r old new
syncs_told true failed (Ok x) old new e is = cc
syncs_told true failed (Err x) old new e is = inl is
syncs_told false true (Ok x) old new e is = cc
syncs_told false true (Err x) old new e is = inr is
syncs_told false false (Ok x) old new e is = is
syncs_told false false (Err x) old new e is = cc

stands_noted : (no_memory : Bool) (call : Call) (first first' : Reading) (calls calls' : List Call) → first' ≡ first → calls' ≡ cond no_memory calls (calls ++ call ∷ []) → replay (fresh first') calls' ≡ cond no_memory (replay (fresh first) calls) (stands_after (replay (fresh first) calls) call)
stands_noted true call first first' calls calls' same is = (λ i. replay (fresh (same i)) (is i))
stands_noted false call first first' calls calls' same is = (λ i. replay (fresh (same i)) (is i)) ∙ replay-append (fresh first) calls (call ∷ [])

-- What a disk in memory tells of a write, by its parts.
pub told_write : {T E : Type 0} (w : Write) (call : Call) (no_memory failed : Bool) (r : Result T E) (first first' : Reading) (calls calls' : List Call) → ((s : Standing) → stands_after s call ≡ after_write w failed s)
    → is_err r ≡ (no_memory || failed) → first' ≡ first → calls' ≡ cond no_memory calls (calls ++ call ∷ []) → Fits w (replay (fresh first) calls).reading → KeepsImages first calls → WriteLeaves w r (replay (fresh first) calls) (replay (fresh first') calls')
told_write w call no_memory failed r first first' calls calls' is_write e same is fits sound =
    let s = replay (fresh first) calls in
    writes_told w no_memory failed r s (replay (fresh first') calls') e fits sound.stays.tree (stands_noted no_memory call first first' calls calls' same is ∙ ap (cond no_memory s) (is_write s))

pub told_sync : {T E : Type 0} (no_memory failed : Bool) (r : Result T E) (first first' : Reading) (calls calls' : List Call) → is_err r ≡ (no_memory || failed) → first' ≡ first → calls' ≡ cond no_memory calls (calls ++ Sync failed ∷ [])
    → SyncLeaves r (replay (fresh first) calls) (replay (fresh first') calls')
told_sync no_memory failed r first first' calls calls' e same is = syncs_told no_memory failed r (replay (fresh first) calls) (replay (fresh first') calls') e (stands_noted no_memory (Sync failed) first first' calls calls' same is)

-- The moment never falls.
pub later_noted : {A : Type 0} (no_memory : Bool) (call : A) (calls calls' : List A) → calls' ≡ cond no_memory calls (calls ++ call ∷ []) → length calls ≤ length calls'
later_noted true call calls calls' is = omega (arith, ap length is)
later_noted false call calls calls' is = omega (arith, ap length is, length-append calls (call ∷ []))

files_done : {T E : Type 0} (r : Result T E) (failed : Bool) (old put new : Entries) (areas : Areas) → OnOk r (new ≡ cond failed old put) → OnOk r (held new areas ≡ cond failed (held old areas) (held put areas))
files_done (Ok x) true old put new areas is = ap (λ (es : Entries). held es areas) is
files_done (Ok x) false old put new areas is = ap (λ (es : Entries). held es areas) is
files_done (Err e) failed old put new areas is = tt

files_undone : {T E : Type 0} (r : Result T E) (old new : Entries) (areas : Areas) → OnErr r (new ≡ old) → OnErr r (held new areas ≡ held old areas)
files_undone (Ok x) old new areas is = tt
files_undone (Err e) old new areas is = ap (λ (es : Entries). held es areas) is

module _ (first first' : Option Draft) (files files' : Entries) (areas : Areas) (calls calls' : List Call) (m m' m'' : List (Path × Option (List ℕ)))
    (sound : KeepsImages (first_of first (held files areas)) calls) (is_held : IsHeld first (held files areas) calls m)
    (same : files' ≡ files) (kept_first : first_of first' (held files' areas) ≡ first_of first (held files areas)) (none : first' ≡ None → first ≡ None) (made : first' ≡ None → m' ≡ []) where
  -- What it had at first is kept apart, or was before.
  pub begun : Kept (first_of first (held files areas)) first' (held files' areas) calls m'
  begun = parted (first_of first (held files areas)) first first' (held files areas) (held files' areas) calls m m' (ap (λ (es : Entries). held es areas) same) kept_first (λ e. (none e, made e)) (record { sound = sound; held = is_held; same = refl })

  -- And then files were written.
  pub file_call : {T E : Type 0} (r : Result T E) (call : Call) (w : Write) (failed : Bool) (put files'' : Entries) → ((s : Standing) → stands_after s call ≡ after_write w failed s) → (first' ≡ None → ⊥) → Fits w (held files areas)
      → laid w (held files' areas) ≡ held put areas → OnOk r (files'' ≡ cond failed files' put) → OnErr r (files'' ≡ files') → OnOk r (calls' ≡ calls ++ call ∷ []) → OnErr r (calls' ≡ calls)
      → Kept (first_of first (held files areas)) first' (held files'' areas) calls' m''
  file_call r call w failed put files'' is_write some fits effect done undone more kept =
      noted_write (first_of first (held files areas)) r call w failed first' (held files' areas) (held files'' areas) calls calls' m' m'' is_write some begun
      (subst (λ (es : Entries). Fits w (held es areas)) (sym same) fits)
      (subst (λ (x : Reading). OnOk r (held files'' areas ≡ cond failed (held files' areas) x)) (sym effect) (files_done r failed files' put files'' areas done))
      (files_undone r files' files'' areas undone) more kept

  -- Or an area was.
  pub area_call : {T E : Type 0} (r : Result T E) (call : Call) (w : Write) (failed : Bool) (areas' : Areas) → ((s : Standing) → stands_after s call ≡ after_write w failed s) → (first' ≡ None → ⊥) → Fits w (held files areas)
      → OnOk r ((es : Entries) → held es areas' ≡ cond failed (held es areas) (laid w (held es areas))) → OnErr r ((es : Entries) → held es areas' ≡ held es areas) → OnOk r (calls' ≡ calls ++ call ∷ []) → OnErr r (calls' ≡ calls)
      → Kept (first_of first (held files areas)) first' (held files' areas') calls' m'
  area_call r call w failed areas' is_write some fits done undone more kept =
      noted_write (first_of first (held files areas)) r call w failed first' (held files' areas) (held files' areas') calls calls' m' m' is_write some begun
      (subst (λ (es : Entries). Fits w (held es areas)) (sym same) fits)
      (at_ok r done) (at_err r undone) more kept
    where
      at_ok : {T E : Type 0} (q : Result T E) → OnOk q ((es : Entries) → held es areas' ≡ cond failed (held es areas) (laid w (held es areas))) → OnOk q (held files' areas' ≡ cond failed (held files' areas) (laid w (held files' areas)))
      at_ok (Ok x) is = is files'
      at_ok (Err e) is = tt

      at_err : {T E : Type 0} (q : Result T E) → OnErr q ((es : Entries) → held es areas' ≡ held es areas) → OnErr q (held files' areas' ≡ held files' areas)
      at_err (Ok x) is = tt
      at_err (Err e) is = is files'

  -- Or a sync was noted.
  pub sync_call : {T E : Type 0} (r : Result T E) (failed : Bool) → (first' ≡ None → ⊥) → OnOk r (calls' ≡ calls ++ Sync failed ∷ []) → OnErr r (calls' ≡ calls)
      → Kept (first_of first (held files areas)) first' (held files' areas) calls' m'
  sync_call r failed some more kept = noted_sync (first_of first (held files areas)) r failed first' (held files' areas) calls calls' m' some begun more kept

by_result : {T E : Type 0} (r : Result T E) (calls' calls more : List Call) → OnOk r (calls' ≡ more) → OnErr r (calls' ≡ calls) → calls' ≡ cond (is_err r) calls more
by_result (Ok x) calls' calls more done kept = done
by_result (Err e) calls' calls more done kept = kept

-- A call of the record that was noted, or found no memory, and then was counted.
module _ {T E T' E' : Type 0} (call : Bool → Call) (old mid new : MemState) (noted : Result T E) (result : Result T' E') (failed no_memory : Bool) (fails : failed ≡ next_fails old.counts) (lacks : no_memory ≡ is_err noted)
    (more : OnOk noted (mid.calls ≡ old.calls ++ call failed ∷ [])) (kept : OnErr noted (mid.calls ≡ old.calls)) (first : mid.first ≡ old.first) (counts : mid.counts ≡ old.counts)
    (is_failed : is_err result ≡ (no_memory || next_fails mid.counts)) (counted : new.counts ≡ finished mid.counts no_memory) (first' : new.first ≡ mid.first) (calls' : new.calls ≡ mid.calls) where
  err_is : is_err result ≡ (no_memory || failed)
  err_is = is_failed ∙ ap (λ (c : CallState). no_memory || next_fails c) counts ∙ ap (λ (b : Bool). no_memory || b) (sym fails)

  calls_are : new.calls ≡ cond no_memory old.calls (old.calls ++ call failed ∷ [])
  calls_are = calls' ∙ by_result noted mid.calls old.calls (old.calls ++ call failed ∷ []) more kept ∙ ap (λ (b : Bool). cond b old.calls (old.calls ++ call failed ∷ [])) (sym lacks)

  pub done_write : (w : Write) → ((s : Standing) (f : Bool) → stands_after s (call f) ≡ after_write w f s) → Fits w (standing old).reading → WriteLeaves w result (standing old) (standing new)
  done_write w is_write fits = told_write w (call failed) no_memory failed result old.first new.first old.calls new.calls (λ s. is_write s failed) err_is (first' ∙ first) calls_are fits old.sound

  pub done_later : length old.calls ≤ length new.calls
  done_later = later_noted no_memory (call failed) old.calls new.calls calls_are

  pub done_notes : Notes call old new result no_memory
  done_notes = record {
    failed = is_failed ∙ ap (λ (c : CallState). no_memory || next_fails c) counts;
    counts = counted ∙ ap (λ (c : CallState). finished c no_memory) counts;
    first = first' ∙ first;
    calls = calls_are ∙ ap (λ (b : Bool). cond no_memory old.calls (old.calls ++ call b ∷ [])) fails;
  }

-- The same of a sync.
pub done_sync : {T E T' E' : Type 0} (old mid new : MemState) (noted : Result T E) (result : Result T' E') (failed no_memory : Bool) → failed ≡ next_fails old.counts → no_memory ≡ is_err noted
    → OnOk noted (mid.calls ≡ old.calls ++ Sync failed ∷ []) → OnErr noted (mid.calls ≡ old.calls) → mid.first ≡ old.first → mid.counts ≡ old.counts
    → is_err result ≡ (no_memory || next_fails mid.counts) → new.counts ≡ finished mid.counts no_memory → new.first ≡ mid.first → new.calls ≡ mid.calls → SyncLeaves result (standing old) (standing new)
done_sync old mid new noted result failed no_memory fails lacks more kept first counts is_failed counted first' calls' =
    told_sync no_memory failed result old.first new.first old.calls new.calls (err_is (λ f. Sync f) old mid new noted result failed no_memory fails lacks more kept first counts is_failed counted first' calls') (first' ∙ first)
    (calls_are (λ f. Sync f) old mid new noted result failed no_memory fails lacks more kept first counts is_failed counted first' calls')
