-- How a run of disk calls goes on.
use Rattle.std.proofs.Common.{◌≡◌, ◌⊎◌, inl, inr, ⊎_elim, ℕ, ◌≤◌, List, [], ◌∷◌, ◌++◌, length, drop, Option, Some, None, sym, ◌∙◌, ap, subst, arith, length-append}
use Rattle.std.specs.Prelude.{Result, Ok, Err}
use Rattle.std.proofs.lemmas.List.{drop-append-le, drop_all}
use Rattle.wse_disk.specs.Reading.{Reading, Write}
use Rattle.wse_disk.specs.Standing.{Pending, Standing, IsImageOf, IsOfOne, WriteLeaves, SyncLeaves}
use Rattle.wse_disk.specs.Told.{MayLeave, LeftSince, moment_told}
use Rattle.wse_disk.specs.Calls.{Told, TellsWrite, TellsSync}
use Rattle.wse_disk.specs.LeavesOnly.{LeavesOnly}

-- No moment passes, or one.
abbrev pub PassesOneMoment : Standing → Standing → Type 0
PassesOneMoment old new = (new ≡ old) ⊎ (new.past ≡ old.past ++ old.pending ∷ [])

of_last : (ps : List Pending) (p : Pending) (c : Reading) → IsOfOne (ps ++ p ∷ []) c → IsImageOf p c ⊎ IsOfOne ps c
of_last [] p c (inl is) = inl is
of_last [] p c (inr none) = absurd none
of_last (q ∷ ps) p c (inl is) = inr (inl is)
of_last (q ∷ ps) p c (inr more) = ⊎_elim (λ is. inl is) (λ one. inr (inr one)) (of_last ps p c more)

of_more : (ps : List Pending) (p : Pending) (c : Reading) → IsOfOne ps c → IsOfOne (ps ++ p ∷ []) c
of_more [] p c one = absurd one
of_more (q ∷ ps) p c (inl is) = inl is
of_more (q ∷ ps) p c (inr one) = inr (of_more ps p c one)

of_new : (ps : List Pending) (p : Pending) (c : Reading) → IsImageOf p c → IsOfOne (ps ++ p ∷ []) c
of_new [] p c is = inl is
of_new (q ∷ ps) p c is = inr (of_new ps p c is)

-- Since this moment there is no other.
only_now : (s : Standing) (c : Reading) → LeftSince (Some s) (length s.past) c → IsImageOf s.pending c
only_now s c (inl now) = now
only_now s c (inr before) = absurd (subst (λ (ps : List Pending). IsOfOne ps c) (drop_all (length s.past) s.past (omega arith)) before)

-- What might have been left before, or may be left now.
nothing_else : (old new : Standing) → PassesOneMoment old new → (t : ℕ) (c : Reading) → t ≤ length old.past → LeftSince (Some new) t c → LeftSince (Some old) t c ⊎ IsImageOf new.pending c
nothing_else old new goes t c le (inl now) = inr now
nothing_else old new (inl same) t c le (inr before) = inl (inr (subst (λ (s : Standing). IsOfOne (drop t s.past) c) same before))
nothing_else old new (inr past) t c le (inr before) = inl (of_last (drop t old.past) old.pending c (subst (λ (ps : List Pending). IsOfOne ps c) (ap (drop t) past ∙ drop-append-le t old.past (old.pending ∷ []) le) before))

later : (old new : Standing) → PassesOneMoment old new → length old.past ≤ length new.past
later old new (inl same) = omega (arith, ap (λ (s : Standing). length s.past) same)
later old new (inr past) = omega (arith, ap length past, length-append old.past (old.pending ∷ []))

keeps : (old new : Standing) → PassesOneMoment old new → (t : ℕ) (c : Reading) → t ≤ length old.past → LeftSince (Some old) t c → LeftSince (Some new) t c
keeps old new (inl same) t c le left = subst (λ (s : Standing). LeftSince (Some s) t c) (sym same) left
keeps old new (inr past) t c le left =
    let is : drop t new.past ≡ drop t old.past ++ old.pending ∷ [] = ap (drop t) past ∙ drop-append-le t old.past (old.pending ∷ []) le in
    inr (subst (λ (ps : List Pending). IsOfOne ps c) (sym is) (⊎_elim (λ now. of_new (drop t old.past) old.pending c now) (λ one. of_more (drop t old.past) old.pending c one) left))

-- What might have been left still might.
pub keeps_left : (old new : Option Standing) → Told PassesOneMoment old new → (t : ℕ) (c : Reading) → t ≤ moment_told old → LeftSince old t c → LeftSince new t c
keeps_left None new goes t c le left = absurd left
keeps_left (Some s) None goes t c le left = absurd goes
keeps_left (Some s) (Some u) goes t c le left = keeps s u goes t c le left

-- Nothing else might be left but what may be left since the call.
pub nothing_new : (old new : Option Standing) → Told PassesOneMoment old new → (t : ℕ) (c : Reading) → t ≤ moment_told old → LeftSince new t c → LeftSince old t c ⊎ LeftSince new (moment_told old) c
nothing_new None None goes t c le left = absurd left
nothing_new None (Some u) goes t c le left = absurd goes
nothing_new (Some s) None goes t c le left = absurd goes
nothing_new (Some s) (Some u) goes t c le left = ⊎_elim (λ past. inl past) (λ now. inr (inl now)) (nothing_else s u goes t c le left)

-- What may be left now might have been left since any moment.
pub left_now : (told : Option Standing) (t : ℕ) (c : Reading) → MayLeave told c → LeftSince told t c
left_now None t c may = absurd may
left_now (Some s) t c may = inl may

-- One call, where what a crash may leave before and after it has the property.
pub one_call : (old new : Option Standing) (P : Reading → Type 0) → Told PassesOneMoment old new → ((c : Reading) → MayLeave old c → P c) → ((c : Reading) → MayLeave new c → P c) → LeavesOnly old new P
one_call None None P goes was is = record { later = omega arith; each = λ c left. absurd left; before = λ t c le left. absurd left }
one_call None (Some u) P goes was is = absurd goes
one_call (Some s) None P goes was is = absurd goes
one_call (Some s) (Some u) P goes was is = record {
  later = later s u goes;
  each = λ c left. ⊎_elim (λ past. was c (only_now s c past)) (is c) (nothing_else s u goes (length s.past) c (omega arith) left);
  before = λ t c le left. ⊎_elim (λ past. inl past) (λ here. inr (is c here)) (nothing_else s u goes t c le left);
}

stays_itself : (told : Option Standing) → Told PassesOneMoment told told
stays_itself None = tt
stays_itself (Some s) = inl (λ i. s)

-- No call.
pub no_call : (old new : Option Standing) (P : Reading → Type 0) → new ≡ old → ((c : Reading) → MayLeave old c → P c) → LeavesOnly old new P
no_call old new P same was = subst (λ (told : Option Standing). LeavesOnly old told P) (sym same) (one_call old old P (stays_itself old) was was)

-- Two stretches, one after the other.
pub joined : (old mid new : Option Standing) (P : Reading → Type 0) → LeavesOnly old mid P → LeavesOnly mid new P → LeavesOnly old new P
joined old mid new P first next = record {
  later = omega (arith, first.later, next.later);
  each = λ c left. ⊎_elim (first.each c) (λ p. p) (next.before (moment_told old) c first.later left);
  before = λ t c le left. ⊎_elim (first.before t c le) (λ p. inr p) (next.before t c (omega (arith, le, first.later)) left);
}

-- A weaker property.
pub weaker : (old new : Option Standing) (P Q : Reading → Type 0) → ((c : Reading) → P c → Q c) → LeavesOnly old new P → LeavesOnly old new Q
weaker old new P Q f all = record {
  later = all.later;
  each = λ c left. f c (all.each c left);
  before = λ t c le left. ⊎_elim (λ past. inl past) (λ p. inr (f c p)) (all.before t c le left);
}

writes_goes : {T E : Type 0} (w : Write) (result : Result T E) (s u : Standing) → WriteLeaves w result s u → PassesOneMoment s u
writes_goes w (Ok x) s u done = inr (ap (λ (v : Standing). v.past) done)
writes_goes w (Err e) s u (inl same) = inl same
writes_goes w (Err e) s u (inr counts) = inr (ap (λ (v : Standing). v.past) counts.1)

syncs_goes : {T E : Type 0} (result : Result T E) (s u : Standing) → SyncLeaves result s u → PassesOneMoment s u
syncs_goes (Ok x) s u done = inr (ap (λ (v : Standing). v.past) done)
syncs_goes (Err e) s u (inl same) = inl same
syncs_goes (Err e) s u (inr passed) = inr (ap (λ (v : Standing). v.past) passed)

-- A write, or a sync, goes on by a moment or stays.
pub wrote_goes : {T E : Type 0} (w : Write) (old new : Option Standing) (result : Result T E) → TellsWrite w old new result → Told PassesOneMoment old new
wrote_goes w None None result wrote = tt
wrote_goes w None (Some u) result wrote = absurd wrote
wrote_goes w (Some s) None result wrote = absurd wrote
wrote_goes w (Some s) (Some u) result wrote = writes_goes w result s u wrote

pub synced_goes : {T E : Type 0} (old new : Option Standing) (result : Result T E) → TellsSync old new result → Told PassesOneMoment old new
synced_goes None None result synced = tt
synced_goes None (Some u) result synced = absurd synced
synced_goes (Some s) None result synced = absurd synced
synced_goes (Some s) (Some u) result synced = syncs_goes result s u synced
