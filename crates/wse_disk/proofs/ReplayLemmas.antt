-- What a disk in memory stands for at each of its moments.
use Rattle.std.proofs.Common.{◌≡◌, ◌⊎◌, inl, inr, ℕ, zero, suc, ◌+◌, ◌-◌, ◌<◌, ◌≤◌, true, false, List, [], ◌∷◌, ◌++◌, length, get_or, take, drop, refl, sym, ◌∙◌, ap, subst, arith, length-append, append_assoc}
use Rattle.std.specs.List.{list_any}
use Rattle.std.proofs.lemmas.Bool.{or_parts}
use Rattle.std.proofs.lemmas.List.{get_or_append_left, get_or_at, get_or_past, take-append-drop, take_more, append-nil}
use Rattle.wse_disk.specs.Reading.{Reading, Write}
use Rattle.wse_disk.specs.Standing.{Standing, Pending, fresh}
use Rattle.wse_disk.specs.Replay.{stands_after, replay, pending_at}
use Rattle.wse_disk.specs.Runs.{write_of, writes_of, redone, redone_all, is_done_sync, IsSyncAt}
use Rattle.wse_disk.specs.declared.call.Call.{Call}
use Rattle.wse_disk.specs.declared.call.Call.TheVariants.{Store, Erase, Patch, Sync}

pub replay-append : (s : Standing) (cs ds : List Call) → replay s (cs ++ ds) ≡ replay (replay s cs) ds
replay-append s [] ds = refl
replay-append s (c ∷ cs) ds = replay-append (stands_after s c) cs ds

-- After each call what was pending before it stands behind the moments so far.
pub past_after : (s : Standing) (c : Call) → (stands_after s c).past ≡ s.past ++ s.pending ∷ []
past_after s (Store path bytes failed) = refl
past_after s (Erase path failed) = refl
past_after s (Patch area at bytes failed) = refl
past_after s (Sync true) = refl
past_after s (Sync false) = refl

front_stays : (cs : List Call) (s : Standing) (i : ℕ) (d : Pending) → i < length s.past → get_or (replay s cs).past i d ≡ get_or s.past i d
front_stays [] s i d lt = refl
front_stays (c ∷ cs) s i d lt =
    front_stays cs (stands_after s c) i d (omega (arith, lt, ap length (past_after s c), length-append s.past (s.pending ∷ [])))
    ∙ ap (λ (ps : List Pending). get_or ps i d) (past_after s c)
    ∙ get_or_append_left s.past (s.pending ∷ []) d i lt

moment_from : (cs : List Call) (s : Standing) (m : ℕ) → m ≤ length cs → get_or (replay s cs).past (length s.past + m) (replay s cs).pending ≡ (replay s (take m cs)).pending
moment_from [] s zero le = get_or_past s.past (length s.past + 0) s.pending (omega arith)
moment_from [] s (suc m) le = absurd (omega arith)
moment_from (c ∷ cs) s zero le =
    let d = (replay s (c ∷ cs)).pending in
    let first : length s.past + 0 ≡ length s.past = omega arith in
    ap (λ (i : ℕ). get_or (replay s (c ∷ cs)).past i d) first
    ∙ front_stays cs (stands_after s c) (length s.past) d (omega (arith, ap length (past_after s c), length-append s.past (s.pending ∷ [])))
    ∙ ap (λ (ps : List Pending). get_or ps (length s.past) d) (past_after s c)
    ∙ get_or_at s.past s.pending [] d (length s.past) refl
moment_from (c ∷ cs) s (suc m) le =
    let same : length s.past + suc m ≡ length (stands_after s c).past + m = omega (arith, ap length (past_after s c), length-append s.past (s.pending ∷ [])) in
    ap (λ (i : ℕ). get_or (replay s (c ∷ cs)).past i (replay s (c ∷ cs)).pending) same ∙ moment_from cs (stands_after s c) m (omega arith)

-- What is pending at a moment is what the calls up to it leave.
pub moment_is : (r : Reading) (cs : List Call) (m : ℕ) → m ≤ length cs → pending_at (replay (fresh r) cs) m ≡ (replay (fresh r) (take m cs)).pending
moment_is r cs m le =
    let same : m ≡ 0 + m = omega arith in
    ap (λ (i : ℕ). get_or (replay (fresh r) cs).past i (replay (fresh r) cs).pending) same ∙ moment_from cs (fresh r) m le

reading_after : (s : Standing) (c : Call) → (stands_after s c).reading ≡ redone c s.reading
reading_after s (Store path bytes failed) = refl
reading_after s (Erase path failed) = refl
reading_after s (Patch area at bytes failed) = refl
reading_after s (Sync true) = refl
reading_after s (Sync false) = refl

-- What is read after calls are the calls done again.
pub reading_redone : (s : Standing) (cs : List Call) → (replay s cs).reading ≡ redone_all s.reading cs
reading_redone s [] = refl
reading_redone s (c ∷ cs) = reading_redone (stands_after s c) cs ∙ ap (λ (r : Reading). redone_all r cs) (reading_after s c)

abbrev adding : Pending → List Write → Pending
adding p ws = record { base = p.base; writes = p.writes ++ ws }

pending_after : (s : Standing) (c : Call) → is_done_sync c ≡ false → (stands_after s c).pending ≡ adding s.pending (write_of c)
pending_after s (Store path bytes failed) h = refl
pending_after s (Erase path failed) h = refl
pending_after s (Patch area at bytes failed) h = refl
pending_after s (Sync true) h = ap (λ (ws : List Write). record { base = s.pending.base; writes = ws }) (sym (append-nil s.pending.writes))
pending_after s (Sync false) h = cc

-- Where no sync succeeded, the writes of the calls are pending too.
pub none_synced : (s : Standing) (cs : List Call) → list_any is_done_sync cs ≡ false → (replay s cs).pending ≡ adding s.pending (writes_of cs)
none_synced s [] h = ap (λ (ws : List Write). record { base = s.pending.base; writes = ws }) (sym (append-nil s.pending.writes))
none_synced s (c ∷ cs) h =
    let parts = or_parts (is_done_sync c) (list_any is_done_sync cs) h in
    none_synced (stands_after s c) cs parts.1
    ∙ ap (λ (p : Pending). adding p (writes_of cs)) (pending_after s c parts.0)
    ∙ ap (λ (ws : List Write). record { base = s.pending.base; writes = ws }) (append_assoc s.pending.writes (write_of c) (writes_of cs))

-- Just what is read is pending.
abbrev clear : Standing → Type 0
clear s = s.pending ≡ record { base = s.reading; writes = [] }

clear_after : (s : Standing) (c : Call) → is_done_sync c ≡ true → clear (stands_after s c)
clear_after s (Store path bytes failed) h = cc
clear_after s (Erase path failed) h = cc
clear_after s (Patch area at bytes failed) h = cc
clear_after s (Sync true) h = cc
clear_after s (Sync false) h = refl

-- Up to a sync that succeeded, or before the first call.
pub clear_at : (r : Reading) (cs : List Call) (n : ℕ) → n ≤ length cs → (n ≡ 0) ⊎ IsSyncAt cs (n - 1) → clear (replay (fresh r) (take n cs))
clear_at r cs zero le at = refl
clear_at r cs (suc n) le (inl none) = cc
clear_at r [] (suc n) le (inr at) = absurd (omega arith)
clear_at r (c ∷ cs) (suc n) le (inr at) =
    let d = get_or (c ∷ cs) n c in
    let back : suc n - 1 ≡ n = omega arith in
    let done : is_done_sync d ≡ true = ap (λ (i : ℕ). is_done_sync (get_or (c ∷ cs) i c)) (sym back) ∙ at c in
    let one : suc n ≡ n + 1 = omega arith in
    let whole : replay (fresh r) (take (suc n) (c ∷ cs)) ≡ stands_after (replay (fresh r) (take n (c ∷ cs))) d =
    ap (λ (k : ℕ). replay (fresh r) (take k (c ∷ cs))) one
    ∙ ap (replay (fresh r)) (take_more (c ∷ cs) n c (omega arith))
    ∙ replay-append (fresh r) (take n (c ∷ cs)) (d ∷ []) in
    subst clear (sym whole) (clear_after (replay (fresh r) (take n (c ∷ cs))) d done)

-- What is pending after calls, of which the last sync that succeeded is the n-th.
pub pending_is : (r : Reading) (cs : List Call) (n : ℕ) → n ≤ length cs → (n ≡ 0) ⊎ IsSyncAt cs (n - 1) → list_any is_done_sync (drop n cs) ≡ false
    → (replay (fresh r) cs).pending ≡ record { base = redone_all r (take n cs); writes = writes_of (drop n cs) }
pending_is r cs n le at none =
    let front = replay (fresh r) (take n cs) in
    ap (λ (l : List Call). (replay (fresh r) l).pending) (sym (take-append-drop n cs))
    ∙ ap (λ (s : Standing). s.pending) (replay-append (fresh r) (take n cs) (drop n cs))
    ∙ none_synced front (drop n cs) none
    ∙ ap (λ (p : Pending). adding p (writes_of (drop n cs))) (clear_at r cs n le at)
    ∙ ap (λ (b : Reading). record { base = b; writes = writes_of (drop n cs) }) (reading_redone (fresh r) (take n cs))
