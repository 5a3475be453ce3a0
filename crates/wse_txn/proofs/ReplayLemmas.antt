-- What journals give: one record more, and that they give one thing.
use Rattle.std.proofs.Common.{◌≡◌, inl, ⊎_elim, ℕ, List, [], ◌∷◌, ◌++◌, None, Result, Ok, Err, refl, sym, ap, subst, ◌∙◌}
use Rattle.wse_path.specs.Tree.{Entries, set_files}
use Rattle.wse_element.specs.declared.effect.Effect.{Effect}
use Rattle.wse_element.specs.State.{StacksState, Kept}
use Rattle.wse_element.specs.Effects.{after, contents_set, files_after_each}
use Rattle.wse_element.specs.Applicable.{first_refused_of_kept}
use Rattle.wse_codec.specs.declared.snapshot.Snapshot.{Snapshot}
use Rattle.wse_codec.specs.Reading.{read_effects, read_snapshot}
use Rattle.wse_log.specs.Grammar.{JournalRecord, JournalEnd, ClosedAt, BrokenAt}
use Rattle.wse_log.specs.Writing.{next_gate}
use Rattle.wse_txn.specs.Replay.{Replayed, Given, Leaves, NoStoreAt, replayed, sets_each, GivesNext, GivesBehind, GivesFirst, Gives, begun_with}
use Rattle.wse_txn.proofs.SetLemmas.{set_append}

abbrev left_in : Replayed → Given → Replayed
left_in none (Leaves left) = left
left_in none (NoStoreAt place) = none

pub leaves_no_fault : (left : Replayed) (place : ℕ) → Leaves left ≡ NoStoreAt place → ⊥
leaves_no_fault left place e = cc

next_more : (kept : Kept) (gate : ℕ) (o : Result (List Effect) ℕ) (A B : Replayed → Type 0) (l m : Replayed) → ((n : Replayed) → A n → B n) → GivesNext kept gate o A (Leaves l) → GivesNext kept gate o B (Leaves m)
next_more kept gate (Err at) A B l m f h = absurd (leaves_no_fault l (_) h)
next_more kept gate (Ok es) A B l m f h =
    ⊎_elim
    (λ (a : (first_refused_of_kept kept es ≡ None) × A (replayed kept es)). inl (a.0, f (replayed kept es) a.1))
    (λ (b : (first_refused_of_kept kept es ≡ None → ⊥) × (Leaves l ≡ NoStoreAt gate)). absurd (leaves_no_fault l gate b.1))
    h

behind_more : (left : Replayed) (gate : ℕ) (rs : List JournalRecord) (r : JournalRecord) (end close : ℕ) (l : Replayed) (es : List Effect) → GivesBehind left gate rs (ClosedAt end) (Leaves l) → read_effects r.body ≡ Ok es → first_refused_of_kept l.kept es ≡ None → GivesBehind left gate (rs ++ r ∷ []) (ClosedAt close) (Leaves (replayed l.kept es))
behind_more left gate [] r end close l es h read may =
    subst (λ (x : Replayed). first_refused_of_kept x.kept es ≡ None → GivesNext left.kept gate (read_effects r.body) (λ next. Leaves (replayed x.kept es) ≡ Leaves next) (Leaves (replayed x.kept es)))
    (sym (ap (left_in left) h))
    (λ may_left. subst (λ (o : Result (List Effect) ℕ). GivesNext left.kept gate o (λ next. Leaves (replayed left.kept es) ≡ Leaves next) (Leaves (replayed left.kept es))) (sym read) (inl (may_left, refl)))
    may
behind_more left gate (x ∷ rs) r end close l es h read may =
    next_more left.kept gate (read_effects x.body)
    (λ next. GivesBehind next (next_gate gate x.body) rs (ClosedAt end) (Leaves l))
    (λ next. GivesBehind next (next_gate gate x.body) (rs ++ r ∷ []) (ClosedAt close) (Leaves (replayed l.kept es)))
    l (replayed l.kept es)
    (λ next g. behind_more next (next_gate gate x.body) rs r end close l es g read may) h

first_more : (o : Result Snapshot ℕ) (A B : Replayed → Type 0) (l m : Replayed) → ((n : Replayed) → A n → B n) → GivesFirst o A (Leaves l) → GivesFirst o B (Leaves m)
first_more (Err at) A B l m f h = absurd (leaves_no_fault l (_) h)
first_more (Ok s) A B l m f h = ⊎_elim (λ a. inl (a.0, f (begun_with s) a.1)) (λ b. absurd (leaves_no_fault l 8 b.1)) h

-- A journal with one record more leaves what its effects leave.
pub gives_more : (rs : List JournalRecord) (r : JournalRecord) (end close : ℕ) (l : Replayed) (es : List Effect) → Gives rs (ClosedAt end) (Leaves l) → read_effects r.body ≡ Ok es → first_refused_of_kept l.kept es ≡ None → Gives (rs ++ r ∷ []) (ClosedAt close) (Leaves (replayed l.kept es))
gives_more [] r end close l es h read may = absurd h
gives_more (x ∷ rs) r end close l es h read may =
    first_more (read_snapshot x.body)
    (λ left. GivesBehind left (next_gate 8 x.body) rs (ClosedAt end) (Leaves l))
    (λ left. GivesBehind left (next_gate 8 x.body) (rs ++ r ∷ []) (ClosedAt close) (Leaves (replayed l.kept es)))
    l (replayed l.kept es)
    (λ left g. behind_more left (next_gate 8 x.body) rs r end close l es g read may) h

-- ---- records give one thing

next_once : (kept : Kept) (gate : ℕ) (o : Result (List Effect) ℕ) (G : Replayed → Given → Type 0) (a b : Given) → ((n : Replayed) → G n a → G n b → a ≡ b) → GivesNext kept gate o (λ n. G n a) a → GivesNext kept gate o (λ n. G n b) b → a ≡ b
next_once kept gate (Err at) G a b once p q = p ∙ sym q
next_once kept gate (Ok es) G a b once p q =
    ⊎_elim
    (λ (x : (first_refused_of_kept kept es ≡ None) × G (replayed kept es) a). ⊎_elim
    (λ (y : (first_refused_of_kept kept es ≡ None) × G (replayed kept es) b). once (replayed kept es) x.1 y.1)
    (λ (y : (first_refused_of_kept kept es ≡ None → ⊥) × (b ≡ NoStoreAt gate)). absurd (y.0 x.0)) q)
    (λ (x : (first_refused_of_kept kept es ≡ None → ⊥) × (a ≡ NoStoreAt gate)). ⊎_elim
    (λ (y : (first_refused_of_kept kept es ≡ None) × G (replayed kept es) b). absurd (x.0 y.0))
    (λ (y : (first_refused_of_kept kept es ≡ None → ⊥) × (b ≡ NoStoreAt gate)). x.1 ∙ sym y.1) q)
    p

behind_once : (left : Replayed) (gate : ℕ) (rs : List JournalRecord) (end : JournalEnd) (a b : Given) → GivesBehind left gate rs end a → GivesBehind left gate rs end b → a ≡ b
behind_once left gate [] (ClosedAt g) a b p q = p ∙ sym q
behind_once left gate [] (BrokenAt g) a b p q = p ∙ sym q
behind_once left gate (r ∷ rs) end a b p q =
    next_once left.kept gate (read_effects r.body) (λ n x. GivesBehind n (next_gate gate r.body) rs end x) a b (λ n. behind_once n (next_gate gate r.body) rs end a b) p q

first_once : (o : Result Snapshot ℕ) (G : Replayed → Given → Type 0) (a b : Given) → ((n : Replayed) → G n a → G n b → a ≡ b) → GivesFirst o (λ n. G n a) a → GivesFirst o (λ n. G n b) b → a ≡ b
first_once (Err at) G a b once p q = p ∙ sym q
first_once (Ok s) G a b once p q =
    ⊎_elim
    (λ x. ⊎_elim (λ y. once (begun_with s) x.1 y.1) (λ y. absurd (y.0 x.0)) q)
    (λ x. ⊎_elim (λ y. absurd (x.0 y.0)) (λ y. x.1 ∙ sym y.1) q)
    p

pub gives_once : (rs : List JournalRecord) (end : JournalEnd) (a b : Given) → Gives rs end a → Gives rs end b → a ≡ b
gives_once [] (ClosedAt g) a b p q = absurd p
gives_once [] (BrokenAt g) a b p q = p ∙ sym q
gives_once (r ∷ rs) end a b p q = first_once (read_snapshot r.body) (λ n x. GivesBehind n (next_gate 8 r.body) rs end x) a b (λ n. behind_once n (next_gate 8 r.body) rs end a b) p q

pub same_left : (a b : Replayed) → Leaves a ≡ Leaves b → a ≡ b
same_left a b e = ap (left_in a) e

-- ---- what effects set

pub files_as_set : (h : StacksState) (es : List Effect) (files : Entries) → files_after_each h es files ≡ set_files (sets_each h es) files
files_as_set h [] files = refl
files_as_set h (e ∷ es) files =
    files_as_set (after h e) es (set_files (contents_set h.records e) files)
    ∙ sym (set_append (contents_set h.records e) (sets_each (after h e) es) files)
