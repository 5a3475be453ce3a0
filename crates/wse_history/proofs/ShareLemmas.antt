-- Locks path by path, and as outcomes have them.
use Rattle.std.proofs.Common.{◌≡◌, ◌≢◌, ℕ, Bool, true, false, cond, not, ◌||◌, List, [], ◌∷◌, length, Option, Some, None, refl, sym, ap, subst, ◌<◌, ◌∙◌}
use Rattle.std.specs.Prelude.{filter, find, nat_eq, nat_lt, position, slice_get}
use Rattle.std.specs.List.{position_or_len}
use Rattle.std.specs.FinMap.{is_sorted, put}
use Rattle.std.specs.FinMap.Entries.{same_entries, find-put, is_sorted-put, is_sorted-where_key}
use Rattle.std.specs.Option.{option_map_or}
use Rattle.std.specs.Ordering.{eq_by_cmp}
use Rattle.std.proofs.lemmas.Bool.{ltb-true, ltb-false}
use Rattle.std.proofs.lemmas.List.Folds.{find_at}
use Rattle.std.proofs.lemmas.Option.{slice_get_past}
use Rattle.wse_path.specs.Path.{Path}
use Rattle.wse_path.specs.Order.{path_cmp, is_named}
use Rattle.wse_path.specs.PathMap.{without}
use Rattle.wse_path.proofs.EntryLemmas.{to_so, so}
use Rattle.wse_path.proofs.MergeLemmas.{value_set}
use Rattle.wse_path.proofs.PathOrder.{total, tied_path}
use Rattle.wse_locks.specs.Locks.{Holders, LocksState, holder, holds, held}
use Rattle.wse_locks.proofs.LockLemmas.{others_hold, sorted_filter}
use Rattle.wse_element.specs.State.{State}
use Rattle.wse_history.specs.declared.answer.Answer.TheVariants.{Taken, Held, Freed, NotHeld, Left}
use Rattle.wse_history.specs.Outcome.{Outcome, stays, locks_as, is_some_of}
use Rattle.wse_history.specs.Locking.{given_each, lock_outcome}
use Rattle.wse_history.specs.Unlocking.{freed_each, unlock_outcome}
use Rattle.wse_history.specs.Leaving.{leave_outcome}

-- Two lists of locks that answer alike at each path are one.
same_locks : (a b : Holders) → is_sorted path_cmp a ≡ true → is_sorted path_cmp b ≡ true → ((q : Path) → holder a q ≡ holder b q) → a ≡ b
same_locks a b s t alike = same_entries path_cmp total tied_path a b (to_so _ s) (to_so _ t) alike

-- ---- given

given_or : (named here : Bool) (by : ℕ) (o : Option ℕ) → cond named (Some by) (cond here (Some by) o) ≡ cond (here || named) (Some by) o
given_or true true by o = refl
given_or true false by o = refl
given_or false true by o = refl
given_or false false by o = refl

holder_given : (by : ℕ) (files : List Path) (es : Holders) (q : Path) → holder (given_each by files es) q ≡ cond (is_named files q) (Some by) (holder es q)
holder_given by [] es q = refl
holder_given by (p ∷ files) es q =
    holder_given by files (put path_cmp p by es) q
    ∙ ap (λ o. cond (is_named files q) (Some by) o) (find-put path_cmp total q p by es)
    ∙ given_or (is_named files q) (eq_by_cmp path_cmp q p) by (holder es q)

sorted_given : (by : ℕ) (files : List Path) (es : Holders) → is_sorted path_cmp es ≡ true → is_sorted path_cmp (given_each by files es) ≡ true
sorted_given by [] es s = s
sorted_given by (p ∷ files) es s = sorted_given by files (put path_cmp p by es) (so _ (is_sorted-put path_cmp total p by es (to_so _ s)))

is_some_not : {X : Type 0} (xs : List X) → xs ≢ [] → is_some_of xs ≡ true
is_some_not [] h = absurd (h refl)
is_some_not (x ∷ xs) h = refl

abbrev lock_from : Holders → (by : ℕ) → List Path → Outcome
lock_from es by files = cond (is_some_of (held es by files)) (stays (Held (held es by files))) (locks_as (given_each by files es) Taken)

-- locks that were taken are those of the outcome
pub lock_taken : (s : State) (by : ℕ) (files : List Path) (old new : LocksState) → old.entries ≡ s.locks → held old.entries by files ≡ []
    → ((q : Path) → holder new.entries q ≡ cond (is_named files q) (Some by) (holder old.entries q)) → locks_as new.entries Taken ≡ lock_outcome s by files
lock_taken s by files old new is free alike =
    ap (λ es. locks_as es Taken) (same_locks new.entries (given_each by files old.entries) new.rises (sorted_given by files old.entries old.rises) (λ q. alike q ∙ sym (holder_given by files old.entries q)))
    ∙ ap (λ (hs : List Path). cond (is_some_of hs) (stays (Held hs)) (locks_as (given_each by files old.entries) Taken)) (sym free)
    ∙ ap (λ (es : Holders). lock_from es by files) is

pub lock_held : (s : State) (by : ℕ) (files others : List Path) (old : LocksState) → old.entries ≡ s.locks → others ≡ held old.entries by files → held old.entries by files ≢ [] → stays (Held others) ≡ lock_outcome s by files
lock_held s by files others old is named some =
    ap (λ hs. stays (Held hs)) named
    ∙ ap (λ b. cond b (stays (Held (held old.entries by files))) (locks_as (given_each by files old.entries) Taken)) (sym (is_some_not (held old.entries by files) some))
    ∙ ap (λ (es : Holders). lock_from es by files) is

-- ---- freed

freed_or : (named here : Bool) (o : Option ℕ) → cond named None (cond here None o) ≡ cond (here || named) None o
freed_or true true o = refl
freed_or true false o = refl
freed_or false true o = refl
freed_or false false o = refl

holder_freed : (files : List Path) (es : Holders) (q : Path) → holder (freed_each files es) q ≡ cond (is_named files q) None (holder es q)
holder_freed [] es q = refl
holder_freed (p ∷ files) es q =
    holder_freed files (without es p) q
    ∙ ap (λ o. cond (is_named files q) None o) (value_set es p None q)
    ∙ freed_or (is_named files q) (eq_by_cmp path_cmp q p) (holder es q)

sorted_freed : (files : List Path) (es : Holders) → is_sorted path_cmp es ≡ true → is_sorted path_cmp (freed_each files es) ≡ true
sorted_freed [] es s = s
sorted_freed (p ∷ files) es s = sorted_freed files (without es p) (so _ (is_sorted-where_key path_cmp (λ q. not (eq_by_cmp path_cmp p q)) es (to_so _ s)))

-- what a search by position finds
pub found_some : {X : Type 0} (test : X → Bool) (files : List X) (i : ℕ) → position test files ≡ Some i → record { within : i < length files; found : find test files ≡ slice_get files i }
found_some test files i is =
    let n = position_or_len test files in
    elim (nat_lt n (length files)) as (λ b. nat_lt n (length files) ≡ b → cond b (Some n) None ≡ Some i → record { within : i < length files; found : find test files ≡ slice_get files i }) [
      | true ↦ λ t k.
          let same : n ≡ i = cc in
          record { within = subst (λ m. m < length files) same (ltb-true n (length files) t); found = find_at test files ∙ ap (slice_get files) same }
      | false ↦ λ t k. cc
    ] refl is

pub found_none : {X : Type 0} (test : X → Bool) (files : List X) → position test files ≡ None → find test files ≡ None
found_none test files is =
    let n = position_or_len test files in
    elim (nat_lt n (length files)) as (λ b. nat_lt n (length files) ≡ b → ◌≡◌ {A = Option ℕ} (cond b (Some n) None) None → find test files ≡ None) [
      | true ↦ λ t k. cc
      | false ↦ λ t k. find_at test files ∙ slice_get_past files n (ltb-false n (length files) t)
    ] refl is

abbrev unlock_from : Holders → (by : ℕ) → List Path → Outcome
unlock_from es by files = option_map_or (λ p. stays (NotHeld p)) (find (λ p. not (holds es by p)) files) (locks_as (freed_each files es) Freed)

pub unlock_freed : (s : State) (by : ℕ) (files : List Path) (old new : LocksState) → old.entries ≡ s.locks → position (λ p. not (holds old.entries by p)) files ≡ None
    → ((q : Path) → holder new.entries q ≡ cond (is_named files q) None (holder old.entries q)) → locks_as new.entries Freed ≡ unlock_outcome s by files
unlock_freed s by files old new is own alike =
    ap (λ es. locks_as es Freed) (same_locks new.entries (freed_each files old.entries) new.rises (sorted_freed files old.entries old.rises) (λ q. alike q ∙ sym (holder_freed files old.entries q)))
    ∙ ap (λ (o : Option Path). option_map_or (λ p. stays (NotHeld p)) o (locks_as (freed_each files old.entries) Freed)) (sym (found_none (λ p. not (holds old.entries by p)) files own))
    ∙ ap (λ (es : Holders). unlock_from es by files) is

pub unlock_refused : (s : State) (by : ℕ) (files : List Path) (old : LocksState) (i : ℕ) (file : Path) → old.entries ≡ s.locks → position (λ p. not (holds old.entries by p)) files ≡ Some i → slice_get files i ≡ Some file
    → stays (NotHeld file) ≡ unlock_outcome s by files
unlock_refused s by files old i file is at here =
    ap (λ (o : Option Path). option_map_or (λ p. stays (NotHeld p)) o (locks_as (freed_each files old.entries) Freed)) (sym ((found_some (λ p. not (holds old.entries by p)) files i at).found ∙ here))
    ∙ ap (λ (es : Holders). unlock_from es by files) is

-- ---- left

pub leave_left : (s : State) (by : ℕ) (old new : LocksState) → old.entries ≡ s.locks
    → ((q : Path) → holder new.entries q ≡ cond (holds old.entries by q) None (holder old.entries q)) → locks_as new.entries Left ≡ leave_outcome s by
leave_left s by old new is alike =
    ap (λ es. locks_as es Left) (same_locks new.entries (filter (λ e. not (nat_eq e.1 by)) old.entries) new.rises (sorted_filter (λ e. not (nat_eq e.1 by)) old.entries old.rises) (λ q. alike q ∙ sym (others_hold old.entries by q old.rises)))
    ∙ ap (λ (es : Holders). locks_as (filter (λ e. not (nat_eq e.1 by)) es) Left) is
