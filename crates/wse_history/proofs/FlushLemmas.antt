-- What is ruled to be flushed may be dropped, path by path.
use Rattle.std.proofs.Common.{◌≡◌, ℕ, Bool, true, false, cond, not, ◌||◌, List, [], ◌∷◌, length, map, Option, Some, None, refl, sym, ap, subst, ◌∙◌}
use Rattle.std.specs.Prelude.{filter, nat_le}
use Rattle.std.specs.List.{list_any, list_all}
use Rattle.std.specs.FinMap.{is_sorted}
use Rattle.std.specs.FinMap.Entries.{below_all}
use Rattle.std.specs.Option.{option_map_or}
use Rattle.std.specs.Ordering.{eq_by_cmp, is_lt, is_eq}
use Rattle.std.proofs.lemmas.Bool.{and_from, or_parts, or_from, not-true, false_from_ne_true, both_ways}
use Rattle.wse_path.specs.Path.{Path}
use Rattle.wse_path.specs.Order.{path_cmp}
use Rattle.wse_path.specs.declared.command.Choice.{Choice}
use Rattle.wse_path.specs.declared.command.Choice.TheVariants.{All, This, Cancel, Turned}
use Rattle.wse_path.specs.declared.command.Direction.{Direction}
use Rattle.wse_path.proofs.EntryLemmas.{and_parts, less_so}
use Rattle.wse_path.proofs.PathOrder.{same_path}
use Rattle.wse_locks.specs.Locks.{Holders, is_held}
use Rattle.wse_element.specs.declared.effect.Effect.TheVariants.{Drop}
use Rattle.wse_element.specs.declared.state.PartState.TheVariants.{Closed}
use Rattle.wse_element.specs.Record.{RecordPart, Record, by_path}
use Rattle.wse_element.specs.Live.{is_live_at, is_valid_at}
use Rattle.wse_element.specs.Losses.{lost_at, flushed}
use Rattle.wse_element.specs.Stacks.{live_at}
use Rattle.wse_element.specs.State.{StacksState}
use Rattle.wse_element.specs.Effects.{after}
use Rattle.wse_element.proofs.ListLemmas.{filter_passes}
use Rattle.wse_element.proofs.LiveLemmas.{eq_itself}
use Rattle.wse_element.proofs.PastLemmas.{live_at_flushed_other}
use Rattle.wse_rules.specs.Ruling.{closest, one_ruling, all_paths, Blocking, blocked, chosen_ruling, choice_for, across_ruling, ruling_of}
use Rattle.wse_rules.specs.declared.ruling.Cause.{Cause}
use Rattle.wse_rules.specs.declared.ruling.Cause.TheVariants as causes
use Rattle.wse_rules.specs.declared.ruling.Ruling.TheVariants as rulings
use Rattle.wse_history.proofs.GoLemmas.{closest_stands, parts_in}
use Rattle.wse_history.proofs.Words.{AreLinked, are_distinct, AllMayCome, FlushesMayCome}
use Rattle.wse_history.specs.Moves.{close_each}

-- ---- a flush elsewhere leaves what is live

abbrev is_some_of : {X : Type 0} → List X → Bool
is_some_of [] = false
is_some_of (x ∷ xs) = true

some_kept : (test : Record → Bool) (xs : List Record) → list_any test xs ≡ is_some_of (filter test xs)
some_kept test [] = refl
some_kept test (x ∷ xs) = elim (test x) as (λ b. (b || list_any test xs) ≡ is_some_of (cond b (x ∷ filter test xs) (filter test xs))) [ true ↦ refl | false ↦ some_kept test xs ]

some_map : (f : Record → Record) (xs : List Record) → is_some_of (map f xs) ≡ is_some_of xs
some_map f [] = refl
some_map f (x ∷ xs) = refl

pub live_stays : (records : List Record) (q p : Path) → eq_by_cmp path_cmp p q ≡ false → list_any (is_live_at p) (flushed records q) ≡ list_any (is_live_at p) records
live_stays records q p other =
    some_kept (is_live_at p) (flushed records q) ∙ ap is_some_of (live_at_flushed_other records q p other) ∙ some_map (lost_at q Closed) (live_at records p) ∙ sym (some_kept (is_live_at p) records)

all_stay : (records : List Record) (q : Path) (ps : List Path) → list_any (λ p. eq_by_cmp path_cmp p q) ps ≡ false → list_all (λ p. list_any (is_live_at p) records) ps ≡ true → list_all (λ p. list_any (is_live_at p) (flushed records q)) ps ≡ true
all_stay records q [] other all = refl
all_stay records q (p ∷ ps) other all =
    let o = or_parts (eq_by_cmp path_cmp p q) (list_any (λ x. eq_by_cmp path_cmp x q) ps) other in
    let a = and_parts (list_any (is_live_at p) records) (list_all (λ x. list_any (is_live_at x) records) ps) all in
    and_from (list_any (is_live_at p) (flushed records q)) (list_all (λ x. list_any (is_live_at x) (flushed records q)) ps) (live_stays records q p o.0 ∙ a.0) (all_stay records q ps o.1 a.1)

closes_each : (h : StacksState) (ps : List Path) → are_distinct ps ≡ true → list_all (λ p. list_any (is_live_at p) h.records) ps ≡ true → AllMayCome h (map (λ p. Drop p Closed) ps)
closes_each h [] distinct all = tt
closes_each h (p ∷ ps) distinct all =
    let d = and_parts (not (list_any (λ q. eq_by_cmp path_cmp q p) ps)) (are_distinct ps) distinct in
    let a = and_parts (list_any (is_live_at p) h.records) (list_all (λ x. list_any (is_live_at x) h.records) ps) all in
    (a.0, closes_each (after h (Drop p Closed)) ps d.1 (all_stay h.records p ps (not-true (list_any (λ q. eq_by_cmp path_cmp q p) ps) d.0) a.1))

-- ---- distinct paths

none_filtered : (test kept : Path → Bool) (ps : List Path) → list_any test ps ≡ false → list_any test (filter kept ps) ≡ false
none_filtered test kept [] h = refl
none_filtered test kept (p ∷ ps) h =
    let both = or_parts (test p) (list_any test ps) h in
    elim (kept p) as (λ b. list_any test (cond b (p ∷ filter kept ps) (filter kept ps)) ≡ false) [ true ↦ or_from (test p) (list_any test (filter kept ps)) both.0 (none_filtered test kept ps both.1) | false ↦ none_filtered test kept ps both.1 ]

pub distinct_filtered : (kept : Path → Bool) (ps : List Path) → are_distinct ps ≡ true → are_distinct (filter kept ps) ≡ true
distinct_filtered kept [] h = refl
distinct_filtered kept (p ∷ ps) h =
    let both = and_parts (not (list_any (λ q. eq_by_cmp path_cmp q p) ps)) (are_distinct ps) h in
    elim (kept p) as (λ b. are_distinct (cond b (p ∷ filter kept ps) (filter kept ps)) ≡ true) [
      | true ↦ and_from (not (list_any (λ q. eq_by_cmp path_cmp q p) (filter kept ps))) (are_distinct (filter kept ps))
          (ap not (none_filtered (λ q. eq_by_cmp path_cmp q p) kept ps (not-true (list_any (λ q. eq_by_cmp path_cmp q p) ps) both.0))) (distinct_filtered kept ps both.1)
      | false ↦ distinct_filtered kept ps both.1
    ]

pub closes_may : (h : StacksState) (paths : List Path) → are_distinct paths ≡ true → AllMayCome h (close_each h.records paths)
closes_may h paths distinct =
    closes_each h (filter (λ p. list_any (is_live_at p) h.records) paths) (distinct_filtered (λ p. list_any (is_live_at p) h.records) paths distinct) (filter_passes (λ p. list_any (is_live_at p) h.records) paths)

pub unequal_back : (p q : Path) → is_eq (path_cmp p q) ≡ false → eq_by_cmp path_cmp q p ≡ false
unequal_back p q h = false_from_ne_true (eq_by_cmp path_cmp q p) (λ e. both_ways (eq_by_cmp path_cmp p q) h (subst (λ x. eq_by_cmp path_cmp p x ≡ true) (sym (same_path q p e)) (eq_itself p)))

none_again : (p : Path) (parts : List RecordPart) → below_all path_cmp p (by_path parts) ≡ true → list_any (λ q. eq_by_cmp path_cmp q p) (map (λ part. part.path) parts) ≡ false
none_again p [] h = refl
none_again p (part ∷ more) h =
    let both = and_parts (is_lt (path_cmp p part.path)) (below_all path_cmp p (by_path more)) h in
    or_from (eq_by_cmp path_cmp part.path p) (list_any (λ q. eq_by_cmp path_cmp q p) (map (λ x. x.path) more)) (unequal_back p part.path (ap is_eq (less_so (path_cmp p part.path) both.0))) (none_again p more both.1)

pub parts_distinct : (parts : List RecordPart) → is_sorted path_cmp (by_path parts) ≡ true → are_distinct (map (λ part. part.path) parts) ≡ true
parts_distinct [] h = refl
parts_distinct (part ∷ more) h =
    let both = and_parts (below_all path_cmp part.path (by_path more)) (is_sorted path_cmp (by_path more)) h in
    and_from (not (list_any (λ q. eq_by_cmp path_cmp q part.path) (map (λ x. x.path) more))) (are_distinct (map (λ x. x.path) more)) (ap not (none_again part.path more both.0)) (parts_distinct more both.1)

-- ---- rulings

pub one_flush : (locks : Holders) (by : ℕ) (p : Path) (r : Record) (cause : Cause) (files gone : List Path) → one_ruling locks by p r ≡ rulings.Flush cause files gone → p ∷ [] ≡ gone
one_flush locks by p r cause files gone h =
    elim (is_valid_at p r) as (λ b. cond (not b) (rulings.Flush causes.Invalid (p ∷ []) (p ∷ [])) (cond (is_held locks by p) (rulings.Locked (p ∷ [])) (rulings.Go r.id)) ≡ rulings.Flush cause files gone → p ∷ [] ≡ gone) [
      | true ↦ elim (is_held locks by p) as (λ b. cond b (rulings.Locked (p ∷ [])) (rulings.Go r.id) ≡ rulings.Flush cause files gone → p ∷ [] ≡ gone) [ true ↦ λ k. cc | false ↦ λ k. cc ]
      | false ↦ λ k. cc
    ] h

no_chosen_flush : (choice : Choice) (r : Record) (cause : Cause) (files gone : List Path) → chosen_ruling choice r ≡ rulings.Flush cause files gone → all_paths r ≡ gone
no_chosen_flush All r cause files gone h = cc
no_chosen_flush This r cause files gone h = cc
no_chosen_flush Cancel r cause files gone h = cc
no_chosen_flush (Turned more) r cause files gone h = cc

pub across_flush : (o : Option Blocking) (choice : Choice) (r : Record) (cause : Cause) (files gone : List Path) → across_ruling o choice r ≡ rulings.Flush cause files gone → all_paths r ≡ gone
across_flush (Some b) choice r cause files gone h =
    elim r.splits as (λ s. cond s (rulings.Split r.id b.cause b.files) (rulings.Flush b.cause b.files (all_paths r)) ≡ rulings.Flush cause files gone → all_paths r ≡ gone) [ true ↦ λ k. cc | false ↦ λ k. cc ] h
across_flush None choice r cause files gone h =
    elim r.splits as (λ s. cond s (chosen_ruling choice r) (rulings.Go r.id) ≡ rulings.Flush cause files gone → all_paths r ≡ gone) [ true ↦ λ k. no_chosen_flush choice r cause files gone k | false ↦ λ k. cc ] h

flush_with : (direction : Direction) (h : StacksState) (locks : Holders) (by : ℕ) (p : Path) (choice : Choice) (cause : Cause) (files gone : List Path) (o : Option Record) → AreLinked h → closest direction h.records p ≡ o
    → option_map_or (ruling_of direction h.records locks by p choice) o rulings.Nothing ≡ rulings.Flush cause files gone → are_distinct gone ≡ true
flush_with direction h locks by p choice cause files gone None all is go = cc
flush_with direction h locks by p choice cause files gone (Some r) all is go =
    let are = parts_in h.records r all.parts (closest_stands direction h.records p r is).among in
    elim (nat_le 2 (length r.parts)) as (λ b. cond b (across_ruling (blocked direction h.records locks by r) (choice_for direction choice) r) (one_ruling locks by p r) ≡ rulings.Flush cause files gone → are_distinct gone ≡ true) [
      | true ↦ λ k. subst (λ ps. are_distinct ps ≡ true) (across_flush (blocked direction h.records locks by r) (choice_for direction choice) r cause files gone k) (parts_distinct r.parts are.rise)
      | false ↦ λ k. subst (λ ps. are_distinct ps ≡ true) (one_flush locks by p r cause files gone k) refl
    ] go

pub flushes_may : FlushesMayCome
flushes_may direction h locks by p choice cause files gone all go = closes_may h gone (flush_with direction h locks by p choice cause files gone (closest direction h.records p) all refl go)
