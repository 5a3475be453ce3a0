-- Taking a tree as it is: the effects may come, they are short, and they leave a linked state.
use Rattle.std.proofs.Common.{◌≡◌, ◌≢◌, inl, ⊎_elim, ℕ, zero, suc, ◌+◌, ◌-◌, ◌*◌, ◌^◌, ◌<◌, ◌≤◌, Bool, true, false, cond, not, ◌&&◌, ◌||◌, List, [], ◌∷◌, ◌++◌, map, length, take, get_or, Option, Some, None, min, sum_by, refl, sym, ap, subst, ◌∙◌, arith}
use Rattle.std.specs.Prelude.{nat_le}
use Rattle.std.specs.List.{All, list_any, list_all, AllByRecursion, flat_map}
use Rattle.std.specs.Int.{w32, to_be_bytes}
use Rattle.std.specs.Option.{option_or, option_map_or}
use Rattle.std.specs.Ordering.{eq_by_cmp, is_lt, is_eq}
use Rattle.std.specs.FinMap.{is_sorted}
use Rattle.std.specs.FinMap.Entries.{below_all}
use Rattle.std.proofs.lemmas.Bool.{and_from, or_parts, or_from, not-true, le-leb, leb-true, true≢false}
use Rattle.std.proofs.lemmas.Grind.{flat_map-append}
use Rattle.std.proofs.lemmas.List.{length-append, take_more}
use Rattle.std.proofs.lemmas.List.Elements.{All-nil, All-cons, All-head, All-tail, All-append}
use Rattle.std.proofs.lemmas.List.Sums.{sum_by-cons}
use Rattle.wse_path.specs.Path.{Path, text_of}
use Rattle.wse_path.specs.Order.{path_cmp, is_named}
use Rattle.wse_path.specs.Tree.{Entries, IsTree}
use Rattle.wse_path.specs.Changes.{changes_between, LeadToTree}
use Rattle.wse_disk.specs.declared.area.Area.{Area}
use Rattle.wse_disk.specs.Standing.{Standing}
use Rattle.wse_disk.specs.Told.{IsTold}
use Rattle.wse_disk.specs.Changes.{LeadsToTree}
use Rattle.wse_txn.specs.Command.{IsAt}
use Rattle.wse_txn.proofs.TwoStates.{ready}
use Rattle.wse_path.specs.Limits.{standard}
use Rattle.wse_path.specs.Versions.{Numbers, VersionsState, version_of, bumped, known}
use Rattle.wse_path.specs.declared.change.Change.{Change}
use Rattle.wse_path.specs.declared.change.Numbered.{Numbered}
use Rattle.wse_path.specs.declared.limits.Limits.{Limits}
use Rattle.wse_path.specs.declared.limits.Hit.{Hit}
use Rattle.wse_path.specs.declared.limits.Which.TheVariants.{Known, Serial}
use Rattle.wse_path.proofs.EntryLemmas.{and_parts, less_so}
use Rattle.wse_path.proofs.TreeLemmas.{tied_itself}
use Rattle.wse_path.proofs.GatheredLemmas.{no_changes}
use Rattle.wse_apply.specs.Limit.{are_within, hit_above}
use Rattle.wse_element.specs.declared.effect.Effect.{Effect}
use Rattle.wse_element.specs.declared.effect.Effect.TheVariants.{Invalidate, Bump}
use Rattle.wse_element.specs.declared.plan.Plan.{Plan}
use Rattle.wse_element.specs.Record.{Record, RecordPart}
use Rattle.wse_element.specs.Live.{live_part, is_valid_at}
use Rattle.wse_element.specs.Stacks.{past, future}
use Rattle.wse_element.specs.Losses.{invalid_at, invalidated}
use Rattle.wse_element.specs.Linked.{IsLinked, IsTreeLinkedAt, IsStateLinked}
use Rattle.wse_element.specs.Numbers.{is_bounded, are_versions_bounded, is_known_bounded}
use Rattle.wse_element.specs.State.{StacksState, Kept, State, stacks_of, kept_of}
use Rattle.wse_element.specs.Effects.{after, after_each, begun, files_after_each, versions_after_each, kept_after, state_after}
use Rattle.wse_element.specs.Applicable.{may_bump, may_come, first_refused_of_kept}
use Rattle.wse_element.specs.Laws.{AllApply}
use Rattle.wse_element.proofs.CloseLemmas.{linked_where_invalid, none_valid_there, tree_alike, zip_map}
use Rattle.wse_element.proofs.LinkedLemmas.{by_paths}
use Rattle.wse_element.proofs.ListLemmas.{list_all_weaker}
use Rattle.wse_element.proofs.LiveLemmas.{live_part-invalid_at_other}
use Rattle.wse_element.proofs.PastLemmas.{past_invalidated, future_invalidated}
use Rattle.wse_element.proofs.NumberLemmas.{no_more, less_than, Bounded, bounded_parts, bounded_from, all_put, known_put}
use Rattle.wse_element.proofs.FoldLemmas.{none_refused}
use Rattle.wse_codec.specs.Allowed.{IsAllowedPath, IsAllowedEffect, IsAllowedRecord, IsSpellable, IsSpellableEffect}
use Rattle.wse_codec.specs.Comes.{MayCome}
use Rattle.wse_codec.specs.Spelling.{path_bytes, effect_bytes, record_bytes}
use Rattle.wse_stacks.specs.Paths.{keyed}
use Rattle.wse_stacks.specs.Stacks.{StacksNow}
use Rattle.wse_history.specs.Done.{pairs_of, ones, raised, with_versions, new_known}
use Rattle.wse_history.specs.Planning.{bumps_in}
use Rattle.wse_history.proofs.EditLemmas.{few_serial, more_ids}
use Rattle.wse_history.proofs.BumpLemmas.{bumps}
use Rattle.wse_history.proofs.CountLemmas.{counts, total, total_within}
use Rattle.wse_history.proofs.Edited.{AreOnce}
use Rattle.wse_history.proofs.FitLemmas.{bounded_still, rise_within, rise_elsewhere, rises_all, versions_begun}
use Rattle.wse_history.proofs.FlushLemmas.{unequal_back}
use Rattle.wse_history.proofs.KnownLemmas.{known_more}
use Rattle.wse_history.proofs.RaisedLemmas.{raised_sorted}
use Rattle.wse_history.proofs.RisenLemmas.{versions_risen}
use Rattle.wse_history.proofs.ShapeLemmas.{none_is_zero, few_known}
use Rattle.wse_history.proofs.SpellingLemmas.{path_short, record_short}
use Rattle.wse_history.proofs.Words.{are_distinct}
use Rattle.wse_recover.specs.Adopting.{adopting, adopting_hit}
use Rattle.wse_recover.specs.Opening.{state_over}
use Rattle.wse_recover.specs.Differing.{differs, AreDiffering}
use Rattle.wse_recover.specs.Held.{held, AreNumbersBounded}
use Rattle.wse_recover.proofs.ComparingLemmas.{as_recorded, some_all, serial_adopted}

-- ---- rising paths stand once

below_none : (p : Path) (ps : List Path) → below_all path_cmp p (keyed ps) ≡ true → list_any (λ q. eq_by_cmp path_cmp q p) ps ≡ false
below_none p [] h = refl
below_none p (q ∷ ps) h =
    let both = and_parts (is_lt (path_cmp p q)) (below_all path_cmp p (keyed ps)) h in
    or_from (eq_by_cmp path_cmp q p) (list_any (λ x. eq_by_cmp path_cmp x p) ps) (unequal_back p q (ap is_eq (less_so (path_cmp p q) both.0))) (below_none p ps both.1)

distinct_sorted : (ps : List Path) → is_sorted path_cmp (keyed ps) ≡ true → are_distinct ps ≡ true
distinct_sorted [] h = refl
distinct_sorted (p ∷ ps) h =
    let both = and_parts (below_all path_cmp p (keyed ps)) (is_sorted path_cmp (keyed ps)) h in
    and_from (not (list_any (λ q. eq_by_cmp path_cmp q p) ps)) (are_distinct ps) (ap not (below_none p ps both.0)) (distinct_sorted ps both.1)

once_sorted : (ps : List Path) → is_sorted path_cmp (keyed ps) ≡ true → AreOnce (map (λ b. b.path) (ones ps))
once_sorted [] h = tt
once_sorted (p ∷ ps) h =
    let both = and_parts (below_all path_cmp p (keyed ps)) (is_sorted path_cmp (keyed ps)) h in
    (ap (list_any (λ q. eq_by_cmp path_cmp q p)) (paths_of_ones ps) ∙ below_none p ps both.0, once_sorted ps both.1)
  where
    paths_of_ones : (ps : List Path) → map (λ (b : Numbered). b.path) (ones ps) ≡ ps
    paths_of_ones [] = refl
    paths_of_ones (p ∷ ps) = ap (λ qs. p ∷ qs) (paths_of_ones ps)

below_ones : (p : Path) (ps : List Path) → below_all path_cmp p (pairs_of (ones ps)) ≡ below_all path_cmp p (keyed ps)
below_ones p [] = refl
below_ones p (q ∷ ps) = ap (λ b. is_lt (path_cmp p q) && b) (below_ones p ps)

ones_sorted : (ps : List Path) → is_sorted path_cmp (pairs_of (ones ps)) ≡ is_sorted path_cmp (keyed ps)
ones_sorted [] = refl
ones_sorted (p ∷ ps) = λ i. below_ones p ps i && ones_sorted ps i

-- ---- versions and what is known

bumps_of_adopting : (ps : List Path) → bumps_in (adopting ps) ≡ pairs_of (ones ps)
bumps_of_adopting [] = refl
bumps_of_adopting (p ∷ ps) = ap (λ bs. (p, 1) ∷ bs) (bumps_of_adopting ps)

abbrev bare : Numbers → State
bare vs = record { files = []; versions = vs; records = []; next_id = 0; serial = 0; locks = [] }

versions_adopted : (vs : Numbers) (ps : List Path) → is_sorted path_cmp (keyed ps) ≡ true → versions_after_each vs (adopting ps) ≡ with_versions (raised vs (ones ps)) vs
versions_adopted vs ps rise = versions_risen (bare vs) (adopting ps) ps (bumps_of_adopting ps) (ones_sorted ps ∙ rise)

each_adopted : (vs : Numbers) (ps : List Path) → versions_after_each vs (bumps (ones ps)) ≡ versions_after_each vs (adopting ps)
each_adopted vs [] = refl
each_adopted vs (p ∷ ps) = each_adopted (bumped vs p 1) ps

abbrev pub risen : Numbers → Path → Numbered
risen vs p = record { path = p; number = version_of vs p + 1 }

at_raised : (vs : Numbers) (ps : List Path) (i : ℕ) (p : Path) → p ≡ get_or ps i p → risen vs p ≡ get_or (raised vs (ones ps)) i (risen vs p)
at_raised vs [] i p e = refl
at_raised vs (q ∷ ps) zero p e = ap (risen vs) e
at_raised vs (q ∷ ps) (suc i) p e = at_raised vs ps i p e

as_many : (vs : Numbers) (ps : List Path) → length (raised vs (ones ps)) ≡ length ps
as_many vs [] = refl
as_many vs (p ∷ ps) = ap suc (as_many vs ps)

take_all : {X : Type 0} (n : ℕ) (xs : List X) → length xs ≤ n → take n xs ≡ xs
take_all zero [] l = refl
take_all (suc n) [] l = refl
take_all zero (x ∷ xs) l = absurd (omega (arith, l))
take_all (suc n) (x ∷ xs) l = ap (λ ys. x ∷ ys) (take_all n xs (omega (arith, l)))

-- So much is known once the first of the paths have their versions.
abbrev pub KnowsFirst : Numbers → List Path → (at : ℕ) → ℕ → Type 0
KnowsFirst vs ps at n = n ≡ known (with_versions (take at (raised vs (ones ps))) vs)

pub knows_more : (versions : VersionsState) (ps : List Path) (i n more : ℕ) (p : Path) → is_sorted path_cmp (keyed ps) ≡ true → i < length ps → p ≡ get_or ps i p → KnowsFirst versions.entries ps i n → more ≡ new_known versions.entries p
    → KnowsFirst versions.entries ps (i + 1) (min (n + more) (2 ^ 64 - 1))
knows_more versions ps i n more p rise l at is one =
    let vs = versions.entries in
    ap (λ m. min (n + m) (2 ^ 64 - 1)) one
    ∙ known_more vs (raised vs (ones ps)) (none_is_zero vs (some_all vs versions.some)) versions.rises (raised_sorted vs (ones ps) (ones_sorted ps ∙ rise)) i n (risen vs p)
    (less (length (raised vs (ones ps))) (length ps) i (as_many vs ps) l) (at_raised vs ps i p at) is
  where
    less : (a b i : ℕ) → a ≡ b → i < b → i < a
    less a b i e l = omega (arith, e, l)

pub knows_all : (vs : Numbers) (ps : List Path) (i n : ℕ) → is_sorted path_cmp (keyed ps) ≡ true → length ps ≤ i → KnowsFirst vs ps i n → n ≡ known (versions_after_each vs (adopting ps))
knows_all vs ps i n rise l is =
    is ∙ ap (λ xs. known (with_versions xs vs)) (take_all i (raised vs (ones ps)) (enough (length (raised vs (ones ps))) (length ps) i (as_many vs ps) l))
    ∙ ap known (sym (versions_adopted vs ps rise))
  where
    enough : (a b i : ℕ) → a ≡ b → b ≤ i → a ≤ i
    enough a b i e l = omega (arith, e, l)

known_rises : (vs : Numbers) (ps : List Path) → known vs ≤ known (versions_after_each vs (adopting ps))
known_rises vs [] = no_more (known vs)
known_rises vs (p ∷ ps) =
    less_than (known vs) (known (bumped vs p 1)) (known (versions_after_each (bumped vs p 1) (adopting ps)))
    (known_put p (version_of vs p + 1) vs) (known_rises (bumped vs p 1) ps)

-- ---- what the effects spell is short

two_more : (t a b k m : ℕ) → a ≤ t + 2 → b ≤ 2 * k → m ≡ 1 + a + (1 + a + 1) + b → m ≤ 2 * (32 + t + k)
two_more t a b k m g h e = omega (arith, g, h, e)

effects_short : (ps : List Path) → length (flat_map effect_bytes (adopting ps)) ≤ 2 * total (ones ps)
unfolding effect_bytes
effects_short [] = omega arith
effects_short (p ∷ ps) =
    let one = 6 ∷ path_bytes p in
    let two = 7 ∷ (path_bytes p ++ 1 ∷ []) in
    let rest = flat_map effect_bytes (adopting ps) in
    two_more (length (text_of p)) (length (path_bytes p)) (length rest) (total (ones ps)) (length (one ++ (two ++ rest))) (path_short p) (effects_short ps)
    (all (length one) (length two) (length (path_bytes p)) (length rest) (length (two ++ rest)) (length (one ++ (two ++ rest))) refl (ap suc (length-append (path_bytes p) (1 ∷ []))) (length-append two rest) (length-append one (two ++ rest)))
  where
    all : (a b p r x y : ℕ) → a ≡ suc p → b ≡ suc (p + 1) → x ≡ b + r → y ≡ a + x → y ≡ 1 + p + (1 + p + 1) + r
    all a b p r x y e f g h = omega (arith, e, f, g, h)

few_paths : (ps : List Path) → 32 * length ps ≤ total (ones ps)
few_paths [] = omega arith
few_paths (p ∷ ps) = omega (arith, few_paths ps)

uncapped : (n : ℕ) → min n (2 ^ 64 - 1) ≤ 2 ^ 29 → n ≤ 2 ^ 29
uncapped n h = omega (arith, h)

pub total_low : (vs : Numbers) (ps : List Path) → is_sorted path_cmp (keyed ps) ≡ true → known (versions_after_each vs (adopting ps)) ≤ 2 ^ 29 → total (ones ps) ≤ 2 ^ 29
total_low vs ps rise low =
    less_than (total (ones ps)) (sum_by counts (versions_after_each vs (bumps (ones ps)))) (2 ^ 29) (total_within vs (ones ps) (once_sorted ps rise))
    (uncapped (sum_by counts (versions_after_each vs (bumps (ones ps)))) (subst (λ (ns : Numbers). known ns ≤ 2 ^ 29) (sym (each_adopted vs ps)) low))

pub few_low : (ps : List Path) → total (ones ps) ≤ 2 ^ 29 → length ps ≤ 2 ^ 30
few_low ps low = omega (arith, low, few_paths ps)

short_from : (n a t : ℕ) → n ≡ 5 + a → a ≤ 2 * t → t ≤ 2 ^ 29 → n < 2 ^ 32
short_from n a t e g h = omega (arith, e, g, h)

adopting_some : (ps : List Path) → ps ≢ [] → adopting ps ≢ []
adopting_some [] some e = some refl
adopting_some (p ∷ ps) some e = cc

one_rise : (p : Path) → IsSpellableEffect (Bump p 1)
one_rise p = inl refl

spelled_each : (ps : List Path) → All IsSpellableEffect (adopting ps)
spelled_each [] = All-nil IsSpellableEffect
spelled_each (p ∷ ps) =
    All-cons IsSpellableEffect (Invalidate p) (Bump p 1 ∷ adopting ps) tt (All-cons IsSpellableEffect (Bump p 1) (adopting ps) (one_rise p) (spelled_each ps))

pub spellable : (ps : List Path) → ps ≢ [] → total (ones ps) ≤ 2 ^ 29 → IsSpellable (adopting ps)
spellable ps some low = record {
  some = adopting_some ps some;
  each = spelled_each ps;
  short = short_from (length (record_bytes (adopting ps))) (length (flat_map effect_bytes (adopting ps))) (total (ones ps)) (record_short (adopting ps)) (effects_short ps) low;
}

allowed_each : (ps : List Path) → All IsAllowedPath ps → All IsAllowedEffect (adopting ps)
allowed_each [] all = All-nil IsAllowedEffect
allowed_each (p ∷ ps) all =
    let here = All-head IsAllowedPath p ps all in
    All-cons IsAllowedEffect (Invalidate p) (Bump p 1 ∷ adopting ps) here
    (All-cons IsAllowedEffect (Bump p 1) (adopting ps) (here, inl refl) (allowed_each ps (All-tail IsAllowedPath p ps all)))

twice : (ps : List Path) → length (adopting ps) ≡ 2 * length ps
twice [] = refl
twice (p ∷ ps) = let rest = twice ps in omega (arith, rest)

pub allowed_record : (ps : List Path) → ps ≢ [] → length ps ≤ 2 ^ 30 → All IsAllowedPath ps → IsAllowedRecord (adopting ps)
allowed_record ps some few all = record {
  some = adopting_some ps some;
  count = let two = twice ps in omega (arith, two, few);
  each = allowed_each ps all;
}

-- ---- the effects apply

abbrev among : Path → List Path → Bool
among p ps = is_named ps p

valid_alike : (p q : Path) (records : List Record) → eq_by_cmp path_cmp p q ≡ false → list_any (is_valid_at p) (invalidated records q) ≡ list_any (is_valid_at p) records
valid_alike p q [] other = refl
valid_alike p q (r ∷ records) other = λ i.
    option_map_or (λ (part : RecordPart). part.valid) (live_part-invalid_at_other p q r other i) false || valid_alike p q records other i

abbrev AreValid : List Record → List Path → Type 0
AreValid records ps = list_all (λ p. list_any (is_valid_at p) records) ps ≡ true

valid_elsewhere : (records : List Record) (q : Path) (ps : List Path) → list_any (λ p. eq_by_cmp path_cmp p q) ps ≡ false → AreValid records ps → AreValid (invalidated records q) ps
valid_elsewhere records q [] other all = refl
valid_elsewhere records q (p ∷ ps) other all =
    let o = or_parts (eq_by_cmp path_cmp p q) (list_any (λ x. eq_by_cmp path_cmp x q) ps) other in
    let a = and_parts (list_any (is_valid_at p) records) (list_all (λ x. list_any (is_valid_at x) records) ps) all in
    and_from (list_any (is_valid_at p) (invalidated records q)) (list_all (λ x. list_any (is_valid_at x) (invalidated records q)) ps)
    (valid_alike p q records o.0 ∙ a.0) (valid_elsewhere records q ps o.1 a.1)

integer : (n serial : ℕ) → n ≤ 2 * serial + 1 → serial ≤ 2 ^ 30 - 1 → n ≤ 2 ^ 31 - 1
integer n serial h k = omega arith

apply_adopting : (serial : ℕ) (h : StacksState) (versions : Numbers) (before : List Effect) (ps : List Path) → serial ≤ 2 ^ 30 - 1 → Bounded h → are_versions_bounded serial versions ≡ true → are_distinct ps ≡ true
    → rise_within (2 * serial + 1) versions ps ≡ true → known (versions_after_each versions (adopting ps)) ≤ 2 ^ 29 → AreValid h.records ps → AllApply serial h versions before (adopting ps)
apply_adopting serial h versions before [] small room bounded distinct rise end valid = tt
apply_adopting serial h versions before (p ∷ ps) small room bounded distinct rise end valid =
    let most = 2 * serial + 1 in
    let first = after h (Invalidate p) in
    let room_first = bounded_still h (Invalidate p) tt refl room in
    let room_then = bounded_still first (Bump p 1) tt refl room_first in
    let new = bumped versions p 1 in
    let d = and_parts (not (list_any (λ q. eq_by_cmp path_cmp q p) ps)) (are_distinct ps) distinct in
    let apart = not-true (list_any (λ q. eq_by_cmp path_cmp q p) ps) d.0 in
    let r = and_parts (nat_le (version_of versions p + 1) most) (rise_within most versions ps) rise in
    let v = and_parts (list_any (is_valid_at p) h.records) (list_all (λ x. list_any (is_valid_at x) h.records) ps) valid in
    let low_new = less_than (known new) (known (versions_after_each new (adopting ps))) (2 ^ 29) (known_rises new ps) end in
    let low_old = less_than (known versions) (known new) (2 ^ 29) (known_put p (version_of versions p + 1) versions) low_new in
    let known_old : is_known_bounded versions ≡ true = le-leb (known versions) (2 ^ 29) low_old in
    let known_new : is_known_bounded new ≡ true = le-leb (known new) (2 ^ 29) low_new in
    let bounded_new : are_versions_bounded serial new ≡ true = all_put (λ n. nat_le n most) p (version_of versions p + 1) versions r.0 bounded in
    let small_new : may_bump versions (Bump p 1) ≡ true = le-leb (version_of versions p + 1) (2 ^ 31 - 1) (integer (version_of versions p + 1) serial (leb-true (version_of versions p + 1) most r.0) small) in (
      refl,
      and_from (may_come h (Invalidate p)) (is_bounded first) v.0 (bounded_from first room_first),
      and_from (are_versions_bounded serial versions) (is_known_bounded versions) bounded known_old,
      (
        refl,
        bounded_from (after first (Bump p 1)) room_then,
        and_from (may_bump versions (Bump p 1) && are_versions_bounded serial new) (is_known_bounded new) (and_from (may_bump versions (Bump p 1)) (are_versions_bounded serial new) small_new bounded_new) known_new,
        apply_adopting serial (after first (Bump p 1)) new ((before ++ Invalidate p ∷ []) ++ Bump p 1 ∷ []) ps small room_then bounded_new d.1 (rise_elsewhere most versions p ps apart r.1) end
            (valid_elsewhere h.records p ps apart v.1),
      ),
    )

-- ---- the tree is linked then

tree_invalidated : (files : Entries) (records : List Record) (q p : Path) → IsTreeLinkedAt files records p → IsTreeLinkedAt files (invalidated records q) p
tree_invalidated files records q p linked =
    by_paths p q (λ x. IsTreeLinkedAt files records x → IsTreeLinkedAt files (invalidated records q) x)
    (λ _. linked_where_invalid files (invalidated records q) q (none_valid_there q records))
    (λ other is. tree_alike files files records (invalidated records q) p refl
    (zip_map p (invalid_at q) (λ r. live_part-invalid_at_other p q r other) (past records p) (past (invalidated records q) p) (past_invalidated records q p))
    (zip_map p (invalid_at q) (λ r. live_part-invalid_at_other p q r other) (future records p) (future (invalidated records q) p) (future_invalidated records q p)) is)
    linked

adopted_tree : (files : Entries) (h : StacksState) (ps : List Path) (p : Path) → (among p ps ≡ false → IsTreeLinkedAt files h.records p) → IsTreeLinkedAt files (after_each h (adopting ps)).records p
adopted_tree files h [] p linked = linked refl
adopted_tree files h (q ∷ ps) p linked =
    adopted_tree files (after (after h (Invalidate q)) (Bump q 1)) ps p
    (λ none. by_paths p q (λ x. IsTreeLinkedAt files (invalidated h.records q) x)
    (linked_where_invalid files (invalidated h.records q) q (none_valid_there q h.records))
    (λ other. tree_invalidated files h.records q p (linked (or_from (eq_by_cmp path_cmp p q) (among p ps) other none))))

adopted_files : (h : StacksState) (ps : List Path) (files : Entries) → files_after_each h (adopting ps) files ≡ files
adopted_files h [] files = refl
adopted_files h (p ∷ ps) files = adopted_files (after (after h (Invalidate p)) (Bump p 1)) ps files

-- ---- where the tree differs something is valid

differs_valid : (files : Entries) (records : List Record) (p : Path) → differs files records p ≡ true → list_any (is_valid_at p) records ≡ true
differs_valid files records p h =
    elim (list_any (is_valid_at p) records) as (λ b. list_any (is_valid_at p) records ≡ b → b ≡ true) [
      | true ↦ λ _. refl
      | false ↦ λ e.
          let linked = linked_where_invalid files records p e in
          absurd (true≢false (sym h ∙ ap not (and_from _ _ linked.past linked.future)))
    ] refl

named_first : (p : Path) (ps : List Path) → is_named (p ∷ ps) p ≡ true
named_first p ps = ap (λ b. b || is_named ps p) (tied_itself p)

all_differ : (test : Path → Bool) (all ps : List Path) → ((q : Path) → is_named ps q ≡ true → is_named all q ≡ true) → ((q : Path) → is_named all q ≡ test q) → list_all test ps ≡ true
all_differ test all [] inside each = refl
all_differ test all (p ∷ ps) inside each =
    and_from (test p) (list_all test ps) (sym (each p) ∙ inside p (named_first p ps))
    (all_differ test all ps (λ q h. inside q (or_so (eq_by_cmp path_cmp q p) (is_named ps q) h)) each)
  where
    or_so : (a b : Bool) → b ≡ true → (a || b) ≡ true
    or_so true b h = refl
    or_so false b h = h

are_valid : (files : Entries) (records : List Record) (ps : List Path) → AreDiffering files records ps → AreValid records ps
are_valid files records ps are =
    list_all_weaker (differs files records) (λ p. list_any (is_valid_at p) records) (differs_valid files records) ps (all_differ (differs files records) ps ps (λ q h. h) are.each)

none_first : (a b : Option Hit) → option_or a b ≡ None → a ≡ None
none_first None b h = refl
none_first (Some x) b h = cc

none_second : (a b : Option Hit) → option_or a b ≡ None → b ≡ None
none_second None b h = h
none_second (Some x) b h = cc

-- ---- the whole

module _ (limits : Limits) (stacks : StacksNow) (versions : VersionsState) (files : Entries) (ps : List Path) (within : are_within limits standard ≡ true) (bounded : is_bounded stacks.state ≡ true)
    (numbers : AreNumbersBounded (held stacks versions)) (tree : IsTree files) (are : AreDiffering files stacks.state.records ps) (some : ps ≢ []) where
  abbrev before : State
  before = state_over (held stacks versions) files

  abbrev next : State
  next = state_after before (adopting ps)

  pub serial_next : next.serial ≡ stacks.state.serial + 1
  serial_next = serial_adopted (begun stacks.state) ps

  pub hit_is : (n m : ℕ) → n ≡ known next.versions → m ≡ stacks.state.serial → option_or (hit_above Known limits.known n) (hit_above Serial limits.serial (m + 1)) ≡ adopting_hit limits next
  hit_is n m e f =
      ap (λ k. option_or (hit_above Known limits.known k) (hit_above Serial limits.serial (m + 1))) e
      ∙ ap (λ k. option_or (hit_above Known limits.known (known next.versions)) (hit_above Serial limits.serial k)) (ap (λ x. x + 1) f ∙ sym serial_next)

  -- What is held after the effects is the state after them.
  pub state_is : (new_stacks : StacksNow) (new_versions : VersionsState) → held new_stacks new_versions ≡ kept_after (held stacks versions) (adopting ps) → state_over (held new_stacks new_versions) files ≡ next
  state_is new_stacks new_versions same =
      ap (λ (k : Kept). state_over k files) same ∙ ap (λ (f : Entries). record next { files = f }) (sym (adopted_files stacks.state ps files))

  module _ (passes : adopting_hit limits next ≡ None) where
    low : known next.versions ≤ 2 ^ 29
    low = few_known limits next within (none_first (hit_above Known limits.known (known next.versions)) (hit_above Serial limits.serial next.serial) passes)

    small : stacks.state.serial + 1 ≤ 2 ^ 30 - 1
    small = subst (λ n. n ≤ 2 ^ 30 - 1) serial_next (few_serial limits next within (none_second (hit_above Known limits.known (known next.versions)) (hit_above Serial limits.serial next.serial) passes))

    pub total_is_low : total (ones ps) ≤ 2 ^ 29
    total_is_low = total_low versions.entries ps are.rise low

    room : Bounded (begun stacks.state)
    room = let old = bounded_parts stacks.state bounded in record { serial = small; some = old.some; ids = more_ids stacks.state.next_id stacks.state.serial old.ids; weight = old.weight }

    pub applicable : first_refused_of_kept (held stacks versions) (adopting ps) ≡ None
    applicable =
        none_refused.refused (held stacks versions) (adopting ps)
        (apply_adopting (stacks.state.serial + 1) (begun stacks.state) versions.entries [] ps small room (versions_begun stacks.state.serial versions.entries numbers.versions)
        (distinct_sorted ps are.rise) (rises_all stacks.state.serial versions.entries ps numbers.versions) low (are_valid files stacks.state.records ps are))

    pub files_next : next.files ≡ files
    files_next = adopted_files stacks.state ps files

    pub comes : (plan : Plan) → plan.effects ≡ adopting ps → plan.changes ≡ [] → IsAllowedRecord (adopting ps) → MayCome before plan
    comes plan effects none allowed =
        subst (λ (es : List Effect). MayCome before (record { effects = es; changes = plan.changes })) (sym effects)
        (subst (λ (cs : List Change). MayCome before (record { effects = adopting ps; changes = cs })) (sym none)
        (record {
          some = allowed;
          applicable = applicable;
          old_tree = tree;
          new_tree = subst IsTree (sym files_next) tree;
          changes = sym (ap (changes_between files) files_next ∙ no_changes files);
        }))

    pub each_next : (p : Path) → IsTreeLinkedAt files next.records p
    each_next p = adopted_tree files (begun stacks.state) ps p (λ none. as_recorded files stacks.state.records p (sym (are.each p) ∙ none))

pub leads_nowhere : (told : Option Standing) (area : Area) (gate : ℕ) (s : State) (changes : List Change) → changes ≡ [] → IsTree s.files → (IsTold told → IsAt s area gate told) → LeadsToTree told changes
leads_nowhere None area gate s changes none tree at = tt
leads_nowhere (Some t) area gate s changes none tree at =
    let is = at tt in
    let same = (ready s is.records gate t.reading is.stands is.journal).files in
    let there = subst IsTree same tree in
    subst (LeadToTree t.reading.files) (sym none) (record { old = there; new = t.reading.files; tree = there; between = sym (no_changes t.reading.files) })

-- ---- the effects are made one path after another

taken : (ps : List Path) (i : ℕ) (p : Path) → i < length ps → p ≡ get_or ps i p → take (i + 1) ps ≡ take i ps ++ p ∷ []
taken ps i p l at = take_more ps i p l ∙ ap (λ q. take i ps ++ q ∷ []) (sym at)

pub effects_more : (ps : List Path) (i : ℕ) (p : Path) (old new : List Effect) → i < length ps → p ≡ get_or ps i p → old ≡ adopting (take i ps) → new ≡ old ++ (Invalidate p ∷ Bump p 1 ∷ []) → new ≡ adopting (take (i + 1) ps)
effects_more ps i p old new l at is more =
    more ∙ ap (λ es. es ++ (Invalidate p ∷ Bump p 1 ∷ [])) is
    ∙ sym (flat_map-append (λ q. Invalidate q ∷ Bump q 1 ∷ []) (take i ps) (p ∷ []))
    ∙ ap adopting (sym (taken ps i p l at))

pub allowed_more : (ps : List Path) (i : ℕ) (p : Path) → i < length ps → p ≡ get_or ps i p → All IsAllowedPath (take i ps) → IsAllowedPath p → All IsAllowedPath (take (i + 1) ps)
allowed_more ps i p l at all one =
    subst (All IsAllowedPath) (sym (taken ps i p l at)) (All-append IsAllowedPath (take i ps) (p ∷ []) all (All-cons IsAllowedPath p [] one (All-nil IsAllowedPath)))
