-- Numbers stay within their bounds along the effects of a move, a report and a forgetting.
use Rattle.std.proofs.Common.{◌≡◌, ℕ, ◌+◌, ◌-◌, ◌*◌, ◌^◌, ◌≤◌, Bool, true, false, cond, not, ◌&&◌, List, [], ◌∷◌, ◌++◌, map, Some, refl, ap, ◌∙◌, arith}
use Rattle.std.specs.Prelude.{nat_le}
use Rattle.std.specs.List.{list_any, list_all}
use Rattle.std.specs.Option.{unwrap_or}
use Rattle.std.specs.FinMap.{find as find_key}
use Rattle.std.specs.FinMap.Entries.{find-put}
use Rattle.std.specs.Ordering.{eq_by_cmp}
use Rattle.std.proofs.lemmas.Bool.{and_from, or_parts, le-leb, leb-true, not-true}
use Rattle.wse_path.specs.Path.{Path}
use Rattle.wse_path.specs.Order.{path_cmp}
use Rattle.wse_path.specs.Versions.{Numbers, version_of, bumped, known}
use Rattle.wse_path.proofs.EntryLemmas.{and_parts}
use Rattle.wse_path.proofs.PathOrder.{total}
use Rattle.wse_element.specs.declared.state.PartState.TheVariants.{Closed}
use Rattle.wse_element.specs.declared.effect.Effect.{Effect}
use Rattle.wse_element.specs.declared.effect.Effect.TheVariants.{Drop, Bump}
use Rattle.wse_element.specs.State.{StacksState}
use Rattle.wse_element.specs.Effects.{after, ids_taken, records_after, versions_after_each}
use Rattle.wse_element.specs.Weight.{weight}
use Rattle.wse_element.specs.Numbers.{is_bounded, are_versions_bounded, is_known_bounded}
use Rattle.wse_element.specs.Applicable.{may_bump, may_come}
use Rattle.wse_element.specs.Laws.{AllApply, BringsNone}
use Rattle.wse_element.proofs.ListLemmas.{list_all_weaker}
use Rattle.wse_element.proofs.NumberLemmas.{no_more, less_than, Bounded, bounded_from, all_put, version_low, known_put}
use Rattle.wse_element.proofs.FallLemmas.{numbers_fall}
use Rattle.wse_history.specs.Outcome.{bump_each}
use Rattle.wse_history.proofs.Words.{are_distinct, AllMayCome}

-- ---- an effect without a new id

one_at_least : (a b : ℕ) → 1 ≤ a → 1 ≤ a + b
one_at_least a b h = omega (arith, h)

none_more : (a b taken : ℕ) → taken ≡ 0 → a ≤ b → a + taken ≤ b
none_more a b taken none h = omega (arith, none, h)

pub bounded_still : (h : StacksState) (e : Effect) → BringsNone e → ids_taken h.records e ≡ 0 → Bounded h → Bounded (after h e)
bounded_still h e brings none b = record {
  serial = b.serial;
  some = one_at_least h.next_id (ids_taken h.records e) b.some;
  ids = none_more h.next_id (1 + h.serial * 2 ^ 32) (ids_taken h.records e) none b.ids;
  weight = less_than (weight (records_after h.records e)) (weight h.records) (2 ^ 29) (numbers_fall.falls h.records e brings) b.weight;
}

known_rises : (versions : Numbers) (paths : List Path) → known versions ≤ known (versions_after_each versions (bump_each paths))
known_rises versions [] = no_more (known versions)
known_rises versions (p ∷ paths) =
    less_than (known versions) (known (bumped versions p 1)) (known (versions_after_each (bumped versions p 1) (bump_each paths)))
    (known_put p (version_of versions p + 1) versions) (known_rises (bumped versions p 1) paths)

-- ---- drops apply

pub record VersionsFit (serial : ℕ) (versions : Numbers) : Type 0 where
  pub bounded : are_versions_bounded serial versions ≡ true
  pub known : is_known_bounded versions ≡ true

pub apply_drops : (serial : ℕ) (h : StacksState) (versions : Numbers) (before : List Effect) (ps : List Path) → VersionsFit serial versions → Bounded h → AllMayCome h (map (λ p. Drop p Closed) ps) → AllApply serial h versions before (map (λ p. Drop p Closed) ps)
apply_drops serial h versions before [] kept room may = tt
apply_drops serial h versions before (p ∷ ps) kept room may =
    let next = bounded_still h (Drop p Closed) tt refl room in (
      refl,
      and_from (may_come h (Drop p Closed)) (is_bounded (after h (Drop p Closed))) may.0 (bounded_from (after h (Drop p Closed)) next),
      and_from (are_versions_bounded serial versions) (is_known_bounded versions) kept.bounded kept.known,
      apply_drops serial (after h (Drop p Closed)) versions (before ++ Drop p Closed ∷ []) ps kept next may.1,
    )

-- ---- bumps apply

abbrev pub rise_within : ℕ → Numbers → List Path → Bool
rise_within most versions paths = list_all (λ p. nat_le (version_of versions p + 1) most) paths

version_elsewhere : (versions : Numbers) (p q : Path) → eq_by_cmp path_cmp q p ≡ false → version_of (bumped versions p 1) q ≡ version_of versions q
version_elsewhere versions p q other =
    ap (λ o. unwrap_or o 0) (find-put path_cmp total q p (version_of versions p + 1) versions ∙ ap (λ b. cond b (Some (version_of versions p + 1)) (find_key path_cmp q versions)) other)

pub rise_elsewhere : (most : ℕ) (versions : Numbers) (p : Path) (paths : List Path) → list_any (λ q. eq_by_cmp path_cmp q p) paths ≡ false → rise_within most versions paths ≡ true → rise_within most (bumped versions p 1) paths ≡ true
rise_elsewhere most versions p [] other all = refl
rise_elsewhere most versions p (q ∷ paths) other all =
    let o = or_parts (eq_by_cmp path_cmp q p) (list_any (λ x. eq_by_cmp path_cmp x p) paths) other in
    let a = and_parts (nat_le (version_of versions q + 1) most) (rise_within most versions paths) all in
    and_from (nat_le (version_of (bumped versions p 1) q + 1) most) (rise_within most (bumped versions p 1) paths)
    (ap (λ n. nat_le (n + 1) most) (version_elsewhere versions p q o.0) ∙ a.0) (rise_elsewhere most versions p paths o.1 a.1)

integer : (n serial : ℕ) → n ≤ 2 * serial + 1 → serial ≤ 2 ^ 30 - 1 → n ≤ 2 ^ 31 - 1
integer n serial h k = omega arith

pub apply_bumps : (serial : ℕ) (h : StacksState) (versions : Numbers) (before : List Effect) (paths : List Path) → serial ≤ 2 ^ 30 - 1 → Bounded h → are_versions_bounded serial versions ≡ true → are_distinct paths ≡ true
    → rise_within (2 * serial + 1) versions paths ≡ true → is_known_bounded (versions_after_each versions (bump_each paths)) ≡ true → AllApply serial h versions before (bump_each paths)
apply_bumps serial h versions before [] small room bounded distinct rise end = tt
apply_bumps serial h versions before (p ∷ paths) small room bounded distinct rise end =
    let most = 2 * serial + 1 in
    let next = bounded_still h (Bump p 1) tt refl room in
    let new = bumped versions p 1 in
    let d = and_parts (not (list_any (λ q. eq_by_cmp path_cmp q p) paths)) (are_distinct paths) distinct in
    let r = and_parts (nat_le (version_of versions p + 1) most) (rise_within most versions paths) rise in
    let now : are_versions_bounded serial new ≡ true = all_put (λ n. nat_le n most) p (version_of versions p + 1) versions r.0 bounded in
    let known_now : is_known_bounded new ≡ true = le-leb (known new) (2 ^ 29) (less_than (known new) (known (versions_after_each new (bump_each paths))) (2 ^ 29) (known_rises new paths) (leb-true (known (versions_after_each new (bump_each paths))) (2 ^ 29) end)) in
    let small_now : may_bump versions (Bump p 1) ≡ true = le-leb (version_of versions p + 1) (2 ^ 31 - 1) (integer (version_of versions p + 1) serial (leb-true (version_of versions p + 1) most r.0) small) in (
      refl,
      bounded_from (after h (Bump p 1)) next,
      and_from (may_bump versions (Bump p 1) && are_versions_bounded serial new) (is_known_bounded new) (and_from (may_bump versions (Bump p 1)) (are_versions_bounded serial new) small_now now) known_now,
      apply_bumps serial (after h (Bump p 1)) new (before ++ Bump p 1 ∷ []) paths small next now d.1 (rise_elsewhere most versions p paths (not-true (list_any (λ q. eq_by_cmp path_cmp q p) paths) d.0) r.1) end,
    )

two_more : (n s : ℕ) → n ≤ 2 * s + 1 → n + 1 ≤ 2 * (s + 1) + 1
two_more n s h = omega arith

-- each version may rise by one with the next command
pub rises_all : (serial : ℕ) (versions : Numbers) (paths : List Path) → are_versions_bounded serial versions ≡ true → rise_within (2 * (serial + 1) + 1) versions paths ≡ true
rises_all serial versions [] bounded = refl
rises_all serial versions (p ∷ paths) bounded =
    and_from (nat_le (version_of versions p + 1) (2 * (serial + 1) + 1)) (rise_within (2 * (serial + 1) + 1) versions paths)
    (le-leb (version_of versions p + 1) (2 * (serial + 1) + 1) (two_more (version_of versions p) serial (version_low (2 * serial + 1) versions p bounded))) (rises_all serial versions paths bounded)

more_serial : (n s : ℕ) → n ≤ 2 * s + 1 → n ≤ 2 * (s + 1) + 1
more_serial n s h = omega arith

pub versions_begun : (serial : ℕ) (versions : Numbers) → are_versions_bounded serial versions ≡ true → are_versions_bounded (serial + 1) versions ≡ true
versions_begun serial versions bounded =
    list_all_weaker (λ e. nat_le e.1 (2 * serial + 1)) (λ e. nat_le e.1 (2 * (serial + 1) + 1)) (λ e h. le-leb e.1 (2 * (serial + 1) + 1) (more_serial e.1 serial (leb-true e.1 (2 * serial + 1) h))) versions bounded
