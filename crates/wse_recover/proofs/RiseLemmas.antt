-- Versions that rise within their bounds.
use Rattle.std.proofs.Common.{◌≡◌, ℕ, suc, ◌+◌, ◌*◌, ◌<◌, ◌≤◌, Bool, true, false, ◌&&◌, List, [], ◌∷◌, ◌++◌, length, take, drop, get_or, drop-cons, refl, sym, ap, ◌∙◌, arith}
use Rattle.std.specs.Prelude.{nat_le}
use Rattle.std.specs.List.{list_all}
use Rattle.std.specs.FinMap.{put}
use Rattle.std.specs.FinMap.Entries.{by_order}
use Rattle.std.specs.declared.cmp.Ordering.TheVariants.{Less, Equal, Greater}
use Rattle.std.proofs.lemmas.Bool.{le-leb, leb-true}
use Rattle.std.proofs.lemmas.List.{take_more}
use Rattle.wse_path.specs.Path.{Path}
use Rattle.wse_path.specs.Order.{path_cmp}
use Rattle.wse_path.specs.Versions.{Numbers, version_of, bumped}
use Rattle.wse_path.proofs.EntryLemmas.{and_parts}
use Rattle.wse_element.specs.declared.effect.Effect.{Effect}
use Rattle.wse_element.specs.declared.effect.Effect.TheVariants.{Bump}
use Rattle.wse_element.specs.State.{StacksState}
use Rattle.wse_element.specs.Effects.{after, after_each, versions_after, versions_after_each}
use Rattle.wse_element.specs.Numbers.{are_versions_bounded, is_known_bounded}
use Rattle.wse_element.specs.Applicable.{may_bump, keeps_versions}
use Rattle.wse_recover.specs.Keeps.{may_rise}

and_true : (b : Bool) → (b && true) ≡ b
and_true true = refl
and_true false = refl

-- Where all numbers are within a bound, they are with one more exactly where that is.
within_put : (most : ℕ) (versions : Numbers) (p : Path) (n : ℕ) → list_all (λ e. nat_le e.1 most) versions ≡ true → list_all (λ e. nat_le e.1 most) (put path_cmp p n versions) ≡ nat_le n most
within_put most [] p n all = and_true (nat_le n most)
within_put most (e ∷ versions) p n all =
    let both = and_parts (nat_le e.1 most) (list_all (λ x. nat_le x.1 most) versions) all in
    elim (path_cmp p e.0) as (λ o. list_all (λ x. nat_le x.1 most) (by_order o ((p, n) ∷ e ∷ versions) ((e.0, n) ∷ versions) (e ∷ put path_cmp p n versions)) ≡ nat_le n most) [
      | Less ↦ ap (λ b. nat_le n most && b) all ∙ and_true (nat_le n most)
      | Equal ↦ ap (λ b. nat_le n most && b) both.1 ∙ and_true (nat_le n most)
      | Greater ↦ ap (λ b. b && list_all (λ x. nat_le x.1 most) (put path_cmp p n versions)) both.0 ∙ within_put most versions p n both.1
    ]

pub rise_is : (serial : ℕ) (versions : Numbers) (p : Path) (by : ℕ) → are_versions_bounded serial versions ≡ true → keeps_versions serial versions (Bump p by) ≡ (may_rise serial versions p by && is_known_bounded (bumped versions p by))
rise_is serial versions p by bounded =
    ap (λ b. (may_bump versions (Bump p by) && b) && is_known_bounded (bumped versions p by)) (within_put (2 * serial + 1) versions p (version_of versions p + by) bounded)

one_higher : (n serial : ℕ) → n ≤ 2 * serial + 1 → n ≤ 2 * (serial + 1) + 1
one_higher n serial h = omega arith

pub bounded_more : (serial : ℕ) (versions : Numbers) → are_versions_bounded serial versions ≡ true → are_versions_bounded (serial + 1) versions ≡ true
bounded_more serial [] all = refl
bounded_more serial (e ∷ versions) all =
    let both = and_parts (nat_le e.1 (2 * serial + 1)) (are_versions_bounded serial versions) all in
    ap (λ b. b && are_versions_bounded (serial + 1) versions) (le-leb e.1 (2 * (serial + 1) + 1) (one_higher e.1 serial (leb-true e.1 (2 * serial + 1) both.0)))
    ∙ bounded_more serial versions both.1

pub serial_stays : (h : StacksState) (effects : List Effect) → (after_each h effects).serial ≡ h.serial
serial_stays h [] = refl
serial_stays h (e ∷ es) = serial_stays (after h e) es

-- ---- along a list

one_more : (v : Numbers) (before : List Effect) (e : Effect) → versions_after_each v (before ++ e ∷ []) ≡ versions_after (versions_after_each v before) e
one_more v [] e = refl
one_more v (x ∷ before) e = one_more (versions_after v x) before e

pub versions_taken : (v : Numbers) (effects : List Effect) (i : ℕ) (e : Effect) → i < length effects → e ≡ get_or effects i e → versions_after_each v (take (i + 1) effects) ≡ versions_after (versions_after_each v (take i effects)) e
versions_taken v effects i e h k = ap (versions_after_each v) (taken_one effects i e h k) ∙ one_more v (take i effects) e
  where
    taken_one : (effects : List Effect) (i : ℕ) (e : Effect) → i < length effects → e ≡ get_or effects i e → take (i + 1) effects ≡ take i effects ++ e ∷ []
    taken_one effects i e h k = take_more effects i e h ∙ ap (λ (x : Effect). take i effects ++ x ∷ []) (sym k)

pub dropped_one : (effects : List Effect) (i : ℕ) (e : Effect) → i < length effects → e ≡ get_or effects i e → drop i effects ≡ e ∷ drop (i + 1) effects
dropped_one effects i e h k =
    let s : suc i ≡ i + 1 = omega arith in
    drop-cons effects i e h ∙ (λ j. sym k j ∷ drop (s j) effects)
