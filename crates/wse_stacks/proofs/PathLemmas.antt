-- Paths at which records are live.
use Rattle.std.proofs.Common.{◌≡◌, ℕ, ◌+◌, ◌<◌, length, take, get_or, Bool, true, false, ◌&&◌, ◌||◌, cond, List, [], ◌∷◌, ◌++◌, map, refl, sym, ap, subst, ◌∙◌}
use Rattle.std.specs.List.Sorted.{IsStrictlySortedBy}
use Rattle.std.proofs.lemmas.List.{take_more}
use Rattle.std.specs.List.{list_any}
use Rattle.std.specs.Ordering.{eq_by_cmp}
use Rattle.wse_path.specs.Path.{Path}
use Rattle.wse_path.specs.Order.{path_cmp, is_named}
use Rattle.wse_path.proofs.PathOrder.{same_path}
use Rattle.wse_path.proofs.PutLemmas.{sorted_ordered}
use Rattle.wse_element.specs.Record.{RecordPart, Record}
use Rattle.wse_element.specs.Live.{is_live, is_live_part_at, is_live_at}
use Rattle.wse_element.proofs.ListLemmas.{find-any}
use Rattle.wse_element.proofs.LiveLemmas.{eq_itself}
use Rattle.wse_stacks.specs.Paths.{keyed, AreLivePaths}

or_false : (a : Bool) → (a || false) ≡ a
or_false true = refl
or_false false = refl

flip : (p q : Path) → eq_by_cmp path_cmp p q ≡ eq_by_cmp path_cmp q p
flip p q =
    elim (eq_by_cmp path_cmp p q) as (λ b. eq_by_cmp path_cmp p q ≡ b → b ≡ eq_by_cmp path_cmp q p) [
      | true ↦ λ e. sym (subst (λ x. eq_by_cmp path_cmp x p ≡ true) (same_path p q e) (eq_itself p))
      | false ↦ λ e.
          elim (eq_by_cmp path_cmp q p) as (λ b. eq_by_cmp path_cmp q p ≡ b → false ≡ b) [
            | true ↦ λ k. sym e ∙ subst (λ x. eq_by_cmp path_cmp x q ≡ true) (same_path q p k) (eq_itself q)
            | false ↦ λ _. refl
          ] refl
    ] refl

and_true : (a : Bool) → (a && true) ≡ a
and_true true = refl
and_true false = refl

-- a live part is at its path alone
pub live_there : (part : RecordPart) (p : Path) → is_live part.state ≡ true → eq_by_cmp path_cmp part.path p ≡ is_live_part_at p part
live_there part p live = flip part.path p ∙ sym (and_true (eq_by_cmp path_cmp p part.path)) ∙ ap (λ b. eq_by_cmp path_cmp p part.path && b) (sym live)

pub or_is : (a b : Bool) → cond a true b ≡ (b || a)
or_is true true = refl
or_is true false = refl
or_is false true = refl
or_is false false = refl

-- a path is put where its part is live
pub has_put : (was : Bool) (part : RecordPart) (p : Path) → is_live part.state ≡ true → cond (eq_by_cmp path_cmp part.path p) true was ≡ (was || is_live_part_at p part)
has_put was part p live = or_is (eq_by_cmp path_cmp part.path p) was ∙ ap (λ b. was || b) (live_there part p live)

or_assoc : (a b c : Bool) → ((a || b) || c) ≡ (a || (b || c))
or_assoc true b c = refl
or_assoc false b c = refl

pub one_more : {X : Type 0} (test : X → Bool) (front : List X) (x : X) → list_any test (front ++ x ∷ []) ≡ (list_any test front || test x)
one_more test [] x = or_false (test x)
one_more test (y ∷ front) x = elim (test y) as (λ b. (b || list_any test (front ++ x ∷ [])) ≡ ((b || list_any test front) || test x)) [ true ↦ refl | false ↦ one_more test front x ]

-- a test over one more
pub any_more : {X : Type 0} (test : X → Bool) (front : List X) (x : X) (was new : Bool) (a : Bool) → new ≡ (was || test x) → was ≡ (a || list_any test front) → new ≡ (a || list_any test (front ++ x ∷ []))
any_more test front x was new a h k =
    h ∙ ap (λ b. b || test x) k ∙ or_assoc a (list_any test front) (test x) ∙ ap (λ b. a || b) (sym (one_more test front x))

pub live_any : (p : Path) (r : Record) → list_any (is_live_part_at p) r.parts ≡ is_live_at p r
live_any p r = sym (find-any (is_live_part_at p) r.parts)

keys_keyed : (paths : List Path) → map (λ e. e.0) (keyed paths) ≡ paths
keys_keyed [] = refl
keys_keyed (p ∷ paths) = ap (λ qs. p ∷ qs) (keys_keyed paths)

pub keys_are_live : (records : List Record) (paths : List Path) → IsStrictlySortedBy path_cmp paths → ((p : Path) → is_named paths p ≡ list_any (is_live_at p) records) → AreLivePaths records paths
keys_are_live records paths rises has = record {
  rise = sorted_ordered (keyed paths) (subst (IsStrictlySortedBy path_cmp) (sym (keys_keyed paths)) rises);
  each = has;
}

-- the step of a loop that gathers
pub any_step : {X : Type 0} (test : X → Bool) (xs : List X) (i : ℕ) (x : X) (was new a : Bool) → i < length xs → x ≡ get_or xs i x → new ≡ (was || test x) → was ≡ (a || list_any test (take i xs)) → new ≡ (a || list_any test (take (i + 1) xs))
any_step test xs i x was new a h is step inv =
    any_more test (take i xs) x was new a step inv
    ∙ ap (λ ys. a || list_any test ys) (ap (λ y. take i xs ++ y ∷ []) is ∙ sym (take_more xs i x h))
