-- Versions that rise, path by path.
use Rattle.std.proofs.Common.{◌≡◌, ℕ, ◌+◌, ◌≤◌, true, false, cond, List, [], ◌∷◌, map, Some, refl, sym, ap, subst, ◌∙◌, arith}
use Rattle.std.specs.Prelude.{All, ◌-◌, ◌^◌, ◌&&◌}
use Rattle.std.specs.List.{list_any}
use Rattle.std.proofs.lemmas.List.Elements.{All-cons, All-map}
use Rattle.std.specs.Option.{unwrap_or}
use Rattle.std.specs.Ordering.{eq_by_cmp, is_eq, is_lt, ordering_reverse}
use Rattle.std.specs.declared.cmp.Ordering.TheVariants.{Less}
use Rattle.std.specs.FinMap.{find, put, is_sorted}
use Rattle.std.specs.FinMap.Entries.{find-put, below_all}
use Rattle.std.specs.Cmp.{eq_by_cmp_equiv}
use Rattle.std.specs.Cmp.Lexicographic.{lists_total, nat_list_cmp_total}
use Rattle.std.proofs.lemmas.Bool.{or_parts}
use Rattle.wse_path.specs.Path.{Path}
use Rattle.wse_path.specs.Order.{path_cmp}
use Rattle.wse_path.specs.Versions.{Numbers, version_of, bumped, bumped_by}
use Rattle.wse_path.specs.declared.change.Numbered.{Numbered}
use Rattle.wse_path.proofs.EntryLemmas.{and_parts, less_so}
use Rattle.wse_path.proofs.TreeLemmas.{same_path, tied_itself}
use Rattle.wse_history.specs.Done.{pairs_of, AreRises, raised, with_versions}
use Rattle.wse_history.specs.History.{HasNoZero}

-- the paths of numbers
abbrev pub paths_of : List Numbered → List Path
paths_of bs = map (λ (b : Numbered). b.path) bs

-- no path stands twice
abbrev pub AreApart : List Path → Type 0
AreApart [] = Unit {0}
AreApart (p ∷ more) = (list_any (λ q. eq_by_cmp path_cmp q p) more ≡ false) × AreApart more

version_put : (vs : Numbers) (p : Path) (n : ℕ) (q : Path) → version_of (put path_cmp p n vs) q ≡ cond (eq_by_cmp path_cmp q p) n (version_of vs q)
version_put vs p n q =
    ap (λ o. unwrap_or o 0) (find-put path_cmp (lists_total nat_list_cmp_total) q p n vs)
    ∙ elim (eq_by_cmp path_cmp q p) as (λ b. unwrap_or (cond b (Some n) (find path_cmp q vs)) 0 ≡ cond b n (version_of vs q)) [ true ↦ refl | false ↦ refl ]

turned : (p q : Path) → eq_by_cmp path_cmp p q ≡ eq_by_cmp path_cmp q p
turned p q = (eq_by_cmp_equiv (lists_total nat_list_cmp_total)).symm p q

-- the versions of other paths stay
kept_by : (vs : Numbers) (p : Path) (n : ℕ) (q : Path) → eq_by_cmp path_cmp q p ≡ false → version_of (put path_cmp p n vs) q ≡ version_of vs q
kept_by vs p n q e = version_put vs p n q ∙ ap (λ b. cond b n (version_of vs q)) e

-- versions elsewhere rise from the same ones
raised_elsewhere : (vs : Numbers) (p : Path) (n : ℕ) (bs : List Numbered) → list_any (λ q. eq_by_cmp path_cmp q p) (paths_of bs) ≡ false → raised (put path_cmp p n vs) bs ≡ raised vs bs
raised_elsewhere vs p n [] h = refl
raised_elsewhere vs p n (b ∷ bs) h =
    let parts = or_parts (eq_by_cmp path_cmp b.path p) (list_any (λ q. eq_by_cmp path_cmp q p) (paths_of bs)) h in
    λ i. record { path = b.path; number = kept_by vs p n b.path parts.0 i + b.number } ∷ raised_elsewhere vs p n bs parts.1 i

-- where no path stands twice, raising one after another is raising all
bumped_together : (vs : Numbers) (bs : List Numbered) → AreApart (paths_of bs) → bumped_by (pairs_of bs) vs ≡ with_versions (raised vs bs) vs
bumped_together vs [] apart = refl
bumped_together vs (b ∷ bs) apart =
    bumped_together (bumped vs b.path b.number) bs apart.1
    ∙ ap (λ cs. with_versions cs (bumped vs b.path b.number)) (raised_elsewhere vs b.path (version_of vs b.path + b.number) bs apart.0)

-- the version of a path that isn't raised stays
version_elsewhere : (vs : Numbers) (bs : List Numbered) (q : Path) → list_any (λ p. eq_by_cmp path_cmp p q) (paths_of bs) ≡ false → version_of (bumped_by (pairs_of bs) vs) q ≡ version_of vs q
version_elsewhere vs [] q h = refl
version_elsewhere vs (b ∷ bs) q h =
    let parts = or_parts (eq_by_cmp path_cmp b.path q) (list_any (λ x. eq_by_cmp path_cmp x q) (paths_of bs)) h in
    version_elsewhere (bumped vs b.path b.number) bs q parts.1 ∙ kept_by vs b.path (version_of vs b.path + b.number) q (turned q b.path ∙ parts.0)

-- each path that rises has its new version in the end
pub numbered_is : (vs : Numbers) (bs : List Numbered) → AreApart (paths_of bs)
    → map {B = Numbered} (λ (b : Numbered). record { path = b.path; number = version_of (bumped_by (pairs_of bs) vs) b.path }) bs ≡ raised vs bs
numbered_is vs [] apart = refl
numbered_is vs (b ∷ bs) apart =
    let n = version_of vs b.path + b.number in
    let us = bumped vs b.path b.number in
    let here : version_of (bumped_by (pairs_of bs) us) b.path ≡ n = version_elsewhere us bs b.path apart.0 ∙ version_put vs b.path n b.path ∙ ap (λ t. cond t n (version_of vs b.path)) (tied_itself b.path) in
    let rest = numbered_is us bs apart.1 ∙ raised_elsewhere vs b.path n bs apart.0 in
    λ i. record { path = b.path; number = here i } ∷ rest i

next_to : (n m k by : ℕ) → n ≡ m → m ≡ k + by → by ≤ 2 → n ≤ k + 2
next_to n m k by e f two = omega (arith, e, f, two)

by_two : (n m k : ℕ) → n ≤ m + 2 → m ≡ k → n ≤ k + 2
by_two n m k l e = omega (arith, l, e)

-- each rises by two at most
version_low : (vs : Numbers) (bs : List Numbered) (q : Path) → AreApart (paths_of bs) → AreRises bs → version_of (bumped_by (pairs_of bs) vs) q ≤ version_of vs q + 2
version_low vs [] q apart rises = omega arith
version_low vs (b ∷ bs) q apart rises =
    elim (eq_by_cmp path_cmp q b.path) as (λ t. eq_by_cmp path_cmp q b.path ≡ t → version_of (bumped_by (pairs_of bs) (bumped vs b.path b.number)) q ≤ version_of vs q + 2) [
      | true ↦ λ e. rw (same_path q b.path e)
          (next_to _ _ _ b.number (version_elsewhere (bumped vs b.path b.number) bs b.path apart.0)
          (version_put vs b.path (version_of vs b.path + b.number) b.path ∙ ap (λ t. cond t (version_of vs b.path + b.number) (version_of vs b.path)) (tied_itself b.path)) rises.0.1)
      | false ↦ λ e. by_two _ _ _ (version_low (bumped vs b.path b.number) bs q apart.1 rises.1) (kept_by vs b.path (version_of vs b.path + b.number) q e)
    ] refl

-- numbers in path order are of paths that stand once
later_not : (x y : Path) → path_cmp x y ≡ Less → eq_by_cmp path_cmp y x ≡ false
later_not x y l = ap is_eq ((lists_total nat_list_cmp_total).antisymm y x ∙ ap ordering_reverse l)

none_tied : (x : Path) (bs : List Numbered) → below_all path_cmp x (pairs_of bs) ≡ true → list_any (λ q. eq_by_cmp path_cmp q x) (paths_of bs) ≡ false
none_tied x [] h = refl
none_tied x (b ∷ bs) h =
    let parts = and_parts (is_lt (path_cmp x b.path)) (below_all path_cmp x (pairs_of bs)) h in
    rw (later_not x b.path (less_so (path_cmp x b.path) parts.0)) (none_tied x bs parts.1)

pub apart_rising : (bs : List Numbered) → is_sorted path_cmp (pairs_of bs) ≡ true → AreApart (paths_of bs)
apart_rising [] s = tt
apart_rising (b ∷ bs) s =
    let parts = and_parts (below_all path_cmp b.path (pairs_of bs)) (is_sorted path_cmp (pairs_of bs)) s in
    (none_tied b.path bs parts.0, apart_rising bs parts.1)

pub no_zero_put : (vs : Numbers) (p : Path) (n : ℕ) → 1 ≤ n → HasNoZero vs → HasNoZero (put path_cmp p n vs)
no_zero_put vs p n some h q e =
    elim (eq_by_cmp path_cmp q p) as (λ b. cond b (Some n) (find path_cmp q vs) ≡ Some 0 → ⊥) [
      | true ↦ λ g. absurd (let zero_is : n ≡ 0 = ap (λ o. unwrap_or o 0) g in omega (arith, zero_is, some))
      | false ↦ λ g. h q g
    ] (sym (find-put path_cmp (lists_total nat_list_cmp_total) q p n vs) ∙ e)

no_zero_with : (us vs : Numbers) (bs : List Numbered) → AreRises bs → HasNoZero vs → HasNoZero (with_versions (raised us bs) vs)
no_zero_with us vs [] rises h = h
no_zero_with us vs (b ∷ bs) rises h =
    no_zero_with us (put path_cmp b.path (version_of us b.path + b.number) vs) bs rises.1
    (no_zero_put vs b.path (version_of us b.path + b.number) (let one = rises.0.0 in omega (arith, one)) h)

-- the same paths rise with their new versions
below_raised : (x : Path) (vs : Numbers) (bs : List Numbered) → below_all path_cmp x (pairs_of (raised vs bs)) ≡ below_all path_cmp x (pairs_of bs)
below_raised x vs [] = refl
below_raised x vs (b ∷ bs) = ap (λ t. is_lt (path_cmp x b.path) && t) (below_raised x vs bs)

sorted_alike : (vs : Numbers) (bs : List Numbered) → is_sorted path_cmp (pairs_of (raised vs bs)) ≡ is_sorted path_cmp (pairs_of bs)
sorted_alike vs [] = refl
sorted_alike vs (b ∷ bs) = λ i. below_raised b.path vs bs i && sorted_alike vs bs i

-- rises of paths in their order
module _ (vs : Numbers) (bs : List Numbered) (sorted : is_sorted path_cmp (pairs_of bs) ≡ true) where
  pub raised_sorted : is_sorted path_cmp (pairs_of (raised vs bs)) ≡ true
  raised_sorted = sorted_alike vs bs ∙ sorted

  pub bumped_is : bumped_by (pairs_of bs) vs ≡ with_versions (raised vs bs) vs
  bumped_is = bumped_together vs bs (apart_rising bs sorted)

  pub raised_low : AreRises bs → (q : Path) → version_of (with_versions (raised vs bs) vs) q ≤ version_of vs q + 2
  raised_low rises q = subst (λ (ns : Numbers). version_of ns q ≤ version_of vs q + 2) bumped_is (version_low vs bs q (apart_rising bs sorted) rises)

  pub raised_there : AreRises bs → HasNoZero vs → HasNoZero (with_versions (raised vs bs) vs)
  raised_there rises h = no_zero_with vs vs bs rises h

-- none rises past the largest
pub rises_small : (top : ℕ) (vs : Numbers) (bs : List Numbered) → ((q : Path) → version_of vs q + 2 ≤ top) → AreRises bs → All (λ b. version_of vs b.path + b.number ≤ top) bs
rises_small top vs [] low rises = λ k d l. absurd (omega arith)
rises_small top vs (b ∷ bs) low rises =
    All-cons (λ (x : Numbered). version_of vs x.path + x.number ≤ top) b bs (let two = rises.0.1 in omega (arith, two, low b.path)) (rises_small top vs bs low rises.1)

-- the same by pairs
pub pairs_small : (vs : Numbers) (bs : List Numbered) → All (λ b. version_of vs b.path + b.number ≤ 2 ^ 31 - 1) bs → All (λ b. version_of vs b.0 + b.1 ≤ 2 ^ 31 - 1) (pairs_of bs)
pairs_small vs bs all = All-map (λ b. version_of vs b.0 + b.1 ≤ 2 ^ 31 - 1) (λ (b : Numbered). (b.path, b.number)) bs all
