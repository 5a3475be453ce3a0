-- How often the history of each path turned.
use Rattle.std.proofs.Common.{◌≡◌, ℕ, ◌+◌, ◌-◌, ◌^◌, ◌<◌, ◌≤◌, Bool, true, false, ◌||◌, cond, List, [], ◌∷◌, ◌++◌, Some, refl, sym, ap, subst, ◌∙◌, arith}
use Rattle.std.proofs.Math.Logic.{inl, inr}
use Rattle.std.specs.List.{AllByRecursion}
use Rattle.std.specs.Option.{unwrap_or}
use Rattle.std.specs.FinMap.{find, put, is_sorted}
use Rattle.std.specs.FinMap.Entries.{find-put, below_all, by_order}
use Rattle.std.specs.Ordering.{eq_by_cmp}
use Rattle.std.proofs.lemmas.Bool.{both_ways, false≢true}
use Rattle.wse_path.specs.Path.{Path}
use Rattle.wse_path.specs.Order.{path_cmp, is_named}
use Rattle.wse_path.specs.Versions.{Numbers, version_of, bumped, bumped_by}
use Rattle.wse_path.proofs.PathOrder.{total, same_path}
use Rattle.wse_path.proofs.EntryLemmas.{and_parts}
use Rattle.wse_path.proofs.MergeLemmas.{find_below}
use Rattle.std.specs.declared.cmp.Ordering.TheVariants.{Less, Equal, Greater}
use Rattle.wse_element.specs.Record.{Record}
use Rattle.wse_element.proofs.LiveLemmas.{eq_itself}
use Rattle.wse_stacks.specs.Turns.{Turned, look, IsNoted, AreNoted}

abbrev at_path : Path → Path → Bool
at_path q p = eq_by_cmp path_cmp q p

-- ---- a number raised, or put

pub version-put : (q p : Path) (n : ℕ) (entries : Numbers) → version_of (put path_cmp p n entries) q ≡ cond (at_path q p) n (version_of entries q)
version-put q p n entries =
    ap (λ o. unwrap_or o 0) (find-put path_cmp total q p n entries)
    ∙ elim (at_path q p) as (λ b. unwrap_or (cond b (Some n) (find path_cmp q entries)) 0 ≡ cond b n (version_of entries q)) [ true ↦ refl | false ↦ refl ]

first_version : (q p : Path) (n : ℕ) (more : Numbers) → version_of ((p, n) ∷ more) q ≡ cond (at_path q p) n (version_of more q)
first_version q p n more = elim (at_path q p) as (λ b. unwrap_or (cond b (Some n) (find path_cmp q more)) 0 ≡ cond b n (version_of more q)) [ true ↦ refl | false ↦ refl ]

none_behind : (q p : Path) (more : Numbers) → below_all path_cmp p more ≡ true → at_path q p ≡ true → version_of more q ≡ 0
none_behind q p more below same = ap (λ o. unwrap_or o 0) (find_below total more q (subst (λ x. below_all path_cmp x more ≡ true) (sym (same_path q p same)) below))

-- numbers raised by others, whose paths rise
pub version-bumped_by : (bumps entries : Numbers) (q : Path) → is_sorted path_cmp bumps ≡ true → version_of (bumped_by bumps entries) q ≡ version_of entries q + version_of bumps q
version-bumped_by [] entries q h = let e : version_of entries q ≡ version_of entries q + 0 = omega arith in e
version-bumped_by (b ∷ more) entries q h =
    let parts = and_parts (below_all path_cmp b.0 more) (is_sorted path_cmp more) h in
    let v = version_of entries q in
    let w = version_of more q in
    version-bumped_by more (bumped entries b.0 b.1) q parts.1
    ∙ ap (λ n. n + w) (version-put q b.0 (version_of entries b.0 + b.1) entries)
    ∙ elim (at_path q b.0) as (λ x. at_path q b.0 ≡ x → cond x (version_of entries b.0 + b.1) v + w ≡ v + cond x b.1 w) [
      | true ↦ λ same.
          let none : w ≡ 0 = none_behind q b.0 more parts.0 same in
          let there : version_of entries b.0 ≡ v = ap (λ x. version_of entries x) (sym (same_path q b.0 same)) in
          let sum : (version_of entries b.0 + b.1) + w ≡ v + b.1 = omega (arith, none, there) in
          sum
      | false ↦ λ _. refl
    ] refl
    ∙ ap (λ n. v + n) (sym (first_version q b.0 b.1 more))

-- ---- what is noted

abbrev Ones : Numbers → Type 0
Ones noted = AllByRecursion (λ e. e.1 ≡ 1) noted

ones_put : (p : Path) (noted : Numbers) → Ones noted → Ones (put path_cmp p 1 noted)
ones_put p [] h = (refl, tt)
ones_put p (e ∷ more) h =
    elim (path_cmp p e.0) as (λ r. Ones (by_order r ((p, 1) ∷ e ∷ more) ((e.0, 1) ∷ more) (e ∷ put path_cmp p 1 more))) [
      | Less ↦ (refl, h)
      | Equal ↦ (refl, h.1)
      | Greater ↦ (h.0, ones_put p more h.1)
    ]

ones_small : (noted : Numbers) (q : Path) → Ones noted → version_of noted q ≤ 1
ones_small [] q h = (let z : 0 ≤ 1 = omega arith in z)
ones_small (e ∷ more) q h =
    let rest = ones_small more q h.1 in
    let one : e.1 ≤ 1 = (let is : e.1 ≡ 1 = h.0 in omega arith) in
    subst (λ n. n ≤ 1) (sym (first_version q e.0 e.1 more))
    (elim (at_path q e.0) as (λ b. cond b e.1 (version_of more q) ≤ 1) [ true ↦ one | false ↦ rest ])

named_more : (paths : List Path) (p q : Path) → is_named (paths ++ p ∷ []) q ≡ (is_named paths q || at_path q p)
named_more [] p q = elim (at_path q p) as (λ b. (b || false) ≡ b) [ true ↦ refl | false ↦ refl ]
named_more (x ∷ paths) p q = elim (at_path q x) as (λ b. (b || is_named (paths ++ p ∷ []) q) ≡ ((b || is_named paths q) || at_path q p)) [ true ↦ refl | false ↦ named_more paths p q ]

or_first : (a b : Bool) → (a || b) ≡ true → b ≡ false → a ≡ true
or_first true b h k = refl
or_first false b h k = absurd (both_ways b k h)

pub noted_none : (old new : List Record) → AreNoted old new [] []
noted_none old new = record { other = λ p h ne. absurd (false≢true h); same = λ p e. refl; ones = tt }

-- q is the path, or it isn't
by_path : (q p : Path) (P : Type 0) → (q ≡ p → P) → (at_path q p ≡ false → P) → P
by_path q p P same other =
    elim (at_path q p) as (λ b. at_path q p ≡ b → P) [
      | true ↦ λ e. same (same_path q p e)
      | false ↦ λ e. other e
    ] refl

pub noted_more : (old new : List Record) (paths : List Path) (p : Path) (before after : Numbers) → AreNoted old new paths before → IsNoted old new p before after → AreNoted old new (paths ++ p ∷ []) after
noted_more old new paths p before after noted (inl is) = record {
  other = λ q named ne. by_path q p (version_of after q ≡ 1)
      (λ e. absurd (ne (subst (λ x. look old x ≡ look new x) (sym e) is.1)))
      (λ away. ap (λ ns. version_of ns q) is.0 ∙ noted.other q (or_first (is_named paths q) (at_path q p) (sym (named_more paths p q) ∙ named) away) ne);
  same = λ q e. ap (λ ns. version_of ns q) is.0 ∙ noted.same q e;
  ones = subst Ones (sym is.0) noted.ones;
}
noted_more old new paths p before after noted (inr is) = record {
  other = λ q named ne. by_path q p (version_of after q ≡ 1)
      (λ e. ap (λ ns. version_of ns q) is.0 ∙ version-put q p 1 before ∙ ap (λ b. cond b 1 (version_of before q)) (ap (λ x. at_path x p) e ∙ eq_itself p))
      (λ away. ap (λ ns. version_of ns q) is.0 ∙ version-put q p 1 before ∙ ap (λ b. cond b 1 (version_of before q)) away ∙ noted.other q (or_first (is_named paths q) (at_path q p) (sym (named_more paths p q) ∙ named) away) ne);
  same = λ q e. by_path q p (version_of after q ≡ 0)
      (λ k. absurd (is.1 (subst (λ x. look old x ≡ look new x) k e)))
      (λ away. ap (λ ns. version_of ns q) is.0 ∙ version-put q p 1 before ∙ ap (λ b. cond b 1 (version_of before q)) away ∙ noted.same q e);
  ones = subst Ones (sym is.0) (ones_put p before noted.ones);
}

pub turned_as_noted : (old new : List Record) (paths : List Path) (noted : Numbers) → AreNoted old new paths noted → ((p : Path) → is_named paths p ≡ false → look new p ≡ look old p) → Turned old new (λ _. 0) (version_of noted)
turned_as_noted old new paths noted are rest = record {
  other = λ p ne. elim (is_named paths p) as (λ b. is_named paths p ≡ b → version_of noted p ≡ 0 + 1) [
    | true ↦ λ e. are.other p e ne
    | false ↦ λ e. absurd (ne (sym (rest p e)))
  ] refl;
  same = are.same;
}

-- ---- what is counted

pub turned_counted : (old new : List Record) (bumps entries : Numbers) → is_sorted path_cmp bumps ≡ true → Turned old new (λ _. 0) (version_of bumps) → Turned old new (version_of entries) (version_of (bumped_by bumps entries))
turned_counted old new bumps entries rises turned = record {
  other = λ p ne. version-bumped_by bumps entries p rises ∙ ap (λ n. version_of entries p + n) (turned.other p ne);
  same = λ p e. version-bumped_by bumps entries p rises ∙ ap (λ n. version_of entries p + n) (turned.same p e) ∙ (let z : version_of entries p + 0 ≡ version_of entries p = omega arith in z);
}

pub counted_more : (bumps entries : Numbers) (serial : ℕ) (q : Path) → is_sorted path_cmp bumps ≡ true → Ones bumps → version_of entries q ≤ serial → version_of (bumped_by bumps entries) q ≤ serial + 1
counted_more bumps entries serial q rises ones h =
    let one = ones_small bumps q ones in
    let sum : version_of entries q + version_of bumps q ≤ serial + 1 = omega arith in
    subst (λ n. n ≤ serial + 1) (sym (version-bumped_by bumps entries q rises)) sum

pub small_bumps : (bumps entries : Numbers) (serial : ℕ) → serial < 2 ^ 30 → Ones bumps → ((q : Path) → version_of entries q ≤ serial) → AllByRecursion (λ b. version_of entries b.0 + b.1 ≤ 2 ^ 31 - 1) bumps
small_bumps [] entries serial h ones counted = tt
small_bumps (b ∷ more) entries serial h ones counted =
    let few = counted b.0 in
    let one : b.1 ≡ 1 = ones.0 in
    let sum : version_of entries b.0 + b.1 ≤ 2 ^ 31 - 1 = omega arith in
    (sum, small_bumps more entries serial h ones.1 counted)
