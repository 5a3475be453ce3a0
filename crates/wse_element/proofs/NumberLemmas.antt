-- How the numbers of a history go along with effects.
use Rattle.std.proofs.Common.{◌≡◌, ℕ, ◌+◌, ◌-◌, ◌*◌, ◌^◌, ◌<◌, ◌≤◌, min, Bool, true, false, cond, ◌&&◌, List, [], ◌∷◌, length, Some, refl, subst, arith}
use Rattle.std.specs.Prelude.{sum_by, nat_le, nat_lt}
use Rattle.std.specs.List.{list_all}
use Rattle.std.specs.Option.{unwrap_or}
use Rattle.std.specs.Ordering.{eq_by_cmp}
use Rattle.std.specs.declared.cmp.Ordering.TheVariants.{Less, Equal, Greater}
use Rattle.std.specs.FinMap.{find, put, is_sorted}
use Rattle.std.specs.FinMap.Entries.{by_order}
use Rattle.std.proofs.lemmas.Bool.{and_from, leb-true, le-leb, lt-ltb}
use Rattle.std.proofs.lemmas.List.Sums.{sum_by-cons}
use Rattle.wse_path.specs.Path.{Path, text_of}
use Rattle.wse_path.specs.Order.{path_cmp}
use Rattle.wse_path.specs.Versions.{Numbers, version_of, known}
use Rattle.wse_path.proofs.EntryLemmas.{and_parts}
use Rattle.wse_path.proofs.PutLemmas.{sorted_put}
use Rattle.wse_element.specs.declared.effect.Effect.{Effect}
use Rattle.wse_element.specs.declared.effect.Effect.TheVariants.{Push, MoveBack, MoveForward, Split, Drop, Invalidate, Bump, Set}
use Rattle.wse_element.specs.Record.{Record}
use Rattle.wse_element.specs.State.{StacksState}
use Rattle.wse_element.specs.Weight.{weight}
use Rattle.wse_element.specs.Numbers.{is_serial_bounded, is_next_id_bounded, is_weight_bounded, is_bounded, are_some}
use Rattle.wse_element.specs.Effects.{versions_after}
use Rattle.wse_element.specs.Laws.{Raises}

-- ---- numbers side by side

pub no_more : (a : ℕ) → a ≤ a
no_more a = omega arith

pub less_than : (a b c : ℕ) → a ≤ b → b ≤ c → a ≤ c
less_than a b c g h = omega (arith, g, h)

pub less_sums : (x a b y c d : ℕ) → x ≡ a + b → y ≡ c + d → a ≤ c → b ≤ d → x ≤ y
less_sums x a b y c d e f g h = omega (arith, e, f, g, h)

pub less_sum : (b y c d : ℕ) → y ≡ c + d → b ≤ d → b ≤ y
less_sum b y c d f h = omega (arith, f, h)

-- ---- bounds of the records

pub record Bounded (h : StacksState) : Type 0 where
  pub serial : h.serial ≤ 2 ^ 30 - 1
  pub some : 1 ≤ h.next_id
  pub ids : h.next_id ≤ 1 + h.serial * 2 ^ 32
  pub weight : weight h.records ≤ 2 ^ 29

pub bounded_parts : (h : StacksState) → is_bounded h ≡ true → Bounded h
bounded_parts h b =
    let last = and_parts (is_serial_bounded h && is_next_id_bounded h) (is_weight_bounded h) b in
    let first = and_parts (is_serial_bounded h) (is_next_id_bounded h) last.0 in
    let ids = and_parts (nat_le 1 h.next_id) (nat_le h.next_id (1 + h.serial * 2 ^ 32)) first.1 in
    record {
      serial = leb-true h.serial (2 ^ 30 - 1) first.0;
      some = leb-true 1 h.next_id ids.0;
      ids = leb-true h.next_id (1 + h.serial * 2 ^ 32) ids.1;
      weight = leb-true (weight h.records) (2 ^ 29) last.1;
    }

pub bounded_from : (h : StacksState) → Bounded h → is_bounded h ≡ true
bounded_from h b =
    and_from (is_serial_bounded h && is_next_id_bounded h) (is_weight_bounded h)
    (and_from (is_serial_bounded h) (is_next_id_bounded h) (le-leb h.serial (2 ^ 30 - 1) b.serial)
    (and_from (nat_le 1 h.next_id) (nat_le h.next_id (1 + h.serial * 2 ^ 32)) (le-leb 1 h.next_id b.some) (le-leb h.next_id (1 + h.serial * 2 ^ 32) b.ids)))
    (le-leb (weight h.records) (2 ^ 29) b.weight)

no_ids_more : (n : ℕ) → n ≡ n + 0
no_ids_more n = omega arith

-- where no id is taken and the records count for no more
pub bounded_next : (h : StacksState) (records : List Record) → weight records ≤ weight h.records → Bounded h → Bounded (record { records = records; next_id = h.next_id + 0; serial = h.serial })
bounded_next h records less b =
    subst (λ (n : ℕ). Bounded (record { records = records; next_id = n; serial = h.serial })) (no_ids_more h.next_id)
    (record { serial = b.serial; some = b.some; ids = b.ids; weight = less_than _ _ _ less b.weight })

-- ---- versions

-- a test on numbers goes along a new number that passes it
pub all_put : (test : ℕ → Bool) (p : Path) (n : ℕ) (vs : Numbers) → test n ≡ true → list_all (λ e. test e.1) vs ≡ true → list_all (λ e. test e.1) (put path_cmp p n vs) ≡ true
all_put test p n [] new all = and_from (test n) true new refl
all_put test p n (e ∷ vs) new all =
    let parts = and_parts (test e.1) (list_all (λ x. test x.1) vs) all in
    elim (path_cmp p e.0) as (λ o. list_all (λ x. test x.1) (by_order o ((p, n) ∷ e ∷ vs) ((e.0, n) ∷ vs) (e ∷ put path_cmp p n vs)) ≡ true) [
      | Less ↦ and_from (test n) (list_all (λ x. test x.1) (e ∷ vs)) new all
      | Equal ↦ and_from (test n) (list_all (λ x. test x.1) vs) new parts.1
      | Greater ↦ and_from (test e.1) (list_all (λ x. test x.1) (put path_cmp p n vs)) parts.0 (all_put test p n vs new parts.1)
    ]

zero_low : (top : ℕ) → 0 ≤ top
zero_low top = omega arith

pub version_low : (top : ℕ) (vs : Numbers) (p : Path) → list_all (λ e. nat_le e.1 top) vs ≡ true → version_of vs p ≤ top
version_low top [] p all = zero_low top
version_low top (e ∷ vs) p all =
    let parts = and_parts (nat_le e.1 top) (list_all (λ x. nat_le x.1 top) vs) all in
    elim (eq_by_cmp path_cmp p e.0) as (λ b. unwrap_or (cond b (Some e.1) (find path_cmp p vs)) 0 ≤ top) [
      | true ↦ leb-true e.1 top parts.0
      | false ↦ version_low top vs p parts.1
    ]

abbrev counts : Path × ℕ → ℕ
counts e = 32 + length (text_of e.0)

sum_put : (p : Path) (n : ℕ) (vs : Numbers) → sum_by counts vs ≤ sum_by counts (put path_cmp p n vs)
sum_put p n [] = zero_low (sum_by counts (put path_cmp p n []))
sum_put p n (e ∷ vs) =
    let all = sum_by-cons counts e vs in
    elim (path_cmp p e.0) as (λ o. sum_by counts (e ∷ vs) ≤ sum_by counts (by_order o ((p, n) ∷ e ∷ vs) ((e.0, n) ∷ vs) (e ∷ put path_cmp p n vs))) [
      | Less ↦ less_sum _ _ (counts (p, n)) _ (sum_by-cons counts (p, n) (e ∷ vs)) (no_more _)
      | Equal ↦ less_sums _ _ _ _ _ _ all (sum_by-cons counts (e.0, n) vs) (no_more _) (no_more _)
      | Greater ↦ less_sums _ _ _ _ _ _ all (sum_by-cons counts e (put path_cmp p n vs)) (no_more _) (sum_put p n vs)
    ]

less_min : (a b : ℕ) → a ≤ b → min a (2 ^ 64 - 1) ≤ min b (2 ^ 64 - 1)
less_min a b h = omega (arith, h)

-- what is known grows with each version that rises
pub known_put : (p : Path) (n : ℕ) (vs : Numbers) → known vs ≤ known (put path_cmp p n vs)
known_put p n vs = less_min (sum_by counts vs) (sum_by counts (put path_cmp p n vs)) (sum_put p n vs)

-- the versions stand in path order, and none is 0
pub record AreVersions (versions : Numbers) : Type 0 where
  pub rise : is_sorted path_cmp versions ≡ true
  pub some : are_some versions ≡ true

more_than_none : (n by : ℕ) → 0 < by → 0 < n + by
more_than_none n by h = omega arith

pub are_versions_after : (vs : Numbers) (e : Effect) → Raises e → AreVersions vs → AreVersions (versions_after vs e)
are_versions_after vs (Push r) raises are = are
are_versions_after vs (MoveBack id) raises are = are
are_versions_after vs (MoveForward id) raises are = are
are_versions_after vs (Split id first) raises are = are
are_versions_after vs (Drop path reason) raises are = are
are_versions_after vs (Invalidate path) raises are = are
are_versions_after vs (Bump path by) raises are =
    let n = version_of vs path + by in
    record { rise = sorted_put path n vs are.rise; some = all_put (nat_lt 0) path n vs (lt-ltb 0 n (more_than_none (version_of vs path) by raises)) are.some }
are_versions_after vs (Set path content) raises are = are
