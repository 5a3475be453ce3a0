-- Versions that are raised, path by path.
use Rattle.std.proofs.Common.{◌≡◌, ℕ, ◌+◌, ◌-◌, ◌^◌, ◌<◌, ◌≤◌, min, true, List, [], ◌∷◌, Option, Some, refl, sym, ap, subst, ◌∙◌, arith}
use Rattle.std.specs.FinMap.{put, is_sorted}
use Rattle.std.specs.FinMap.Entries.{below_all, by_order}
use Rattle.std.specs.List.{AllByRecursion}
use Rattle.std.specs.Option.{unwrap_or}
use Rattle.std.specs.Ordering.{is_lt}
use Rattle.std.specs.declared.cmp.Ordering.TheVariants.{Less, Equal, Greater}
use Rattle.wse_path.specs.Order.{path_cmp}
use Rattle.wse_path.specs.Path.{Path}
use Rattle.wse_path.specs.PathMap.{update_all}
use Rattle.wse_path.specs.Versions.{Numbers, version_of, bumped, bumped_by}
use Rattle.wse_path.proofs.EntryLemmas.{and_parts, less_so}
use Rattle.wse_path.proofs.MergeLemmas.{value_same}

-- the number that comes in place of one that is raised, as far as numbers of 32 bits go
abbrev pub added : ℕ → Option ℕ → Option ℕ
added by old = Some (min (unwrap_or old 0 + by) (2 ^ 32 - 1))

-- the raised version stays an integer of LSP 3.17
abbrev pub IsSmall : Numbers → Path × ℕ → Type 0
IsSmall entries b = version_of entries b.0 + b.1 ≤ 2 ^ 31 - 1

-- a bump leaves the versions of later paths
later_kept : (entries : Numbers) (p : Path) (by : ℕ) (q : Path) → is_lt (path_cmp p q) ≡ true → version_of (bumped entries p by) q ≡ version_of entries q
later_kept entries p by q l = ap (λ o. unwrap_or o 0) (value_same entries p (Some (version_of entries p + by)) q (less_so _ l))

small_kept : (bs : List (Path × ℕ)) (entries : Numbers) (p : Path) (by : ℕ) → below_all path_cmp p bs ≡ true → AllByRecursion (IsSmall entries) bs → AllByRecursion (IsSmall (bumped entries p by)) bs
small_kept [] entries p by h all = tt
small_kept (b ∷ bs) entries p by h all =
    let parts = and_parts (is_lt (path_cmp p b.0)) (below_all path_cmp p bs) h in
    (subst (λ n. n + b.1 ≤ 2 ^ 31 - 1) (sym (later_kept entries p by b.0 parts.0)) all.0, small_kept bs entries p by parts.1 all.1)

not_at_end : (n : ℕ) → n ≤ 2 ^ 31 - 1 → min n (2 ^ 32 - 1) ≡ n
not_at_end n l = omega arith

-- where no version passes its end, the map raises each path's version
pub bumped_by_is : (bs : List (Path × ℕ)) (entries : Numbers) → is_sorted path_cmp bs ≡ true → AllByRecursion (IsSmall entries) bs → update_all added bs entries ≡ bumped_by bs entries
bumped_by_is [] entries s all = refl
bumped_by_is (b ∷ bs) entries s all =
    let parts = and_parts (below_all path_cmp b.0 bs) (is_sorted path_cmp bs) s in
    ap (λ n. update_all added bs (put path_cmp b.0 n entries)) (not_at_end (version_of entries b.0 + b.1) all.0)
    ∙ bumped_by_is bs (bumped entries b.0 b.1) parts.1 (small_kept bs entries b.0 b.1 parts.0 all.1)

-- the number is above 0
abbrev pub IsSome : Path × ℕ → Type 0
IsSome e = 0 < e.1

some_put : (entries : Numbers) (p : Path) (n : ℕ) → 0 < n → AllByRecursion IsSome entries → AllByRecursion IsSome (put path_cmp p n entries)
some_put [] p n some all = (some, tt)
some_put (e ∷ es) p n some all =
    elim (path_cmp p e.0) as (λ r. AllByRecursion IsSome (by_order r ((p, n) ∷ e ∷ es) ((e.0, n) ∷ es) (e ∷ put path_cmp p n es))) [
      | Less ↦ (some, all)
      | Equal ↦ (some, all.1)
      | Greater ↦ (all.0, some_put es p n some all.1)
    ]

pub some_bumped : (entries : Numbers) (p : Path) (by : ℕ) → 0 < by → AllByRecursion IsSome entries → AllByRecursion IsSome (bumped entries p by)
some_bumped entries p by some all = some_put entries p (version_of entries p + by) (omega (arith, some)) all

pub some_bumped_by : (bs : List (Path × ℕ)) (entries : Numbers) → AllByRecursion IsSome bs → AllByRecursion IsSome entries → AllByRecursion IsSome (bumped_by bs entries)
some_bumped_by [] entries some all = all
some_bumped_by (b ∷ bs) entries some all = some_bumped_by bs (bumped entries b.0 b.1) some.1 (some_bumped entries b.0 b.1 some.0 all)
