-- Versions that are put one behind the other are themselves, and each may be put.
use Rattle.std.proofs.Common.{◌≡◌, ℕ, ◌+◌, ◌*◌, ◌-◌, ◌^◌, ◌<◌, ◌≤◌, true, ◌&&◌, [], ◌∷◌, ◌++◌, refl, sym, ap, subst, ◌∙◌, append_assoc, append-nil, zero-add, arith}
use Rattle.std.specs.Prelude.{nat_le, nat_lt}
use Rattle.std.specs.List.{All, AllByRecursion}
use Rattle.std.specs.Option.{unwrap_or}
use Rattle.std.specs.Ordering.{is_lt}
use Rattle.std.specs.FinMap.{put, is_sorted}
use Rattle.std.specs.FinMap.Entries.{below_all}
use Rattle.std.proofs.lemmas.Bool.{leb-true, ltb-true}
use Rattle.std.proofs.lemmas.List.Elements.{All-from_recursion}
use Rattle.wse_path.specs.Path.{Path}
use Rattle.wse_path.specs.Order.{path_cmp}
use Rattle.wse_path.specs.Place.{all_before}
use Rattle.wse_path.specs.Versions.{Numbers, version_of, bumped, bumped_by}
use Rattle.wse_path.proofs.EntryLemmas.{and_parts}
use Rattle.wse_path.proofs.MergeLemmas.{taken_last}
use Rattle.wse_path.proofs.PathOrder.{total}
use Rattle.wse_element.specs.State.{StacksState}
use Rattle.wse_element.specs.Numbers.{is_bounded, is_serial_bounded, is_next_id_bounded, is_weight_bounded, are_some, are_versions_bounded}

-- entries come before the one behind them
below_there : (x : Path) (es : Numbers) (b : Path × ℕ) (bs : Numbers) → below_all path_cmp x (es ++ b ∷ bs) ≡ true → is_lt (path_cmp x b.0) ≡ true
below_there x [] b bs h = (and_parts (is_lt (path_cmp x b.0)) (below_all path_cmp x bs) h).0
below_there x (e ∷ es) b bs h = below_there x es b bs (and_parts (is_lt (path_cmp x e.0)) (below_all path_cmp x (es ++ b ∷ bs)) h).1

before : (es : Numbers) (b : Path × ℕ) (bs : Numbers) → is_sorted path_cmp (es ++ b ∷ bs) ≡ true → all_before path_cmp es b.0 ≡ true
before [] b bs s = refl
before (e ∷ es) b bs s =
    let parts = and_parts (below_all path_cmp e.0 (es ++ b ∷ bs)) (is_sorted path_cmp (es ++ b ∷ bs)) s in
    λ i. below_there e.0 es b bs parts.0 i && before es b bs parts.1 i

bump_behind : (es : Numbers) (b : Path × ℕ) (bs : Numbers) → is_sorted path_cmp (es ++ b ∷ bs) ≡ true → bumped es b.0 b.1 ≡ es ++ b ∷ []
bump_behind es b bs s =
    let taken = taken_last total es b.0 (before es b bs s) in
    let none : version_of es b.0 ≡ 0 = ap (λ (xs : Numbers). version_of xs b.0) (sym (append-nil es)) ∙ ap (λ o. unwrap_or o 0) taken.value in
    ap (λ n. put path_cmp b.0 n es) (ap (λ n. n + b.1) none ∙ zero-add b.1)
    ∙ ap (λ (xs : Numbers). put path_cmp b.0 b.1 xs) (sym (append-nil es))
    ∙ taken.placed b.1

bumps_behind : (es bs : Numbers) → is_sorted path_cmp (es ++ bs) ≡ true → bumped_by bs es ≡ es ++ bs
bumps_behind es [] s = sym (append-nil es)
bumps_behind es (b ∷ bs) s =
    ap (bumped_by bs) (bump_behind es b bs s)
    ∙ bumps_behind (es ++ b ∷ []) bs (ap (is_sorted path_cmp) (append_assoc es (b ∷ []) bs) ∙ s)
    ∙ append_assoc es (b ∷ []) bs

-- raised over none, versions in path order are themselves
pub bumps_alone : (start all numbers entries : Numbers) → start ≡ [] → all ≡ numbers → is_sorted path_cmp numbers ≡ true → entries ≡ bumped_by all start → entries ≡ numbers
bumps_alone start all numbers entries none same sorted is =
    is ∙ ap (bumped_by all) none ∙ ap (λ (ns : Numbers). bumped_by ns []) same ∙ bumps_behind [] numbers sorted

small_each : (serial : ℕ) (bs : Numbers) → serial < 2 ^ 30 → are_versions_bounded serial bs ≡ true → AllByRecursion (λ b. version_of [] b.0 + b.1 ≤ 2 ^ 31 - 1) bs
small_each serial [] small all = tt
small_each serial (b ∷ bs) small all =
    let both = and_parts (nat_le b.1 (2 * serial + 1)) (are_versions_bounded serial bs) all in
    (omega (arith, small, leb-true b.1 (2 * serial + 1) both.0), small_each serial bs small both.1)

pub small_all : (serial : ℕ) (start all numbers : Numbers) → serial < 2 ^ 30 → start ≡ [] → all ≡ numbers → are_versions_bounded serial numbers ≡ true → All (λ b. version_of start b.0 + b.1 ≤ 2 ^ 31 - 1) all
small_all serial start all numbers small none same bounded =
    subst (λ (es : Numbers). All (λ b. version_of es b.0 + b.1 ≤ 2 ^ 31 - 1) all) (sym none)
    (All-from_recursion (λ b. version_of [] b.0 + b.1 ≤ 2 ^ 31 - 1) all (small_each serial all small (ap (are_versions_bounded serial) same ∙ bounded)))

some_each : (bs : Numbers) → are_some bs ≡ true → AllByRecursion (λ b. 0 < b.1) bs
some_each [] all = tt
some_each (b ∷ bs) all =
    let both = and_parts (nat_lt 0 b.1) (are_some bs) all in (ltb-true 0 b.1 both.0, some_each bs both.1)

pub some_all : (all numbers : Numbers) → all ≡ numbers → are_some numbers ≡ true → All (λ b. 0 < b.1) all
some_all all numbers same some = All-from_recursion (λ b. 0 < b.1) all (some_each all (ap are_some same ∙ some))

-- a bounded serial number is below 2^30
pub serial_small : (h : StacksState) → is_bounded h ≡ true → h.serial < 2 ^ 30
serial_small h b =
    let both = and_parts (is_serial_bounded h && is_next_id_bounded h) (is_weight_bounded h) b in
    omega (arith, leb-true h.serial (2 ^ 30 - 1) (and_parts (is_serial_bounded h) (is_next_id_bounded h) both.0).0)
