-- Versions that are put one behind the other.
use Rattle.std.proofs.Common.{◌≡◌, ◌≢◌, ℕ, zero, suc, ◌+◌, ◌*◌, ◌-◌, ◌^◌, ◌<◌, ◌≤◌, cond, true, ◌&&◌, List, [], ◌∷◌, ◌++◌, Option, Some, refl, sym, ap, subst, ◌∙◌, append_assoc, append-nil, arith}
use Rattle.std.specs.Prelude.{nat_le, nat_lt}
use Rattle.std.specs.List.{All, AllByRecursion}
use Rattle.std.proofs.lemmas.List.Elements.{All-from_recursion, recursion_from_All}
use Rattle.std.specs.Option.{unwrap_or, IfSome}
use Rattle.std.specs.Ordering.{is_lt, is_eq}
use Rattle.std.specs.FinMap.{find, put, is_sorted}
use Rattle.std.specs.FinMap.Entries.{below_all, by_order}
use Rattle.std.specs.declared.cmp.Ordering.TheVariants.{Less, Greater}
use Rattle.std.proofs.lemmas.Bool.{le-leb, leb-true, lt-ltb, ltb-true}
use Rattle.wse_path.specs.Path.{Path}
use Rattle.wse_path.specs.Order.{path_cmp}
use Rattle.wse_path.specs.Versions.{Numbers, version_of, bumped, bumped_by, known}
use Rattle.wse_path.proofs.EntryLemmas.{and_parts, less_so, turned}
use Rattle.wse_path.proofs.PathOrder.{total}
use Rattle.wse_element.specs.State.{StacksState}
use Rattle.wse_path.specs.declared.change.Numbered.{Numbered}
use Rattle.wse_element.specs.Numbers.{is_bounded, is_serial_bounded, is_next_id_bounded, is_weight_bounded, are_some, are_versions_bounded, is_known_bounded}
use Rattle.wse_codec.specs.Allowed.{numbers_of, IsAllowedVersion}

-- an entry behind others is above each of them
abbrev AllBelow : Numbers → Path → Type 0
AllBelow es p = AllByRecursion (λ e. path_cmp p e.0 ≡ Greater) es

below_there : (x : Path) (es : Numbers) (b : Path × ℕ) (bs : Numbers) → below_all path_cmp x (es ++ b ∷ bs) ≡ true → path_cmp b.0 x ≡ Greater
below_there x [] b bs h = turned total x b.0 Less (less_so (path_cmp x b.0) (and_parts (is_lt (path_cmp x b.0)) (below_all path_cmp x bs) h).0)
below_there x (e ∷ es) b bs h = below_there x es b bs (and_parts (is_lt (path_cmp x e.0)) (below_all path_cmp x (es ++ b ∷ bs)) h).1

all_below : (es : Numbers) (b : Path × ℕ) (bs : Numbers) → is_sorted path_cmp (es ++ b ∷ bs) ≡ true → AllBelow es b.0
all_below [] b bs s = tt
all_below (e ∷ es) b bs s =
    let parts = and_parts (below_all path_cmp e.0 (es ++ b ∷ bs)) (is_sorted path_cmp (es ++ b ∷ bs)) s in
    (below_there e.0 es b bs parts.0, all_below es b bs parts.1)

none_there : (es : Numbers) (p : Path) → AllBelow es p → version_of es p ≡ 0
none_there [] p all = refl
none_there (e ∷ es) p all = ap (λ o. unwrap_or (cond (is_eq o) (Some e.1) (find path_cmp p es)) 0) all.0 ∙ none_there es p all.1

put_last : (es : Numbers) (p : Path) (n : ℕ) → AllBelow es p → put path_cmp p n es ≡ es ++ (p, n) ∷ []
put_last [] p n all = refl
put_last (e ∷ es) p n all =
    ap (λ o. by_order o ((p, n) ∷ e ∷ es) ((e.0, n) ∷ es) (e ∷ put path_cmp p n es)) all.0 ∙ ap (λ l. e ∷ l) (put_last es p n all.1)

bump_last : (es : Numbers) (b : Path × ℕ) (bs : Numbers) → is_sorted path_cmp (es ++ b ∷ bs) ≡ true → bumped es b.0 b.1 ≡ es ++ b ∷ []
bump_last es b bs s =
    let all = all_below es b bs s in
    ap (λ n. put path_cmp b.0 n es) (ap (λ n. n + b.1) (none_there es b.0 all) ∙ (omega arith)) ∙ put_last es b.0 b.1 all

bumps_behind : (es bs : Numbers) → is_sorted path_cmp (es ++ bs) ≡ true → bumped_by bs es ≡ es ++ bs
bumps_behind es [] s = sym (append-nil es)
bumps_behind es (b ∷ bs) s =
    ap (bumped_by bs) (bump_last es b bs s)
    ∙ bumps_behind (es ++ b ∷ []) bs (ap (is_sorted path_cmp) (append_assoc es (b ∷ []) bs) ∙ s)
    ∙ append_assoc es (b ∷ []) bs

-- Raised over none, versions in path order are themselves.
pub bumps_alone : (bs : Numbers) → is_sorted path_cmp bs ≡ true → bumped_by bs [] ≡ bs
bumps_alone bs s = bumps_behind [] bs s

-- Each is small enough to be put.
pub small_each : (serial : ℕ) (bs : Numbers) → serial < 2 ^ 30 → are_versions_bounded serial bs ≡ true → AllByRecursion (λ b. version_of [] b.0 + b.1 ≤ 2 ^ 31 - 1) bs
small_each serial [] small all = tt
small_each serial (b ∷ bs) small all =
    let both = and_parts (nat_le b.1 (2 * serial + 1)) (are_versions_bounded serial bs) all in
    (omega (arith, small, leb-true b.1 (2 * serial + 1) both.0), small_each serial bs small both.1)

-- One that is too great stands among them, or none.
pub bounded_push : (serial : ℕ) (bs : Numbers) (p : Path) (n : ℕ) → are_versions_bounded serial bs ≡ true → n ≤ 2 * serial + 1 → are_versions_bounded serial (bs ++ (p, n) ∷ []) ≡ true
bounded_push serial [] p n all le = ap (λ b. b && true) (le-leb n (2 * serial + 1) le)
bounded_push serial (b ∷ bs) p n all le =
    let both = and_parts (nat_le b.1 (2 * serial + 1)) (are_versions_bounded serial bs) all in
    ap (λ c. c && are_versions_bounded serial (bs ++ (p, n) ∷ [])) both.0 ∙ bounded_push serial bs p n both.1 le

pub unbounded_at : (serial : ℕ) (bs : Numbers) (p : Path) (n : ℕ) (more : Numbers) → 2 * serial + 1 < n → are_versions_bounded serial (bs ++ (p, n) ∷ more) ≡ true → ⊥
unbounded_at serial [] p n more over all =
    omega (arith, over, leb-true n (2 * serial + 1) (and_parts (nat_le n (2 * serial + 1)) (are_versions_bounded serial more) all).0)
unbounded_at serial (b ∷ bs) p n more over all =
    unbounded_at serial bs p n more over (and_parts (nat_le b.1 (2 * serial + 1)) (are_versions_bounded serial (bs ++ (p, n) ∷ more)) all).1

-- ---- all of them

pub put_all_is : (start all numbers entries : Numbers) → start ≡ [] → all ≡ numbers → is_sorted path_cmp numbers ≡ true → entries ≡ bumped_by all start → entries ≡ numbers
put_all_is start all numbers entries none same sorted is =
    is ∙ ap (bumped_by all) none ∙ ap (λ ns. bumped_by ns []) same ∙ bumps_alone numbers sorted

pub small_all : (serial : ℕ) (start all numbers : Numbers) → serial < 2 ^ 30 → start ≡ [] → all ≡ numbers → are_versions_bounded serial numbers ≡ true → All (λ b. version_of start b.0 + b.1 ≤ 2 ^ 31 - 1) all
small_all serial start all numbers small none same bounded =
    subst (λ (es : Numbers). All (λ b. version_of es b.0 + b.1 ≤ 2 ^ 31 - 1) all) (sym none)
    (All-from_recursion (λ b. version_of [] b.0 + b.1 ≤ 2 ^ 31 - 1) all (small_each serial all small (ap (are_versions_bounded serial) same ∙ bounded)))

-- What the versions count for is within its bound, or past it.
pub known_fits : (entries : Numbers) (n : ℕ) → n ≡ known entries → n ≤ 2 ^ 29 → is_known_bounded entries ≡ true
known_fits entries n is le = ap (λ k. nat_le k (2 ^ 29)) (sym is) ∙ le-leb n (2 ^ 29) le

pub known_over : (entries : Numbers) (n : ℕ) → n ≡ known entries → 2 ^ 29 < n → is_known_bounded entries ≡ true → ⊥
known_over entries n is over fits = omega (arith, over, leb-true n (2 ^ 29) (ap (λ k. nat_le k (2 ^ 29)) is ∙ fits))

-- A bounded serial number is below 2^30.
pub serial_small : (h : StacksState) → is_bounded h ≡ true → h.serial < 2 ^ 30
serial_small h b =
    let both = and_parts (is_serial_bounded h && is_next_id_bounded h) (is_weight_bounded h) b in
    omega (arith, leb-true h.serial (2 ^ 30 - 1) (and_parts (is_serial_bounded h) (is_next_id_bounded h) both.0).0)

-- ---- no version is 0

above_none : (n : ℕ) → n ≢ 0 → 0 < n
above_none zero some = absurd (some refl)
above_none (suc n) some = omega arith

some_of : (vs : List Numbered) → AllByRecursion IsAllowedVersion vs → are_some (numbers_of vs) ≡ true
some_of [] all = refl
some_of (v ∷ vs) all = ap (λ b. b && are_some (numbers_of vs)) (lt-ltb 0 v.number (above_none v.number all.0.some)) ∙ some_of vs all.1

pub allowed_some : (vs : List Numbered) → All IsAllowedVersion vs → are_some (numbers_of vs) ≡ true
allowed_some vs all = some_of vs (recursion_from_All IsAllowedVersion vs all)

each_some : (bs : Numbers) → are_some bs ≡ true → AllByRecursion (λ b. 0 < b.1) bs
each_some [] all = tt
each_some (b ∷ bs) all =
    let both = and_parts (nat_lt 0 b.1) (are_some bs) all in (ltb-true 0 b.1 both.0, each_some bs both.1)

pub some_all : (all numbers : Numbers) → all ≡ numbers → are_some numbers ≡ true → All (λ b. 0 < b.1) all
some_all all numbers same some = All-from_recursion (λ b. 0 < b.1) all (each_some all (ap are_some same ∙ some))

-- ---- a state's

-- What holds of a value that is there.
pub of_some : {T : Type 0} (P : T → Type 0) (o : Option T) (x : T) → o ≡ Some x → IfSome o P → P x
of_some P o x is h = subst (λ q. IfSome q P) is h
