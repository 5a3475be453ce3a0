-- Paths: what is read of one is spelled so, and what is spelled so is read.
use Rattle.std.proofs.Common.{◌≡◌, ℕ, true, ◌&&◌, List, [], ◌∷◌, ◌++◌, length, Option, Some, None, is_none, Ok, refl, sym, ap, subst}
use Rattle.std.specs.List.{flat_map, list_all, AllByRecursion}
use Rattle.std.specs.Str.{IsUtf8, is_utf8}
use Rattle.std.proofs.lemmas.Bool.{and_parts, and_from}
use Rattle.std.proofs.lemmas.List.Elements.{All-from_recursion, recursion_from_All}
use Rattle.std.proofs.lemmas.Str.{IsUtf8-from_is_utf8, is_utf8-from_IsUtf8}
use Rattle.wse_path.specs.Path.{Path, refusal}
use Rattle.wse_codec.specs.Spelling.{segment_bytes, path_bytes}
use Rattle.wse_codec.specs.Allowed.{IsAllowedPath}
use Rattle.wse_codec.specs.Pieces.{◌>>=◌, where_allowed, row_at}
use Rattle.wse_codec.specs.Reading.{segment_at, is_path, is_behind, path_behind, path_at}
use Rattle.wse_codec.proofs.FieldLemmas.{IsBytes, IsPiece, Takes, then_takes, step, allowed_ok, byte, run, ruled}
use Rattle.wse_codec.proofs.RowLemmas.{Each, row, each_from_recursion}

segment_takes : (bytes : List ℕ) (x : List ℕ × List ℕ) → IsBytes bytes → segment_at bytes ≡ Ok x → Takes bytes (segment_bytes x.0) x.1 × Unit {0}
unfolding segment_at segment_bytes
segment_takes bytes x fits e =
    let a = step byte bytes _ x fits e in
    let t = (run a.value).takes a.rest x a.took.rest_fits a.goes_on in
    let both = then_takes a.took t.0 in
    (subst (λ (n : ℕ). Takes bytes (n ∷ x.0) x.1) (sym t.1) both, tt)

segment_again : (segment rest : List ℕ) → Unit {0} → segment_at (segment_bytes segment ++ rest) ≡ Ok (segment, rest)
unfolding segment_at segment_bytes
segment_again segment rest h = rw (byte.again (length segment) (segment ++ rest) tt, (run (length segment)).again segment rest refl) refl

pub segment : IsPiece segment_at segment_bytes (λ segment. Unit {0})
segment = record { takes = segment_takes; again = segment_again }

segments : (n : ℕ) → IsPiece (row_at (λ last. segment_at) None n) (flat_map segment_bytes) (λ vs. (length vs ≡ n) × Each (λ before v. Unit {0}) None vs)
segments n = row (λ before. segment) None n

-- ---- the rule on paths

texts_by_test : (segments : Path) → list_all is_utf8 segments ≡ true → AllByRecursion IsUtf8 segments
texts_by_test [] h = tt
texts_by_test (s ∷ ss) h =
    let parts = and_parts (is_utf8 s) (list_all is_utf8 ss) h in
    (IsUtf8-from_is_utf8 s parts.0, texts_by_test ss parts.1)

test_by_texts : (segments : Path) → AllByRecursion IsUtf8 segments → list_all is_utf8 segments ≡ true
test_by_texts [] h = refl
test_by_texts (s ∷ ss) h = and_from (is_utf8 s) (list_all is_utf8 ss) (is_utf8-from_IsUtf8 s h.0) (test_by_texts ss h.1)

nothing : {A : Type 0} (o : Option A) → is_none o ≡ true → o ≡ None
nothing None h = refl
nothing (Some x) h = absurd cc

pub is_path-allowed : (path : Path) → is_path path ≡ true → IsAllowedPath path
unfolding is_path
is_path-allowed path h =
    let parts = and_parts (is_none (refusal path)) (list_all is_utf8 path) h in
    record { path = nothing (refusal path) parts.0; texts = All-from_recursion IsUtf8 path (texts_by_test path parts.1) }

pub allowed-is_path : (path : Path) → IsAllowedPath path → is_path path ≡ true
unfolding is_path
allowed-is_path path h =
    and_from (is_none (refusal path)) (list_all is_utf8 path) (ap (λ (o : Option _). is_none o) h.path) (test_by_texts path (recursion_from_All IsUtf8 path h.texts))

-- ---- a path behind another

path_takes : (before : Option Path) (bytes : List ℕ) (x : Path × List ℕ) → IsBytes bytes → path_behind before bytes ≡ Ok x
    → Takes bytes (path_bytes x.0) x.1 × (IsAllowedPath x.0 × (is_behind before x.0 ≡ true))
unfolding path_behind path_bytes
path_takes before bytes x fits e =
    let a = step byte bytes (λ count. row_at (λ last. segment_at) None count.0 count.1 >>= λ segments. where_allowed (is_path segments.0 && is_behind before segments.0) bytes segments) x fits e in
    let b = step (segments a.value) a.rest (λ segments. where_allowed (is_path segments.0 && is_behind before segments.0) bytes segments) x a.took.rest_fits a.goes_on in
    let g = allowed_ok (is_path b.value && is_behind before b.value) bytes (b.value, b.rest) x b.goes_on in
    let both = then_takes a.took b.took in
    let took : Takes bytes (path_bytes b.value) b.rest = subst (λ (n : ℕ). Takes bytes (n ∷ flat_map segment_bytes b.value) b.rest) (sym b.allowed.0) both in
    let rules = and_parts (is_path b.value) (is_behind before b.value) g.0 in
    subst (λ (y : Path × List ℕ). Takes bytes (path_bytes y.0) y.1 × (IsAllowedPath y.0 × (is_behind before y.0 ≡ true))) g.1 (took, (is_path-allowed b.value rules.0, rules.1))

path_again : (before : Option Path) (path : Path) (rest : List ℕ) → IsAllowedPath path × (is_behind before path ≡ true)
    → path_behind before (path_bytes path ++ rest) ≡ Ok (path, rest)
unfolding path_behind path_bytes
path_again before path rest h =
    let first = byte.again (length path) (flat_map segment_bytes path ++ rest) tt in
    let second = (segments (length path)).again path rest (refl, each_from_recursion (λ s. Unit {0}) (λ before s. Unit {0}) (λ before s u. tt) None path (units path)) in
    let rule : (is_path path && is_behind before path) ≡ true = and_from (is_path path) (is_behind before path) (allowed-is_path path h.0) h.1 in
    rw (first, second, rule) refl
  where
    units : (ss : Path) → AllByRecursion (λ s. Unit {0}) ss
    units [] = tt
    units (s ∷ ss) = (tt, units ss)

pub path_after : (before : Option Path) → IsPiece (path_behind before) path_bytes (λ path. IsAllowedPath path × (is_behind before path ≡ true))
path_after before = record { takes = path_takes before; again = path_again before }

first_of_all : (path : Path) → is_behind None path ≡ true
unfolding is_behind
first_of_all path = refl

pub any_path : IsPiece path_at path_bytes IsAllowedPath
any_path = ruled IsAllowedPath (path_after None) (λ path h. h.0) (λ path h. (h, first_of_all path))
