-- First versions of paths.
use Rattle.std.proofs.Common.{◌≡◌, ◌≢◌, ℕ, suc, ◌+◌, ◌*◌, ◌-◌, ◌^◌, ◌<◌, ◌≤◌, min, cond, true, false, ◌&&◌, List, [], ◌∷◌, ◌++◌, length, map, None, refl, sym, ap, subst, ◌∙◌, append_assoc, append-nil, length-append, arith}
use Rattle.std.specs.Prelude.{⊤, sum_by, slice_get}
use Rattle.std.specs.List.{All, AllByRecursion, last_or, flat_map}
use Rattle.std.proofs.lemmas.List.Elements.{All-from_recursion, recursion_from_All}
use Rattle.std.specs.Int.{w32, w64, to_be_bytes}
use Rattle.std.specs.Option.{option_map_or}
use Rattle.std.specs.Ordering.{is_lt}
use Rattle.std.specs.FinMap.{is_sorted}
use Rattle.std.specs.FinMap.Entries.{below_all}
use Rattle.std.proofs.lemmas.Bool.{and_from, le-leb}
use Rattle.std.proofs.lemmas.List.Sums.{sum_by-cons}
use Rattle.wse_path.specs.Path.{Path, text_of}
use Rattle.wse_path.specs.Order.{path_cmp}
use Rattle.wse_path.specs.Tree.{Entries}
use Rattle.wse_path.specs.declared.change.Numbered.{Numbered}
use Rattle.wse_path.proofs.EntryLemmas.{and_parts, less_so}
use Rattle.wse_element.specs.Numbers.{is_known_bounded}
use Rattle.wse_element.proofs.RiseLemmas.{below_less}
use Rattle.wse_element.proofs.ListLemmas.{last_or_push}
use Rattle.wse_codec.specs.declared.snapshot.Snapshot.{Snapshot}
use Rattle.wse_element.specs.Record.{Record}
use Rattle.wse_codec.specs.Allowed.{numbers_of, IsAllowedState, IsSpellableState}
use Rattle.wse_codec.specs.Spelling.{segment_bytes, path_bytes, version_bytes, versions_bytes, elements_bytes, state_bytes}
use Rattle.wse_log.specs.Writing.{fresh_journal}
use Rattle.wse_recover.specs.First.{first_versions, first_state, SpellsNew}
use Rattle.wse_recover.specs.Versions.{is_behind_last, with_first, with_firsts, HasShortText}

abbrev first : Path → Numbered
first p = record { path = p; number = 1 }

sorted_push : (vs : List Numbered) (v : Numbered) → is_sorted path_cmp (numbers_of vs) ≡ true → is_behind_last vs v.path ≡ true → is_sorted path_cmp (numbers_of (vs ++ v ∷ [])) ≡ true
sorted_push [] v s b = refl
sorted_push (x ∷ []) v s b = ap (λ c. (c && true) && true) b
sorted_push (x ∷ y ∷ vs) v s b =
    let outer = and_parts (below_all path_cmp x.path (numbers_of (y ∷ vs))) (is_sorted path_cmp (numbers_of (y ∷ vs))) s in
    let here = and_parts (is_lt (path_cmp x.path y.path)) (below_all path_cmp x.path (numbers_of vs)) outer.0 in
    let more = sorted_push (y ∷ vs) v outer.1 b in
    let inner = and_parts (below_all path_cmp y.path (numbers_of (vs ++ v ∷ []))) (is_sorted path_cmp (numbers_of (vs ++ v ∷ []))) more in
    let below = below_less x.path y.path (numbers_of (vs ++ v ∷ [])) (less_so (path_cmp x.path y.path) here.0) inner.0 in
    and_from (is_lt (path_cmp x.path y.path) && below_all path_cmp x.path (numbers_of (vs ++ v ∷ []))) (is_sorted path_cmp (numbers_of (y ∷ (vs ++ v ∷ []))))
    (and_from (is_lt (path_cmp x.path y.path)) (below_all path_cmp x.path (numbers_of (vs ++ v ∷ []))) here.0 below) more

pub firsts_rise : (vs : List Numbered) (ps : List Path) → is_sorted path_cmp (numbers_of vs) ≡ true → is_sorted path_cmp (numbers_of (with_firsts vs ps)) ≡ true
firsts_rise vs [] s = s
firsts_rise vs (p ∷ ps) s =
    firsts_rise (with_first vs p) ps
    (elim (is_behind_last vs p) as (λ b. is_behind_last vs p ≡ b → is_sorted path_cmp (numbers_of (cond b (vs ++ first p ∷ []) vs)) ≡ true) [
      | true ↦ λ b. sorted_push vs (first p) s b
      | false ↦ λ b. s
    ] refl)

some_push : (vs : List Numbered) (p : Path) → AllByRecursion (λ v. v.number ≢ 0) vs → AllByRecursion (λ v. v.number ≢ 0) (vs ++ first p ∷ [])
some_push [] p all = (λ e. omega (arith, e), tt)
some_push (v ∷ vs) p all = (all.0, some_push vs p all.1)

pub firsts_some : (vs : List Numbered) (ps : List Path) → AllByRecursion (λ v. v.number ≢ 0) vs → AllByRecursion (λ v. v.number ≢ 0) (with_firsts vs ps)
firsts_some vs [] all = all
firsts_some vs (p ∷ ps) all =
    firsts_some (with_first vs p) ps
    (elim (is_behind_last vs p) as (λ b. AllByRecursion (λ v. v.number ≢ 0) (cond b (vs ++ first p ∷ []) vs)) [ true ↦ some_push vs p all | false ↦ all ])

pub firsts_few : (vs : List Numbered) (ps : List Path) → length (with_firsts vs ps) ≤ length vs + length ps
firsts_few vs [] = omega arith
firsts_few vs (p ∷ ps) =
    let one : length (with_first vs p) ≤ length vs + 1 = elim (is_behind_last vs p) as (λ b. length (cond b (vs ++ first p ∷ []) vs) ≤ length vs + 1) [ true ↦ omega (arith, length-append vs (first p ∷ [])) | false ↦ omega arith ] in
    omega (arith, firsts_few (with_first vs p) ps, one)

-- the path of the first file comes behind the versions
abbrev IsBehind : List Numbered → Entries → Type 0
IsBehind vs [] = ⊤
IsBehind vs (e ∷ es) = is_behind_last vs e.0 ≡ true

behind_next : (vs : List Numbered) (e : Path × List ℕ) (es : Entries) → below_all path_cmp e.0 es ≡ true → IsBehind (vs ++ first e.0 ∷ []) es
behind_next vs e [] below = tt
behind_next vs e (f ∷ es) below =
    ap (λ o. option_map_or (λ (v : Numbered). is_lt (path_cmp v.path f.0)) o true) (last_or_push None vs (first e.0))
    ∙ (and_parts (is_lt (path_cmp e.0 f.0)) (below_all path_cmp e.0 es) below).0

firsts_all : (vs : List Numbered) (es : Entries) → is_sorted path_cmp es ≡ true → IsBehind vs es → with_firsts vs (map (λ e. e.0) es) ≡ vs ++ first_versions es
firsts_all vs [] s b = sym (append-nil vs)
firsts_all vs (e ∷ es) s b =
    let parts = and_parts (below_all path_cmp e.0 es) (is_sorted path_cmp es) s in
    ap (λ c. with_firsts (cond c (vs ++ first e.0 ∷ []) vs) (map (λ (x : Path × List ℕ). x.0) es)) b
    ∙ firsts_all (vs ++ first e.0 ∷ []) es parts.1 (behind_next vs e es parts.0)
    ∙ append_assoc vs (first e.0 ∷ []) (first_versions es)

-- the versions of files in path order
pub firsts_of : (es : Entries) → is_sorted path_cmp es ≡ true → with_firsts [] (map (λ e. e.0) es) ≡ first_versions es
firsts_of es s = firsts_all [] es s (none_before es)
  where
    none_before : (es : Entries) → IsBehind [] es
    none_before [] = tt
    none_before (e ∷ es) = refl

-- ---- how long they are

segments_short : (path : Path) → length (flat_map segment_bytes path) ≤ length (text_of path) + 1
unfolding segment_bytes
segments_short [] = omega arith
segments_short (s ∷ []) = omega (arith, length-append (length s ∷ s) [])
segments_short (s ∷ t ∷ ss) =
    omega (arith, length-append (length s ∷ s) (flat_map segment_bytes (t ∷ ss)), length-append s (47 ∷ text_of (t ∷ ss)), segments_short (t ∷ ss))

version_short : (v : Numbered) → HasShortText v → length (version_bytes v) ≤ 4102
unfolding path_bytes version_bytes
version_short v short = omega (arith, short, segments_short v.path, length-append (path_bytes v.path) (to_be_bytes w32 v.number))

row_short : (vs : List Numbered) → AllByRecursion HasShortText vs → length (flat_map version_bytes vs) ≤ 4102 * length vs
row_short [] all = omega arith
row_short (v ∷ vs) all = omega (arith, length-append (version_bytes v) (flat_map version_bytes vs), version_short v all.0, row_short vs all.1)

pub state_short : (vs : List Numbered) → length vs ≤ 65536 → AllByRecursion HasShortText vs → length (state_bytes (record { serial = 0; next_id = 1; versions = vs; elements = [] })) < 2 ^ 32
unfolding versions_bytes elements_bytes state_bytes
state_short vs few all =
    let row = versions_bytes vs ++ elements_bytes [] in
    omega (
      arith,
      few,
      row_short vs all,
      length-append (to_be_bytes w64 0) (to_be_bytes w64 1 ++ row),
      length-append (to_be_bytes w64 1) row,
      length-append (versions_bytes vs) (elements_bytes []),
      length-append (to_be_bytes w32 (length vs)) (flat_map version_bytes vs),
    )

known_short : (vs : List Numbered) → AllByRecursion HasShortText vs → sum_by (λ e. 32 + length (text_of e.0)) (numbers_of vs) ≤ 4128 * length vs
known_short [] all = omega arith
known_short (v ∷ vs) all =
    omega (arith, sum_by-cons (λ (e : Path × ℕ). 32 + length (text_of e.0)) (v.path, v.number) (numbers_of vs), all.0, known_short vs all.1)

pub known_within : (vs : List Numbered) → length vs ≤ 65536 → AllByRecursion HasShortText vs → is_known_bounded (numbers_of vs) ≡ true
known_within vs few all =
    le-leb (min (sum_by (λ (e : Path × ℕ). 32 + length (text_of e.0)) (numbers_of vs)) (2 ^ 64 - 1)) (2 ^ 29) (omega (arith, few, known_short vs all))

pub last_is : {X : Type 0} (xs : List X) → slice_get xs (length xs - 1) ≡ last_or None xs
last_is [] = refl
last_is (x ∷ []) = refl
last_is (x ∷ y ∷ ys) =
    let one : length (x ∷ y ∷ ys) - 1 ≡ suc (length (y ∷ ys) - 1) = omega arith in
    ap (slice_get (x ∷ y ∷ ys)) one ∙ last_is (y ∷ ys)

-- ---- the state of a new store

module _ (paths : List Path) (vs : List Numbered) (es : List Record) (few : length paths ≤ 65536) (short : All HasShortText vs) (is : vs ≡ with_firsts [] paths) (none : es ≡ []) where
  each : AllByRecursion HasShortText vs
  each = recursion_from_All HasShortText vs short

  count : length vs ≤ 65536
  count = omega (arith, few, firsts_few [] paths, ap length is)

  pub spellable : IsSpellableState (record { serial = 0; next_id = 1; versions = vs; elements = es })
  spellable = subst (λ (rs : List Record). IsSpellableState (record { serial = 0; next_id = 1; versions = vs; elements = rs })) (sym none) (record {
    rise = ap (λ ns. is_sorted path_cmp (numbers_of ns)) is ∙ firsts_rise [] paths refl;
    some = subst (λ ns. All (λ v. v.number ≢ 0) ns) (sym is) (All-from_recursion (λ v. v.number ≢ 0) (with_firsts [] paths) (firsts_some [] paths tt));
    short = state_short vs count each;
  })

  pub spells_new : (body bytes : List ℕ) (files : Entries) → IsAllowedState (record { serial = 0; next_id = 1; versions = vs; elements = es }) → body ≡ state_bytes (record { serial = 0; next_id = 1; versions = vs; elements = es }) → bytes ≡ fresh_journal body
      → paths ≡ map (λ e. e.0) files → is_sorted path_cmp files ≡ true → SpellsNew files bytes
  spells_new body bytes files allowed body_is bytes_are names sorted =
      let same : vs ≡ first_versions files = is ∙ ap (with_firsts []) names ∙ firsts_of files sorted in
      let start : Snapshot = record { serial = 0; next_id = 1; versions = vs; elements = es } in
      let whole : start ≡ first_state files = (λ i. record { serial = 0; next_id = 1; versions = same i; elements = none i }) in
      record {
        spelled = bytes_are ∙ ap fresh_journal (body_is ∙ ap state_bytes whole);
        short = subst (λ (s : Snapshot). length (state_bytes s) < 2 ^ 32) whole spellable.short;
        allowed = subst IsAllowedState whole allowed;
        known = subst (λ (ns : List Numbered). is_known_bounded (numbers_of ns) ≡ true) same (known_within vs count each);
      }
