-- A list of effects of one command, one after the other, with the versions.
use Rattle.std.proofs.Common.{◌≡◌, ◌≢◌, ℕ, suc, ◌+◌, ◌<◌, Bool, true, false, cond, not, ◌&&◌, List, [], ◌∷◌, ◌++◌, length, take, Option, Some, None, refl, sym, ap, subst, ◌∙◌, append_assoc, append-nil, ◌*◌, ◌^◌, arith}
use Rattle.std.specs.Prelude.{find, slice_get, nat_le}
use Rattle.std.specs.List.{range_with_len, AllByRecursion}
use Rattle.std.specs.Option.{option_map_or}
use Rattle.std.proofs.lemmas.Bool.{and_from, leb-true}
use Rattle.std.proofs.lemmas.Option.{none-some}
use Rattle.wse_path.specs.Tree.{Entries, set_files}
use Rattle.wse_path.specs.Versions.{Numbers}
use Rattle.wse_path.proofs.EntryLemmas.{and_parts}
use Rattle.wse_element.specs.declared.effect.Effect.{Effect}
use Rattle.wse_element.specs.Record.{AreParts}
use Rattle.wse_element.specs.State.{StacksState, Kept, stacks_of, kept_of}
use Rattle.wse_element.specs.Effects.{after, after_each, begun, contents_set, files_after_each, versions_after, versions_after_each, ids_taken}
use Rattle.wse_element.specs.Applicable.{may_come, is_applicable, is_first_to_set, is_applicable_behind, is_applicable_at, may_bump, keeps_versions, keeps_versions_at}
use Rattle.wse_element.specs.Numbers.{is_bounded, is_serial_bounded, is_next_id_bounded, is_weight_bounded, are_versions_bounded, is_known_bounded}
use Rattle.wse_element.specs.Linked.{IsTreeLinkedAt}
use Rattle.wse_element.specs.Laws.{PushesParts, Raises, AreTogether, AllApply, NoneIsRefused, StateStaysLinked}
use Rattle.wse_element.proofs.EffectLemmas.{linked_after}
use Rattle.wse_element.proofs.KeptLemmas.{parts_after}
use Rattle.wse_element.proofs.TreeLemmas.{tree_after}
use Rattle.wse_element.proofs.NumberLemmas.{AreVersions, are_versions_after}

-- ---- a list with one more at its end

pub take_front : {X : Type 0} (xs ys : List X) → take (length xs) (xs ++ ys) ≡ xs
take_front [] ys = refl
take_front (x ∷ xs) ys = ap (λ zs. x ∷ zs) (take_front xs ys)

pub get_behind : {X : Type 0} (xs : List X) (y : X) (ys : List X) → slice_get (xs ++ y ∷ ys) (length xs) ≡ Some y
get_behind [] y ys = refl
get_behind (x ∷ xs) y ys = get_behind xs y ys

pub length_one_more : {X : Type 0} (xs : List X) (x : X) → length (xs ++ x ∷ []) ≡ suc (length xs)
length_one_more [] x = refl
length_one_more (y ∷ xs) x = ap suc (length_one_more xs x)

pub after_behind : (h : StacksState) (es fs : List Effect) → after_each h (es ++ fs) ≡ after_each (after_each h es) fs
after_behind h [] fs = refl
after_behind h (e ∷ es) fs = after_behind (after h e) es fs

pub versions_behind : (v : Numbers) (es fs : List Effect) → versions_after_each v (es ++ fs) ≡ versions_after_each (versions_after_each v es) fs
versions_behind v [] fs = refl
versions_behind v (e ∷ es) fs = versions_behind (versions_after v e) es fs

-- ---- none is refused, and each applies

abbrev passes : Kept → List Effect → ℕ → Bool
passes kept effects i = is_applicable_at (stacks_of kept) effects i && keeps_versions_at kept effects i

-- the test of the effect behind those before it
here : (kept : Kept) (before : List Effect) (e : Effect) (more : List Effect) → passes kept (before ++ e ∷ more) (length before)
    ≡ (is_applicable_behind (stacks_of kept) before e && keeps_versions (kept.serial + 1) (versions_after_each kept.versions before) e)
here kept before e more =
    let all = before ++ e ∷ more in
    (λ i. option_map_or (is_applicable_behind (stacks_of kept) (take (length before) all)) (get_behind before e more i) false
    && option_map_or (keeps_versions (kept.serial + 1) (versions_after_each kept.versions (take (length before) all))) (get_behind before e more i) false)
    ∙ (λ i. is_applicable_behind (stacks_of kept) (take_front before (e ∷ more) i) e
    && keeps_versions (kept.serial + 1) (versions_after_each kept.versions (take_front before (e ∷ more) i)) e)

next_index : (before : List Effect) (e : Effect) (k : ℕ) → k ≡ length before → k + 1 ≡ length (before ++ e ∷ [])
next_index before e k is = (let s : k + 1 ≡ suc k = omega arith in s) ∙ ap suc is ∙ sym (length_one_more before e)

-- the state and the versions after one more effect, in either form
same_apply : (kept : Kept) (before : List Effect) (e : Effect) (more : List Effect)
    → AllApply (kept.serial + 1) (after_each (begun (stacks_of kept)) (before ++ e ∷ [])) (versions_after_each kept.versions (before ++ e ∷ [])) (before ++ e ∷ []) more
    ≡ AllApply (kept.serial + 1) (after (after_each (begun (stacks_of kept)) before) e) (versions_after (versions_after_each kept.versions before) e) (before ++ e ∷ []) more
same_apply kept before e more =
    λ i. AllApply (kept.serial + 1) (after_behind (begun (stacks_of kept)) before (e ∷ []) i) (versions_behind kept.versions before (e ∷ []) i) (before ++ e ∷ []) more

-- of a search that finds nothing
found_none : (test : Bool) (k : ℕ) (rest : Option ℕ) → cond (not test) (Some k) rest ≡ None → record { passed : test ≡ true; on : rest ≡ None }
found_none true k rest h = record { passed = refl; on = h }
found_none false k rest h = absurd (none-some k (sym h))

apply_from : (kept : Kept) (before more : List Effect) (k : ℕ) → k ≡ length before
    → find (λ i. not (passes kept (before ++ more) i)) (range_with_len k (length more)) ≡ None
    → AllApply (kept.serial + 1) (after_each (begun (stacks_of kept)) before) (versions_after_each kept.versions before) before more
apply_from kept before [] k e none = tt
apply_from kept before (x ∷ more) k e none =
    let all = before ++ x ∷ more in
    let now = after_each (begun (stacks_of kept)) before in
    let first = found_none (passes kept all k) k (find (λ i. not (passes kept all i)) (range_with_len (k + 1) (length more))) none in
    let parts = and_parts (is_applicable_behind (stacks_of kept) before x) (keeps_versions (kept.serial + 1) (versions_after_each kept.versions before) x)
    (sym (ap (passes kept all) e ∙ here kept before x more) ∙ first.passed) in
    let applies = and_parts (is_first_to_set before x) (is_applicable now x) parts.0 in
    let rest = apply_from kept (before ++ x ∷ []) more (k + 1) (next_index before x k e)
    (subst (λ (es : List Effect). find (λ i. not (passes kept es i)) (range_with_len (k + 1) (length more)) ≡ None) (sym (append_assoc before (x ∷ []) more)) first.on) in
    (applies.0, applies.1, parts.1, subst (λ (T : Type 0). T) (same_apply kept before x more) rest)

refused_from : (kept : Kept) (before more : List Effect) (k : ℕ) → k ≡ length before
    → AllApply (kept.serial + 1) (after_each (begun (stacks_of kept)) before) (versions_after_each kept.versions before) before more
    → find (λ i. not (passes kept (before ++ more) i)) (range_with_len k (length more)) ≡ None
refused_from kept before [] k e all = refl
refused_from kept before (x ∷ more) k e all =
    let effects = before ++ x ∷ more in
    let now = after_each (begun (stacks_of kept)) before in
    let versions = versions_after_each kept.versions before in
    let passed : passes kept effects k ≡ true = ap (passes kept effects) e ∙ here kept before x more
    ∙ and_from (is_applicable_behind (stacks_of kept) before x) (keeps_versions (kept.serial + 1) versions x) (and_from (is_first_to_set before x) (is_applicable now x) all.0 all.1) all.2 in
    let rest = refused_from kept (before ++ x ∷ []) more (k + 1) (next_index before x k e) (subst (λ (T : Type 0). T) (sym (same_apply kept before x more)) all.3) in
    ap (λ b. cond (not b) (Some k) (find (λ i. not (passes kept effects i)) (range_with_len (k + 1) (length more)))) passed
    ∙ subst (λ (es : List Effect). find (λ i. not (passes kept es i)) (range_with_len (k + 1) (length more)) ≡ None) (append_assoc before (x ∷ []) more) rest

pub none_refused : NoneIsRefused
none_refused = record {
  apply = λ kept effects none. apply_from kept [] effects 0 refl none;
  refused = λ kept effects all. refused_from kept [] effects 0 refl all;
}

-- one list behind another
pub apply_behind : (serial : ℕ) (h : StacksState) (versions : Numbers) (before es fs : List Effect) → AllApply serial h versions before es
    → AllApply serial (after_each h es) (versions_after_each versions es) (before ++ es) fs → AllApply serial h versions before (es ++ fs)
apply_behind serial h versions before [] fs all more =
    subst (λ (bs : List Effect). AllApply serial h versions bs fs) (append-nil before) more
apply_behind serial h versions before (e ∷ es) fs all more = (
  all.0,
  all.1,
  all.2,
  apply_behind serial (after h e) (versions_after versions e) (before ++ e ∷ []) es fs all.3
      (subst (λ (bs : List Effect). AllApply serial (after_each (after h e) es) (versions_after_each (versions_after versions e) es) bs fs) (sym (append_assoc before (e ∷ []) es)) more),
)

-- ---- a whole state through the fold

record Goes (h : StacksState) (files : Entries) : Type 0 where
  together : AreTogether h files
  positive : 0 < h.next_id

goes_next : (h : StacksState) (files : Entries) (e : Effect) → PushesParts e → may_come h e ≡ true → Goes h files → Goes (after h e) (set_files (contents_set h.records e) files)
goes_next h files e parts may goes =
    let t = goes.together in
    record {
      together = record {
        parts = parts_after h.records e t.parts parts;
        linked = linked_after h e goes.positive t.parts parts may t.linked;
        tree = tree_after h e files parts may t;
      };
      positive = let p : 0 < h.next_id = goes.positive in (let q : 0 < h.next_id + ids_taken h.records e = omega arith in q);
    }

goes_each : (serial : ℕ) (h : StacksState) (versions : Numbers) (files : Entries) (before effects : List Effect) → AllByRecursion PushesParts effects
    → AllApply serial h versions before effects → Goes h files → Goes (after_each h effects) (files_after_each h effects files)
goes_each serial h versions files before [] parts all goes = goes
goes_each serial h versions files before (e ∷ es) parts all goes =
    let may = (and_parts (may_come h e) (is_bounded (after h e)) all.1).0 in
    goes_each serial (after h e) (versions_after versions e) (set_files (contents_set h.records e) files) (before ++ e ∷ []) es parts.1 all.3 (goes_next h files e parts.0 may goes)

-- the bounds that the last effect keeps
record Bounds (serial : ℕ) (h : StacksState) (versions : Numbers) : Type 0 where
  bounded : is_bounded h ≡ true
  numbers : are_versions_bounded serial versions ≡ true
  known : is_known_bounded versions ≡ true

bounds_each : (serial : ℕ) (h : StacksState) (versions : Numbers) (before effects : List Effect) → effects ≢ [] → AllApply serial h versions before effects
    → Bounds serial (after_each h effects) (versions_after_each versions effects)
bounds_each serial h versions before [] some all = absurd (some refl)
bounds_each serial h versions before (e ∷ []) some all =
    let v = and_parts (may_bump versions e && are_versions_bounded serial (versions_after versions e)) (is_known_bounded (versions_after versions e)) all.2 in
    record {
      bounded = (and_parts (may_come h e) (is_bounded (after h e)) all.1).1;
      numbers = (and_parts (may_bump versions e) (are_versions_bounded serial (versions_after versions e)) v.0).1;
      known = v.1;
    }
bounds_each serial h versions before (e ∷ x ∷ es) some all = bounds_each serial (after h e) (versions_after versions e) (before ++ e ∷ []) (x ∷ es) (λ k. cc) all.3

versions_each : (versions : Numbers) (effects : List Effect) → AllByRecursion Raises effects → AreVersions versions → AreVersions (versions_after_each versions effects)
versions_each versions [] raises are = are
versions_each versions (e ∷ es) raises are = versions_each (versions_after versions e) es raises.1 (are_versions_after versions e raises.0 are)

-- files don't depend on the serial number
pub files_begun : (h : StacksState) (n : ℕ) (effects : List Effect) (files : Entries) → files_after_each (record h { serial = n }) effects files ≡ files_after_each h effects files
files_begun h n [] files = refl
files_begun h n (e ∷ es) files = files_begun (after h e) n es (set_files (contents_set h.records e) files)

pub serial_stays : (h : StacksState) (effects : List Effect) → (after_each h effects).serial ≡ h.serial
serial_stays h [] = refl
serial_stays h (e ∷ es) = serial_stays (after h e) es

-- the records' parts, whether or not the effects apply
pub parts_each : (h : StacksState) (effects : List Effect) → AllByRecursion (λ r. AreParts r.parts) h.records → AllByRecursion PushesParts effects
    → AllByRecursion (λ r. AreParts r.parts) (after_each h effects).records
parts_each h [] parts pushes = parts
parts_each h (e ∷ es) parts pushes = parts_each (after h e) es (parts_after h.records e parts pushes.0) pushes.1

-- a bounded state has a next id
pub next_id_some : (h : StacksState) → is_bounded h ≡ true → 0 < h.next_id
next_id_some h b =
    let first = and_parts (is_serial_bounded h && is_next_id_bounded h) (is_weight_bounded h) b in
    let second = and_parts (is_serial_bounded h) (is_next_id_bounded h) first.0 in
    let id = leb-true 1 h.next_id (and_parts (nat_le 1 h.next_id) (nat_le h.next_id (1 + h.serial * 2 ^ 32)) second.1).0 in
    omega (arith, id)

pub state_stays : StateStaysLinked
state_stays s effects parts pushes raises some none linked tree =
    let kept = kept_of s in
    let all = none_refused.apply kept effects none in
    let goes = goes_each (kept.serial + 1) (begun (stacks_of kept)) kept.versions s.files [] effects pushes all
    (record { together = record { parts = parts; linked = linked.kept.records; tree = linked.each }; positive = next_id_some (stacks_of kept) linked.kept.bounded }) in
    let bounds = bounds_each (kept.serial + 1) (begun (stacks_of kept)) kept.versions [] effects some all in
    let versions = versions_each kept.versions effects raises (record { rise = linked.kept.rise; some = linked.kept.some }) in
    let now = after_each (begun (stacks_of kept)) effects in
    let serial : now.serial ≡ kept.serial + 1 = serial_stays (begun (stacks_of kept)) effects in
    record {
      kept = record {
        records = goes.together.linked;
        rise = versions.rise;
        some = versions.some;
        bounded = bounds.bounded;
        versions = subst (λ (n : ℕ). are_versions_bounded n (versions_after_each kept.versions effects) ≡ true) (sym serial) bounds.numbers;
        known = bounds.known;
      };
      tree = tree;
      each = λ p. subst (λ (files : Entries). IsTreeLinkedAt files now.records p) (files_begun (stacks_of kept) (kept.serial + 1) effects s.files) (goes.together.tree p);
    }
