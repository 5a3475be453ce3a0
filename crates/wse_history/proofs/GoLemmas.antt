-- What a ruling gives.
use Rattle.std.proofs.Common.{◌≡◌, ◌≢◌, inl, inr, ℕ, eqb, Bool, true, false, cond, not, ◌&&◌, ◌||◌, List, [], ◌∷◌, length, map, Option, Some, None, is_some, refl, sym, ap, subst, ◌<◌, ◌≤◌, ◌∙◌, arith}
use Rattle.std.specs.Prelude.{filter, find, nat_le, nat_lt}
use Rattle.std.specs.List.{list_any, list_all, AllByRecursion}
use Rattle.std.specs.Option.{option_map_or}
use Rattle.std.specs.Ordering.{eq_by_cmp}
use Rattle.std.proofs.lemmas.Bool.{and_from, or_parts, or_left, or_right, eq-eqb, false≢true, true≢false, le-leb, lt-ltb}
use Rattle.std.proofs.lemmas.Option.{none-some}
use Rattle.wse_path.specs.Path.{Path}
use Rattle.wse_path.specs.Order.{path_cmp}
use Rattle.wse_path.specs.declared.command.Choice.{Choice}
use Rattle.wse_path.specs.declared.command.Choice.TheVariants.{All, This, Cancel, Turned}
use Rattle.wse_path.specs.declared.command.Direction.{Direction}
use Rattle.wse_path.specs.declared.command.Direction.TheVariants.{Back, Forward}
use Rattle.wse_path.proofs.EntryLemmas.{and_parts}
use Rattle.wse_path.proofs.PathOrder.{same_path}
use Rattle.wse_locks.specs.Locks.{Holders, is_held}
use Rattle.wse_element.specs.Content.{Content, old_content, new_content}
use Rattle.wse_element.specs.Record.{RecordPart, Record, AreParts}
use Rattle.wse_element.specs.Live.{is_live, is_live_part_at, is_live_at, is_valid_at, live_parts}
use Rattle.wse_element.specs.Stacks.{past, future, closest_past, closest_future, ids, has_id, record_of}
use Rattle.wse_element.specs.State.{StacksState}
use Rattle.wse_element.specs.Effects.{old_contents, new_contents}
use Rattle.wse_element.specs.Apart.{are_apart, is_apart, old_paths, new_paths}
use Rattle.wse_element.specs.Applicable.{is_whole, is_closest, may_come, may_split, may_go_back, may_go_forward}
use Rattle.wse_element.specs.Linked.{are_different}
use Rattle.wse_element.proofs.ListLemmas.{filter_all, list_all_weaker, find_among, find-any}
use Rattle.wse_rules.specs.Ruling.{closest, one_ruling, all_paths, paths_where, Blocking, blocked, chosen_ruling, choice_for, across_ruling, ruling_of, ruling}
use Rattle.wse_rules.specs.declared.ruling.Cause.{Cause}
use Rattle.wse_rules.specs.declared.ruling.Cause.TheVariants as causes
use Rattle.wse_rules.specs.declared.ruling.Ruling.TheVariants as rulings
use Rattle.wse_element.proofs.CloseLemmas.{In, in_filter, in_last, found_by_id}
use Rattle.wse_element.proofs.AfterLemmas.{ends_with, begins_with}
use Rattle.wse_element.specs.Way.{comes, coming}
use Rattle.wse_element.proofs.WayLemmas.{tree_where_free}
use Rattle.wse_history.specs.Moves.{move_effect}
use Rattle.wse_history.proofs.Words.{stands_for, may_go, AreLinked, GoesMayCome, SplitsMayCome, MovesLeaveATree}

-- ---- the closest record

in_passes : (r : Record) (test : Record → Bool) (xs : List Record) → In r (filter test xs) → test r ≡ true
in_passes r test [] there = absurd there
in_passes r test (x ∷ xs) there =
    elim (test x) as (λ b. test x ≡ b → In r (cond b (x ∷ filter test xs) (filter test xs)) → test r ≡ true) [
      | true ↦ λ e k. elim k [ inl here ↦ ap test here ∙ e | inr later ↦ in_passes r test xs later ]
      | false ↦ λ e k. in_passes r test xs k
    ] refl there

-- What is known of the closest record at a path.
pub record StandsAt (direction : Direction) (records : List Record) (p : Path) (r : Record) : Type 0 where
  pub among : In r records
  pub live : is_live_at p r ≡ true
  pub stands : stands_for direction r ≡ true

pub closest_stands : (direction : Direction) (records : List Record) (p : Path) (r : Record) → closest direction records p ≡ Some r → StandsAt direction records p r
closest_stands Back records p r is =
    let ends = ends_with (past records p) r is in
    let there : In r (past records p) = subst (λ rs. In r rs) (sym ends.is) (in_last r ends.front) in
    let both = and_parts r.done (is_live_at p r) (in_passes r (λ x. x.done && is_live_at p x) records there) in
    record { among = in_filter r (λ x. x.done && is_live_at p x) records there; live = both.1; stands = both.0 }
closest_stands Forward records p r is =
    let begins = begins_with (future records p) r is in
    let there : In r (future records p) = subst (λ rs. In r rs) (sym begins.is) (inl refl) in
    let both = and_parts (not r.done) (is_live_at p r) (in_passes r (λ x. not x.done && is_live_at p x) records there) in
    record { among = in_filter r (λ x. not x.done && is_live_at p x) records there; live = both.1; stands = both.0 }

in_has_id : (r : Record) (xs : List Record) → In r xs → list_any (has_id r.id) xs ≡ true
in_has_id r [] there = absurd there
in_has_id r (x ∷ xs) there = elim there [
  | inl here ↦ or_left (has_id r.id x) (list_any (has_id r.id) xs) (eq-eqb x.id r.id (ap (λ (y : Record). y.id) (sym here)))
  | inr later ↦ or_right (has_id r.id x) (list_any (has_id r.id) xs) (in_has_id r xs later)
]

found_from : (xs : List Record) (r : Record) (o : Option Record) → are_different (ids xs) ≡ true → In r xs → record_of xs r.id ≡ o → record_of xs r.id ≡ Some r
found_from xs r None different there is = absurd (false≢true (sym (ap is_some is) ∙ find-any (has_id r.id) xs ∙ in_has_id r xs there))
found_from xs r (Some c) different there is = is ∙ ap Some (sym (found_by_id xs c r different is there))

-- a record of the list is found by its id
pub found_itself : (xs : List Record) (r : Record) → are_different (ids xs) ≡ true → In r xs → record_of xs r.id ≡ Some r
found_itself xs r different there = found_from xs r (record_of xs r.id) different there refl

pub parts_in : (records : List Record) (r : Record) → AllByRecursion (λ x. AreParts x.parts) records → In r records → AreParts r.parts
parts_in [] r all there = absurd there
parts_in (x ∷ records) r all there = elim there [
  | inl here ↦ subst (λ (y : Record). AreParts y.parts) (sym here) all.0
  | inr later ↦ parts_in records r all.1 later
]

itself_closest : (direction : Direction) (records : List Record) (p : Path) (r : Record) → closest direction records p ≡ Some r → is_closest r.id (closest direction records p) ≡ true
itself_closest direction records p r is = ap (is_closest r.id) is ∙ eq-eqb r.id r.id refl

-- ---- a record of one part

one_whole : (p : Path) (parts : List RecordPart) → parts ≢ [] → nat_le 2 (length parts) ≡ false → is_some (find (is_live_part_at p) parts) ≡ true → option_map_or (λ part. part.valid) (find (is_live_part_at p) parts) false ≡ true
    → record { whole : list_all (λ part. is_live part.state && part.valid) parts ≡ true; at : list_all (λ part. eq_by_cmp path_cmp p part.path) parts ≡ true }
one_whole p [] some few live valid = absurd (some refl)
one_whole p (part ∷ second ∷ more) some few live valid =
    let two : 2 ≤ length (part ∷ second ∷ more) = omega arith in
    absurd (true≢false (sym (le-leb 2 (length (part ∷ second ∷ more)) two) ∙ few))
one_whole p (part ∷ []) some few live valid =
    elim (is_live_part_at p part) as (λ b. is_live_part_at p part ≡ b → is_some (cond b (Some part) None) ≡ true → option_map_or (λ x. x.valid) (cond b (Some part) None) false ≡ true
    → record { whole : (is_live part.state && part.valid && true) ≡ true; at : (eq_by_cmp path_cmp p part.path && true) ≡ true }) [
      | true ↦ λ e l v.
          let both = and_parts (eq_by_cmp path_cmp p part.path) (is_live part.state) e in
          record { whole = λ i. both.1 i && v i && true; at = λ i. both.0 i && true }
      | false ↦ λ e l v. absurd (false≢true l)
    ] refl live valid

one_go : (locks : Holders) (by : ℕ) (p : Path) (r : Record) (id : ℕ) → one_ruling locks by p r ≡ rulings.Go id → (is_valid_at p r ≡ true) × (r.id ≡ id)
one_go locks by p r id h =
    elim (is_valid_at p r) as (λ b. is_valid_at p r ≡ b → cond (not b) (rulings.Flush causes.Invalid (p ∷ []) (p ∷ [])) (cond (is_held locks by p) (rulings.Locked (p ∷ [])) (rulings.Go r.id)) ≡ rulings.Go id → (is_valid_at p r ≡ true) × (r.id ≡ id)) [
      | true ↦ λ e. elim (is_held locks by p) as (λ b. cond b (rulings.Locked (p ∷ [])) (rulings.Go r.id) ≡ rulings.Go id → (is_valid_at p r ≡ true) × (r.id ≡ id)) [ true ↦ λ k. cc | false ↦ λ k. (e, cc) ]
      | false ↦ λ e k. cc
    ] refl h

-- the closest record, if it has one part and is ruled to go, may go
pub one_may : (direction : Direction) (records : List Record) (locks : Holders) (by : ℕ) (p : Path) (r : Record) (id : ℕ) → AreParts r.parts → nat_le 2 (length r.parts) ≡ false → closest direction records p ≡ Some r
    → one_ruling locks by p r ≡ rulings.Go id → (r.id ≡ id) × (may_go direction records r ≡ true)
one_may direction records locks by p r id are few is go =
    let found = closest_stands direction records p r is in
    let rules = one_go locks by p r id go in
    let one = one_whole p r.parts are.some few found.live rules.0 in
    let close = list_all_weaker (λ part. eq_by_cmp path_cmp p part.path) (λ part. is_closest r.id (closest direction records part.path))
    (λ part e. subst (λ x. is_closest r.id (closest direction records x) ≡ true) (same_path p part.path e) (itself_closest direction records p r is)) r.parts one.at in
    (rules.1, and_from (stands_for direction r && is_whole r) (list_all (λ part. is_closest r.id (closest direction records part.path)) r.parts) (and_from (stands_for direction r) (is_whole r) found.stands one.whole) close)

-- ---- a record of several parts

chosen_go : (choice : Choice) (r : Record) (id : ℕ) → chosen_ruling choice r ≡ rulings.Go id → r.id ≡ id
chosen_go All r id h = cc
chosen_go This r id h = cc
chosen_go Cancel r id h = cc
chosen_go (Turned files) r id h = cc

across_go : (o : Option Blocking) (choice : Choice) (r : Record) (id : ℕ) → across_ruling o choice r ≡ rulings.Go id → (o ≡ None) × (r.id ≡ id)
across_go (Some b) choice r id h =
    elim r.splits as (λ s. cond s (rulings.Split r.id b.cause b.files) (rulings.Flush b.cause b.files (all_paths r)) ≡ rulings.Go id → (Some b ≡ None) × (r.id ≡ id)) [ true ↦ λ k. cc | false ↦ λ k. cc ] h
across_go None choice r id h =
    elim r.splits as (λ s. cond s (chosen_ruling choice r) (rulings.Go r.id) ≡ rulings.Go id → (None ≡ None) × (r.id ≡ id)) [ true ↦ λ k. (refl, chosen_go choice r id k) | false ↦ λ k. (refl, cc) ] h

find_none : (b : Bool) (x : Blocking) (rest : Option Blocking) → cond b (Some x) rest ≡ None → (b ≡ false) × (rest ≡ None)
find_none true x rest h = absurd (none-some x (sym h))
find_none false x rest h = (refl, h)

none_where : (test : RecordPart → Bool) (parts : List RecordPart) → nat_lt 0 (length (map (λ part. part.path) (filter test parts))) ≡ false → list_any test parts ≡ false
none_where test [] h = refl
none_where test (x ∷ parts) h =
    elim (test x) as (λ b. nat_lt 0 (length (map (λ part. part.path) (cond b (x ∷ filter test parts) (filter test parts)))) ≡ false → (b || list_any test parts) ≡ false) [
      | true ↦ λ k.
          let rest = map (λ part. part.path) (filter test parts) in
          let some : 0 < length (x.path ∷ rest) = omega arith in
          absurd (true≢false (sym (lt-ltb 0 (length (x.path ∷ rest)) some) ∙ k))
      | false ↦ λ k. none_where test parts k
    ] h

all_three : (l c v : Bool) → not l ≡ false → (l && not c) ≡ false → (l && not v) ≡ false → (l ≡ true) × (c ≡ true) × (v ≡ true)
all_three false c v live close valid = absurd (true≢false live)
all_three true false v live close valid = absurd (true≢false close)
all_three true true false live close valid = absurd (true≢false valid)
all_three true true true live close valid = (refl, refl, refl)

all_clear : (close : RecordPart → Bool) (parts : List RecordPart) → list_any (λ part. not (is_live part.state)) parts ≡ false → list_any (λ part. is_live part.state && not (close part)) parts ≡ false
    → list_any (λ part. is_live part.state && not part.valid) parts ≡ false → (list_all (λ part. is_live part.state && part.valid) parts ≡ true) × (list_all close parts ≡ true)
all_clear close [] gone changed invalid = (refl, refl)
all_clear close (x ∷ parts) gone changed invalid =
    let a = or_parts (not (is_live x.state)) (list_any (λ part. not (is_live part.state)) parts) gone in
    let b = or_parts (is_live x.state && not (close x)) (list_any (λ part. is_live part.state && not (close part)) parts) changed in
    let c = or_parts (is_live x.state && not x.valid) (list_any (λ part. is_live part.state && not part.valid) parts) invalid in
    let here = all_three (is_live x.state) (close x) x.valid a.0 b.0 c.0 in
    let rest = all_clear close parts a.1 b.1 c.1 in
    ((λ i. here.0 i && here.2 i && rest.0 i), (λ i. here.1 i && rest.1 i))

unblocked : (direction : Direction) (records : List Record) (locks : Holders) (by : ℕ) (r : Record) → blocked direction records locks by r ≡ None
    → (is_whole r ≡ true) × (list_all (λ part. is_closest r.id (closest direction records part.path)) r.parts ≡ true)
unblocked direction records locks by r none =
    let close : RecordPart → Bool = λ part. is_closest r.id (closest direction records part.path) in
    let gone = paths_where (λ part. not (is_live part.state)) r in
    let changed = paths_where (λ part. is_live part.state && not (close part)) r in
    let held = paths_where (λ part. is_live part.state && is_held locks by part.path) r in
    let invalid = paths_where (λ part. is_live part.state && not part.valid) r in
    let some : Blocking → Bool = λ b. nat_lt 0 (length b.files) in
    let last : Blocking = record { cause = causes.Invalid; files = invalid } in
    let third : Blocking = record { cause = causes.Locked; files = held } in
    let second : Blocking = record { cause = causes.Changed; files = changed } in
    let first : Blocking = record { cause = causes.Removed; files = gone } in
    let a = find_none (some first) first (find some (second ∷ third ∷ last ∷ [])) none in
    let b = find_none (some second) second (find some (third ∷ last ∷ [])) a.1 in
    let c = find_none (some third) third (find some (last ∷ [])) b.1 in
    let d = find_none (some last) last None c.1 in
    all_clear close r.parts (none_where (λ part. not (is_live part.state)) r.parts a.0) (none_where (λ part. is_live part.state && not (close part)) r.parts b.0) (none_where (λ part. is_live part.state && not part.valid) r.parts d.0)

-- ---- both

ruled_go : (direction : Direction) (records : List Record) (locks : Holders) (by : ℕ) (p : Path) (choice : Choice) (r : Record) (id : ℕ) → AreParts r.parts → closest direction records p ≡ Some r
    → ruling_of direction records locks by p choice r ≡ rulings.Go id → (r.id ≡ id) × (may_go direction records r ≡ true)
ruled_go direction records locks by p choice r id are is go =
    elim (nat_le 2 (length r.parts)) as (λ b. nat_le 2 (length r.parts) ≡ b → cond b (across_ruling (blocked direction records locks by r) (choice_for direction choice) r) (one_ruling locks by p r) ≡ rulings.Go id → (r.id ≡ id) × (may_go direction records r ≡ true)) [
      | true ↦ λ _ k.
          let across = across_go (blocked direction records locks by r) (choice_for direction choice) r id k in
          let clear = unblocked direction records locks by r across.0 in
          (across.1, and_from (stands_for direction r && is_whole r) (list_all (λ part. is_closest r.id (closest direction records part.path)) r.parts) (and_from (stands_for direction r) (is_whole r) (closest_stands direction records p r is).stands clear.0) clear.1)
      | false ↦ λ few k. one_may direction records locks by p r id are few is k
    ] refl go

may_move : (direction : Direction) (h : StacksState) (r : Record) → record_of h.records r.id ≡ Some r → may_go direction h.records r ≡ true → may_come h (move_effect direction r.id) ≡ true
may_move Back h r is may = ap (λ (o : Option Record). option_map_or (may_go_back h.records) o false) is ∙ may
may_move Forward h r is may = ap (λ (o : Option Record). option_map_or (may_go_forward h.records) o false) is ∙ may

-- the closest record that may go may be moved
pub closest_may_move : (direction : Direction) (h : StacksState) (p : Path) (r : Record) (id : ℕ) → AreLinked h → closest direction h.records p ≡ Some r → (r.id ≡ id) × (may_go direction h.records r ≡ true) → may_come h (move_effect direction id) ≡ true
closest_may_move direction h p r id all is may =
    let found = closest_stands direction h.records p r is in
    subst (λ n. may_come h (move_effect direction n) ≡ true) may.0 (may_move direction h r (found_itself h.records r all.linked.different found.among) may.1)

goes_with : (direction : Direction) (h : StacksState) (locks : Holders) (by : ℕ) (p : Path) (choice : Choice) (id : ℕ) (o : Option Record) → AreLinked h → closest direction h.records p ≡ o
    → option_map_or (ruling_of direction h.records locks by p choice) o rulings.Nothing ≡ rulings.Go id → may_come h (move_effect direction id) ≡ true
goes_with direction h locks by p choice id None all is go = cc
goes_with direction h locks by p choice id (Some r) all is go =
    let found = closest_stands direction h.records p r is in
    closest_may_move direction h p r id all is (ruled_go direction h.records locks by p choice r id (parts_in h.records r all.parts found.among) is go)

pub goes_may : GoesMayCome
goes_may direction h locks by p choice id all go = goes_with direction h locks by p choice id (closest direction h.records p) all refl go

-- ---- a split

chosen_split : (choice : Choice) (r : Record) (id : ℕ) (cause : Cause) (files : List Path) → chosen_ruling choice r ≡ rulings.Split id cause files → r.id ≡ id
chosen_split All r id cause files h = cc
chosen_split This r id cause files h = cc
chosen_split Cancel r id cause files h = cc
chosen_split (Turned more) r id cause files h = cc

across_split : (o : Option Blocking) (choice : Choice) (r : Record) (id : ℕ) (cause : Cause) (files : List Path) → across_ruling o choice r ≡ rulings.Split id cause files → (r.splits ≡ true) × (r.id ≡ id)
across_split (Some b) choice r id cause files h =
    elim r.splits as (λ s. cond s (rulings.Split r.id b.cause b.files) (rulings.Flush b.cause b.files (all_paths r)) ≡ rulings.Split id cause files → (s ≡ true) × (r.id ≡ id)) [ true ↦ λ k. (refl, cc) | false ↦ λ k. cc ] h
across_split None choice r id cause files h =
    elim r.splits as (λ s. cond s (chosen_ruling choice r) (rulings.Go r.id) ≡ rulings.Split id cause files → (s ≡ true) × (r.id ≡ id)) [ true ↦ λ k. (refl, chosen_split choice r id cause files k) | false ↦ λ k. cc ] h

one_no_split : (locks : Holders) (by : ℕ) (p : Path) (r : Record) (id : ℕ) (cause : Cause) (files : List Path) → one_ruling locks by p r ≡ rulings.Split id cause files → ⊥
one_no_split locks by p r id cause files h =
    elim (is_valid_at p r) as (λ b. cond (not b) (rulings.Flush causes.Invalid (p ∷ []) (p ∷ [])) (cond (is_held locks by p) (rulings.Locked (p ∷ [])) (rulings.Go r.id)) ≡ rulings.Split id cause files → ⊥) [
      | true ↦ elim (is_held locks by p) as (λ b. cond b (rulings.Locked (p ∷ [])) (rulings.Go r.id) ≡ rulings.Split id cause files → ⊥) [ true ↦ λ k. cc | false ↦ λ k. cc ]
      | false ↦ λ k. cc
    ] h

-- A record that is ruled to be split is the closest, and may be split.
pub record SplitsIn (direction : Direction) (h : StacksState) (p : Path) (id : ℕ) : Type 0 where
  pub whole : Record
  pub is : closest direction h.records p ≡ Some whole
  pub same : whole.id ≡ id
  pub may : may_split whole ≡ true

splits_with : (direction : Direction) (h : StacksState) (locks : Holders) (by : ℕ) (p : Path) (choice : Choice) (id : ℕ) (cause : Cause) (files : List Path) (o : Option Record) → closest direction h.records p ≡ o
    → option_map_or (ruling_of direction h.records locks by p choice) o rulings.Nothing ≡ rulings.Split id cause files → SplitsIn direction h p id
splits_with direction h locks by p choice id cause files None is go = cc
splits_with direction h locks by p choice id cause files (Some r) is go =
    elim (nat_le 2 (length r.parts)) as (λ b. nat_le 2 (length r.parts) ≡ b → cond b (across_ruling (blocked direction h.records locks by r) (choice_for direction choice) r) (one_ruling locks by p r) ≡ rulings.Split id cause files → SplitsIn direction h p id) [
      | true ↦ λ many k.
          let across = across_split (blocked direction h.records locks by r) (choice_for direction choice) r id cause files k in
          record { whole = r; is = is; same = across.1; may = and_from r.splits (nat_le 2 (length r.parts)) across.0 many }
      | false ↦ λ _ k. absurd (one_no_split locks by p r id cause files k)
    ] refl go

pub splits_in : (direction : Direction) (h : StacksState) (locks : Holders) (by : ℕ) (p : Path) (choice : Choice) (id : ℕ) (cause : Cause) (files : List Path) → ruling direction h.records locks by p choice ≡ rulings.Split id cause files → SplitsIn direction h p id
splits_in direction h locks by p choice id cause files go = splits_with direction h locks by p choice id cause files (closest direction h.records p) refl go

pub splits_may : SplitsMayCome
splits_may direction h locks by p choice id cause files all go =
    let s = splits_in direction h locks by p choice id cause files go in
    let found = closest_stands direction h.records p s.whole s.is in
    let is : record_of h.records id ≡ Some s.whole = subst (λ n. record_of h.records n ≡ Some s.whole) s.same (found_itself h.records s.whole all.linked.different found.among) in
    and_from (option_map_or may_split (record_of h.records id) false) (eqb h.next_id h.next_id) (ap (λ (o : Option Record). option_map_or may_split o false) is ∙ s.may) (eq-eqb h.next_id h.next_id refl)

-- ---- the tree

coming_is : (f : RecordPart → Content) (parts : List RecordPart) → coming (map (λ part. (part.path, f part)) parts) ≡ map (λ part. part.path) (filter (λ part. is_some (f part)) parts)
coming_is f [] = refl
coming_is f (x ∷ parts) =
    elim (is_some (f x)) as (λ b. map (λ c. c.0) (cond b ((x.path, f x) ∷ filter comes (map (λ part. (part.path, f part)) parts)) (filter comes (map (λ part. (part.path, f part)) parts))) ≡ map (λ part. part.path) (cond b (x ∷ filter (λ part. is_some (f part)) parts) (filter (λ part. is_some (f part)) parts))) [
      | true ↦ ap (λ ps. x.path ∷ ps) (coming_is f parts)
      | false ↦ coming_is f parts
    ]

whole_live : (r : Record) → is_whole r ≡ true → live_parts r ≡ r.parts
whole_live r whole = filter_all (λ part. is_live part.state) r.parts (list_all_weaker (λ part. is_live part.state && part.valid) (λ part. is_live part.state) (λ part h. (and_parts (is_live part.state) part.valid h).0) r.parts whole)

old_apart : (r : Record) → is_whole r ≡ true → is_apart r ≡ true → are_apart (coming (old_contents r)) ≡ true
old_apart r whole apart =
    ap are_apart (coming_is (λ part. old_content part.body) r.parts ∙ ap (λ ps. map (λ part. part.path) (filter (λ part. is_some (old_content part.body)) ps)) (sym (whole_live r whole)))
    ∙ (and_parts (are_apart (old_paths r)) (are_apart (new_paths r)) apart).0

pub new_apart : (r : Record) → is_whole r ≡ true → is_apart r ≡ true → are_apart (coming (new_contents r)) ≡ true
new_apart r whole apart =
    ap are_apart (coming_is (λ part. new_content part.body) r.parts ∙ ap (λ ps. map (λ part. part.path) (filter (λ part. is_some (new_content part.body)) ps)) (sym (whole_live r whole)))
    ∙ (and_parts (are_apart (old_paths r)) (are_apart (new_paths r)) apart).1

moved_apart_back : (h : StacksState) (id : ℕ) (o : Option Record) → AreLinked h → record_of h.records id ≡ o → option_map_or (may_go_back h.records) o false ≡ true → are_apart (coming (option_map_or old_contents o [])) ≡ true
moved_apart_back h id None all is may = refl
moved_apart_back h id (Some r) all is may =
    let both = and_parts (r.done && is_whole r) (list_all (λ part. is_closest r.id (closest_past h.records part.path)) r.parts) may in
    old_apart r (and_parts r.done (is_whole r) both.0).1 (find_among (has_id id) is_apart h.records r is all.linked.apart)

moved_apart_forward : (h : StacksState) (id : ℕ) (o : Option Record) → AreLinked h → record_of h.records id ≡ o → option_map_or (may_go_forward h.records) o false ≡ true → are_apart (coming (option_map_or new_contents o [])) ≡ true
moved_apart_forward h id None all is may = refl
moved_apart_forward h id (Some r) all is may =
    let both = and_parts (not r.done && is_whole r) (list_all (λ part. is_closest r.id (closest_future h.records part.path)) r.parts) may in
    new_apart r (and_parts (not r.done) (is_whole r) both.0).1 (find_among (has_id id) is_apart h.records r is all.linked.apart)

pub moves_tree : MovesLeaveATree
moves_tree Back h id files all may tree free =
    tree_where_free files (option_map_or old_contents (record_of h.records id) []) tree (moved_apart_back h id (record_of h.records id) all refl may) free
moves_tree Forward h id files all may tree free =
    tree_where_free files (option_map_or new_contents (record_of h.records id) []) tree (moved_apart_forward h id (record_of h.records id) all refl may) free
