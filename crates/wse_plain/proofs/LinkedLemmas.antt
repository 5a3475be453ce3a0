-- Records that fit one another at the paths of their parts fit one another at each path.
use Rattle.std.proofs.Common.{◌≡◌, ℕ, Bool, true, false, ◌&&◌, ◌||◌, not, cond, List, [], ◌∷◌, refl, sym, ap, subst, ◌∙◌}
use Rattle.std.specs.Prelude.{filter, IsTrue, ◌↔◌}
use Rattle.std.specs.List.{list_any, list_all}
use Rattle.std.specs.Ordering.{eq_by_cmp}
use Rattle.std.proofs.lemmas.Bool.{and_from, false≢true, both_ways}
use Rattle.wse_path.specs.Path.{Path}
use Rattle.wse_path.specs.Order.{path_cmp}
use Rattle.wse_path.proofs.EntryLemmas.{and_parts}
use Rattle.wse_path.proofs.PathOrder.{same_path}
use Rattle.wse_element.specs.Record.{RecordPart, Record}
use Rattle.wse_element.specs.Live.{is_live, is_live_part_at, is_live_at, is_valid_at, has_live}
use Rattle.wse_element.specs.Stacks.{live_at, ids}
use Rattle.wse_element.specs.Apart.{is_apart}
use Rattle.wse_element.specs.Linked.{are_different, is_numbered, come_first, neighbours_meet, IsLinkedAt, IsLinked}
use Rattle.wse_element.proofs.ListLemmas.{find-any, filter_none}
use Rattle.wse_plain.specs.Fit.{fit_at}

-- a test that passes at each part's path passes where a part is live
at_part : (test : Path → Bool) (p : Path) (parts : List RecordPart) → list_all (λ part. test part.path) parts ≡ true → list_any (is_live_part_at p) parts ≡ true → test p ≡ true
at_part test p [] all any = absurd (false≢true any)
at_part test p (part ∷ parts) all any =
    let both = and_parts (test part.path) (list_all (λ x. test x.path) parts) all in
    elim (is_live_part_at p part) as (λ b. is_live_part_at p part ≡ b → (b || list_any (is_live_part_at p) parts) ≡ true → test p ≡ true) [
      | true ↦ λ here _. subst (λ q. test q ≡ true) (sym (same_path p part.path (and_parts (eq_by_cmp path_cmp p part.path) (is_live part.state) here).0)) both.0
      | false ↦ λ _ more. at_part test p parts both.1 more
    ] refl any

at_record : (test : Path → Bool) (p : Path) (records : List Record) → list_all (λ r. list_all (λ part. test part.path) r.parts) records ≡ true → list_any (is_live_at p) records ≡ true → test p ≡ true
at_record test p [] all any = absurd (false≢true any)
at_record test p (r ∷ records) all any =
    let both = and_parts (list_all (λ part. test part.path) r.parts) (list_all (λ x. list_all (λ part. test part.path) x.parts) records) all in
    elim (is_live_at p r) as (λ b. is_live_at p r ≡ b → (b || list_any (is_live_at p) records) ≡ true → test p ≡ true) [
      | true ↦ λ here _. at_part test p r.parts both.0 (sym (find-any (is_live_part_at p) r.parts) ∙ here)
      | false ↦ λ _ more. at_record test p records both.1 more
    ] refl any

-- where no record is live they fit
fit_nowhere : (records : List Record) (p : Path) → list_any (is_live_at p) records ≡ false → fit_at records p ≡ true
fit_nowhere records p none =
    let empty = filter_none (is_live_at p) records none in
    λ i. come_first (λ r. r.done) (empty i) && come_first (λ r. not (is_valid_at p r)) (empty i) && neighbours_meet p (empty i)

fit_each : (records : List Record) (p : Path) → list_all (λ r. list_all (λ part. fit_at records part.path) r.parts) records ≡ true → fit_at records p ≡ true
fit_each records p all =
    elim (list_any (is_live_at p) records) as (λ b. list_any (is_live_at p) records ≡ b → fit_at records p ≡ true) [
      | true ↦ λ any. at_record (fit_at records) p records all any
      | false ↦ λ none. fit_nowhere records p none
    ] refl

linked_at : (records : List Record) (p : Path) → fit_at records p ≡ true → IsLinkedAt records p
linked_at records p h =
    let there = live_at records p in
    let a = and_parts (come_first (λ (r : Record). r.done) there && come_first (λ (r : Record). not (is_valid_at p r)) there) (neighbours_meet p there) h in
    let b = and_parts (come_first (λ (r : Record). r.done) there) (come_first (λ (r : Record). not (is_valid_at p r)) there) a.0 in
    record { done_first = b.0; invalid_first = b.1; meet = a.1 }

fit_of : (records : List Record) (p : Path) → IsLinkedAt records p → fit_at records p ≡ true
fit_of records p linked = λ i. linked.done_first i && linked.invalid_first i && linked.meet i

all_parts : (test : Path → Bool) → ((p : Path) → test p ≡ true) → (parts : List RecordPart) → list_all (λ part. test part.path) parts ≡ true
all_parts test h [] = refl
all_parts test h (part ∷ parts) = and_from (test part.path) (list_all (λ x. test x.path) parts) (h part.path) (all_parts test h parts)

all_records : (test : Path → Bool) → ((p : Path) → test p ≡ true) → (records : List Record) → list_all (λ r. list_all (λ part. test part.path) r.parts) records ≡ true
all_records test h [] = refl
all_records test h (r ∷ records) = and_from (list_all (λ part. test part.path) r.parts) (list_all (λ x. list_all (λ part. test part.path) x.parts) records) (all_parts test h r.parts) (all_records test h records)

pub everywhere : (records : List Record) → ((p : Path) → IsLinkedAt records p) → list_all (λ r. list_all (λ part. fit_at records part.path) r.parts) records ≡ true
everywhere records each = all_records (fit_at records) (λ p. fit_of records p (each p)) records

-- ---- three tests of one record

abbrev alone : ℕ → Record → Bool
alone next_id r = is_numbered next_id r && (has_live r && is_apart r)

module _ {X : Type 0} (p q r : X → Bool) where
  split_all : (xs : List X) → list_all (λ x. p x && (q x && r x)) xs ≡ true → (list_all p xs ≡ true) × (list_all q xs ≡ true) × (list_all r xs ≡ true)
  split_all [] h = (refl, refl, refl)
  split_all (x ∷ xs) h =
      let both = and_parts (p x && (q x && r x)) (list_all (λ y. p y && (q y && r y)) xs) h in
      let here = and_parts (p x) (q x && r x) both.0 in
      let two = and_parts (q x) (r x) here.1 in
      let rest = split_all xs both.1 in
      (and_from (p x) (list_all p xs) here.0 rest.0, and_from (q x) (list_all q xs) two.0 rest.1, and_from (r x) (list_all r xs) two.1 rest.2)

  join_all : (xs : List X) → list_all p xs ≡ true → list_all q xs ≡ true → list_all r xs ≡ true → list_all (λ x. p x && (q x && r x)) xs ≡ true
  join_all [] a b c = refl
  join_all (x ∷ xs) a b c =
      let one = and_parts (p x) (list_all p xs) a in
      let two = and_parts (q x) (list_all q xs) b in
      let three = and_parts (r x) (list_all r xs) c in
      and_from (p x && (q x && r x)) (list_all (λ y. p y && (q y && r y)) xs) (and_from (p x) (q x && r x) one.0 (and_from (q x) (r x) two.0 three.0)) (join_all xs one.1 two.1 three.1)

pub linked_from : (next_id : ℕ) (records : List Record) → are_different (ids records) ≡ true → list_all (alone next_id) records ≡ true
    → list_all (λ r. list_all (λ part. fit_at records part.path) r.parts) records ≡ true → IsLinked next_id records
linked_from next_id records different each fit =
    let three = split_all (is_numbered next_id) has_live is_apart records each in
    record { different = different; numbered = three.0; live = three.1; apart = three.2; each = λ p. linked_at records p (fit_each records p fit) }

pub alone_of : (next_id : ℕ) (records : List Record) → IsLinked next_id records → list_all (alone next_id) records ≡ true
alone_of next_id records linked = join_all (is_numbered next_id) has_live is_apart records linked.numbered linked.live linked.apart

-- ---- the answer

iff : (b c : Bool) (P : Type 0) → b ≡ c → (c ≡ true → P) → (P → c ≡ true) → IsTrue b ↔ P
iff true c P e f g = (λ _. f (sym e), λ _. refl)
iff false c P e f g = (λ t. absurd (false≢true t), λ p. absurd (both_ways c (sym e) (g p)))

module _ (next_id : ℕ) (records : List Record) where
  pub not_different : are_different (ids records) ≡ false → IsTrue false ↔ IsLinked next_id records
  not_different h = (λ t. absurd (false≢true t), λ linked. absurd (both_ways (are_different (ids records)) h linked.different))

  pub not_alone : list_all (alone next_id) records ≡ false → IsTrue false ↔ IsLinked next_id records
  not_alone h = (λ t. absurd (false≢true t), λ linked. absurd (both_ways (list_all (alone next_id) records) h (alone_of next_id records linked)))

  pub is_linked : (b : Bool) → are_different (ids records) ≡ true → list_all (alone next_id) records ≡ true
      → b ≡ list_all (λ r. list_all (λ part. fit_at records part.path) r.parts) records → IsTrue b ↔ IsLinked next_id records
  is_linked b different each e =
      iff b (list_all (λ r. list_all (λ part. fit_at records part.path) r.parts) records) (IsLinked next_id records) e
      (λ fit. linked_from next_id records different each fit) (λ linked. everywhere records linked.each)
