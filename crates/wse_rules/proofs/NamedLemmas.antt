-- Each path that a ruling finds is one of the record.
use Rattle.std.proofs.Common.{◌≡◌, ℕ, Bool, true, false, cond, not, ◌&&◌, ◌||◌, List, [], ◌∷◌, ◌++◌, length, map, Option, Some, None, is_some, refl}
use Rattle.std.specs.Prelude.{filter, find, nat_le, nat_lt}
use Rattle.std.specs.List.{list_all, AllByRecursion}
use Rattle.std.specs.Option.{option_map_or}
use Rattle.std.specs.Ordering.{eq_by_cmp}
use Rattle.std.proofs.lemmas.Bool.{and_from, or_left, or_right, false≢true}
use Rattle.wse_path.specs.Path.{Path}
use Rattle.wse_path.specs.Order.{path_cmp, is_named}
use Rattle.wse_path.specs.declared.command.Choice.{Choice}
use Rattle.wse_path.specs.declared.command.Choice.TheVariants.{All, This, Cancel, Turned}
use Rattle.wse_path.specs.declared.command.Direction.{Direction}
use Rattle.wse_path.proofs.EntryLemmas.{and_parts}
use Rattle.wse_locks.specs.Locks.{Holders, is_held}
use Rattle.wse_element.specs.Record.{RecordPart, Record}
use Rattle.wse_element.specs.Live.{is_live, is_live_part_at, is_valid_at}
use Rattle.wse_element.specs.Applicable.{is_closest}
use Rattle.wse_element.proofs.ListLemmas.{list_all_weaker}
use Rattle.wse_element.proofs.LiveLemmas.{eq_itself}
use Rattle.wse_rules.specs.Ruling.{closest, one_ruling, all_paths, paths_where, Blocking, blockings, blocked, blocked_ruling, chosen_ruling, free_ruling, choice_for, across_ruling, ruling_of, ruling}
use Rattle.wse_rules.specs.Named.{found, named, is_path_of}
use Rattle.wse_rules.specs.declared.ruling.Cause.{Cause}
use Rattle.wse_rules.specs.declared.ruling.Cause.TheVariants.{Removed, Changed, Locked, Invalid, Chosen, Meantime}
use Rattle.wse_rules.specs.declared.ruling.Ruling.TheVariants as rulings
use Rattle.wse_rules.proofs.ClosestLemmas.{closest_among}

-- The list names a file.
abbrev names : Blocking → Bool
names b = nat_lt 0 (length b.files)

abbrev own : Record → List Path → Bool
own r paths = list_all (is_path_of (Some r)) paths

own_parts : (parts : List RecordPart) → list_all (is_named (map (λ (part : RecordPart). part.path) parts)) (map (λ (part : RecordPart). part.path) parts) ≡ true
own_parts [] = refl
own_parts (part ∷ parts) =
    let rest = map (λ (x : RecordPart). x.path) parts in
    and_from (is_named (part.path ∷ rest) part.path) (list_all (is_named (part.path ∷ rest)) rest)
    (or_left (eq_by_cmp path_cmp part.path part.path) (is_named rest part.path) (eq_itself part.path))
    (list_all_weaker (is_named rest) (is_named (part.path ∷ rest)) (λ q h. or_right (eq_by_cmp path_cmp q part.path) (is_named rest q) h) rest (own_parts parts))

all_filtered : (f : Path → Bool) (test : RecordPart → Bool) (parts : List RecordPart) → list_all f (map (λ (part : RecordPart). part.path) parts) ≡ true → list_all f (map (λ (part : RecordPart). part.path) (filter test parts)) ≡ true
all_filtered f test [] h = refl
all_filtered f test (part ∷ parts) h =
    let both = and_parts (f part.path) (list_all f (map (λ (x : RecordPart). x.path) parts)) h in
    let rest = all_filtered f test parts both.1 in
    elim (test part) as (λ b. list_all f (map (λ (x : RecordPart). x.path) (cond b (part ∷ filter test parts) (filter test parts))) ≡ true) [
      | true ↦ and_from (f part.path) (list_all f (map (λ (x : RecordPart). x.path) (filter test parts))) both.0 rest
      | false ↦ rest
    ]

own_where : (test : RecordPart → Bool) (r : Record) → own r (paths_where test r) ≡ true
own_where test r = all_filtered (is_path_of (Some r)) test r.parts (own_parts r.parts)

all_append : (f : Path → Bool) (xs ys : List Path) → list_all f xs ≡ true → list_all f ys ≡ true → list_all f (xs ++ ys) ≡ true
all_append f [] ys h k = k
all_append f (x ∷ xs) ys h k =
    let both = and_parts (f x) (list_all f xs) h in
    and_from (f x) (list_all f (xs ++ ys)) both.0 (all_append f xs ys both.1 k)

own_found : (r : Record) (cause : Cause) (files : List Path) → own r files ≡ true → own r (found cause files) ≡ true
own_found r Removed files h = h
own_found r Changed files h = h
own_found r Locked files h = h
own_found r Invalid files h = h
own_found r Chosen files h = h
own_found r Meantime files h = refl

own_blocked : (b : Blocking) (r : Record) → own r b.files ≡ true → own r (named (blocked_ruling b r)) ≡ true
own_blocked b r h =
    elim r.splits as (λ s. own r (named (cond s (rulings.Split r.id b.cause b.files) (rulings.Flush b.cause b.files (all_paths r)))) ≡ true) [
      | true ↦ own_found r b.cause b.files h
      | false ↦ all_append (is_path_of (Some r)) (found b.cause b.files) (all_paths r) (own_found r b.cause b.files h) (own_parts r.parts)
    ]

own_chosen : (choice : Choice) (r : Record) → own r (named (chosen_ruling choice r)) ≡ true
own_chosen All r = refl
own_chosen This r = refl
own_chosen Cancel r = refl
own_chosen (Turned files) r = refl

own_free : (choice : Choice) (r : Record) → own r (named (free_ruling choice r)) ≡ true
own_free choice r = elim r.splits as (λ s. own r (named (cond s (chosen_ruling choice r) (rulings.Go r.id))) ≡ true) [ true ↦ own_chosen choice r | false ↦ refl ]

own_across : (bs : List Blocking) (choice : Choice) (r : Record) → AllByRecursion (λ b. own r b.files ≡ true) bs → own r (named (across_ruling (find names bs) choice r)) ≡ true
own_across [] choice r all = own_free choice r
own_across (b ∷ bs) choice r all =
    elim (names b) as (λ t. own r (named (across_ruling (cond t (Some b) (find names bs)) choice r)) ≡ true) [
      | true ↦ own_blocked b r all.0
      | false ↦ own_across bs choice r all.1
    ]

own_live : (p : Path) (parts : List RecordPart) → is_some (find (is_live_part_at p) parts) ≡ true → is_named (map (λ (part : RecordPart). part.path) parts) p ≡ true
own_live p [] h = absurd (false≢true h)
own_live p (part ∷ parts) h =
    elim (eq_by_cmp path_cmp p part.path) as (λ b. is_some (cond (b && is_live part.state) (Some part) (find (is_live_part_at p) parts)) ≡ true → (b || is_named (map (λ (x : RecordPart). x.path) parts) p) ≡ true) [
      | true ↦ λ k. refl
      | false ↦ λ k. own_live p parts k
    ] h

own_one : (locks : Holders) (by : ℕ) (p : Path) (r : Record) → is_path_of (Some r) p ≡ true → own r (named (one_ruling locks by p r)) ≡ true
own_one locks by p r at =
    elim (is_valid_at p r) as (λ b. own r (named (cond (not b) (rulings.Flush Invalid (p ∷ []) (p ∷ [])) (cond (is_held locks by p) (rulings.Locked (p ∷ [])) (rulings.Go r.id)))) ≡ true) [
      | true ↦ elim (is_held locks by p) as (λ b. own r (named (cond b (rulings.Locked (p ∷ [])) (rulings.Go r.id))) ≡ true) [ true ↦ (λ i. at i && true) | false ↦ refl ]
      | false ↦ λ i. at i && (at i && true)
    ]

own_with : (direction : Direction) (records : List Record) (locks : Holders) (by : ℕ) (p : Path) (choice : Choice) (o : Option Record) → closest direction records p ≡ o
    → list_all (is_path_of o) (named (option_map_or (ruling_of direction records locks by p choice) o rulings.Nothing)) ≡ true
own_with direction records locks by p choice None is = refl
own_with direction records locks by p choice (Some r) is =
    elim (nat_le 2 (length r.parts)) as (λ b. own r (named (cond b (across_ruling (blocked direction records locks by r) (choice_for direction choice) r) (one_ruling locks by p r))) ≡ true) [
      | true ↦ own_across (blockings direction records locks by r) (choice_for direction choice) r (
        own_where (λ part. not (is_live part.state)) r,
        (
          own_where (λ part. is_live part.state && not (is_closest r.id (closest direction records part.path))) r,
          (own_where (λ part. is_live part.state && is_held locks by part.path) r, (own_where (λ part. is_live part.state && not part.valid) r, tt)),
        ),
      )
      | false ↦ own_one locks by p r (own_live p r.parts (closest_among direction records p r is).1)
    ]

pub ruling_names_its_own : (direction : Direction) (records : List Record) (locks : Holders) (by : ℕ) (p : Path) (choice : Choice)
    → list_all (is_path_of (closest direction records p)) (named (ruling direction records locks by p choice)) ≡ true
ruling_names_its_own direction records locks by p choice = own_with direction records locks by p choice (closest direction records p) refl
