-- The records of a life, and a move over them.
use Rattle.std.proofs.Common.{◌≡◌, ℕ, ◌<◌, ◌≤◌, Bool, true, false, List, [], ◌∷◌, Option, Some, None, refl, sym, ap, subst, arith}
use Rattle.std.specs.List.{list_all, AllByRecursion}
use Rattle.std.specs.Option.{option_map_or}
use Rattle.std.proofs.lemmas.Bool.{false≢true}
use Rattle.wse_path.specs.Path.{Path}
use Rattle.wse_path.specs.Tree.{Entries, set_files}
use Rattle.wse_path.specs.declared.command.Direction.{Direction}
use Rattle.wse_path.specs.declared.command.Direction.TheVariants.{Back, Forward}
use Rattle.wse_path.proofs.EntryLemmas.{and_parts}
use Rattle.wse_element.specs.Record.{Record}
use Rattle.wse_element.specs.Live.{is_live_at}
use Rattle.wse_element.specs.Stacks.{record_of, live_at}
use Rattle.wse_element.specs.Applicable.{may_come, may_go_back, may_go_forward}
use Rattle.wse_element.specs.Linked.{is_numbered, IsTreeLinkedAt}
use Rattle.wse_element.specs.State.{StacksState, State}
use Rattle.wse_element.specs.Effects.{old_contents, new_contents, contents_set}
use Rattle.wse_element.proofs.AfterLemmas.{numbers_of}
use Rattle.wse_element.proofs.ListLemmas.{list_all-filter}
use Rattle.wse_history.specs.Moves.{move_effect}
use Rattle.wse_history.proofs.Words.{AreLinked}
use Rattle.wse_lives.specs.Lives.{Life, lived, AgreesAt}
use Rattle.wse_lives.proofs.ReturnLemmas.{may_go_is, contents_for}
use Rattle.wse_lives.proofs.GaveLemmas.{IsOfLife, MovedBack, moved_back}
use Rattle.wse_element.specs.Record.{AreParts}

one_from : (a b : ℕ) → a ≤ 1 → 0 < b → a ≤ b
one_from a b l m = omega (arith, l, m)

-- the records of the state that a life leaves, where it began with no id given out
of_life_each : (start : State) (life : Life) (p : Path) (records : List Record) → start.next_id ≤ 1 → list_all (is_numbered (lived start life).next_id) records ≡ true → AllByRecursion (AgreesAt start life p) records → AllByRecursion (IsOfLife start life p) records
of_life_each start life p [] one numbered agree = tt
of_life_each start life p (r ∷ records) one numbered agree =
    let both = and_parts (is_numbered (lived start life).next_id r) (list_all (is_numbered (lived start life).next_id) records) numbered in
    let numbers = numbers_of (lived start life).next_id r both.0 in
    (record { agrees = agree.0; from = one_from start.next_id r.origin one numbers.origin; known = numbers.known }, of_life_each start life p records one both.1 agree.1)

pub of_life_all : (start : State) (life : Life) (p : Path) (records : List Record) → start.next_id ≤ 1 → list_all (is_numbered (lived start life).next_id) records ≡ true → AllByRecursion (AgreesAt start life p) (live_at records p) → AllByRecursion (IsOfLife start life p) (live_at records p)
of_life_all start life p records one numbered agree =
    of_life_each start life p (live_at records p) one (list_all-filter (is_numbered (lived start life).next_id) (is_live_at p) records numbered) agree

-- a record that may be moved is there
there_with : (test : Record → Bool) (o : Option Record) → option_map_or test o false ≡ true → record { moved : Record; is : o ≡ Some moved }
there_with test None h = absurd (false≢true h)
there_with test (Some r) h = record { moved = r; is = refl }

pub moved_there : (direction : Direction) (h : StacksState) (id : ℕ) → may_come h (move_effect direction id) ≡ true → record { moved : Record; is : record_of h.records id ≡ Some moved }
moved_there Back h id may = there_with (may_go_back h.records) (record_of h.records id) may
moved_there Forward h id may = there_with (may_go_forward h.records) (record_of h.records id) may

pub sets_contents : (direction : Direction) (records : List Record) (id : ℕ) (r : Record) → record_of records id ≡ Some r → contents_set records (move_effect direction id) ≡ contents_for direction r
sets_contents Back records id r is = ap (λ (o : Option Record). option_map_or old_contents o []) is
sets_contents Forward records id r is = ap (λ (o : Option Record). option_map_or new_contents o []) is

-- a move that may come gives back what was there, over records of a life
pub moves_back : (direction : Direction) (start : State) (life : Life) (h : StacksState) (files : Entries) (id : ℕ) (r : Record) → AreLinked h → AreParts r.parts → record_of h.records id ≡ Some r → may_come h (move_effect direction id) ≡ true
    → ((p : Path) → IsTreeLinkedAt files h.records p) → ((p : Path) → AllByRecursion (IsOfLife start life p) (live_at h.records p))
    → MovedBack direction start life files (set_files (contents_set h.records (move_effect direction id)) files) r
moves_back direction start life h files id r all parts is may linked of_life =
    subst (λ cs. MovedBack direction start life files (set_files cs files) r) (sym (sets_contents direction h.records id r is))
    (moved_back direction start life h.records files r (may_go_is direction h id r all parts is may) linked of_life)
