-- A move behind a life, before or after a split, gives back what was there.
use Rattle.std.proofs.Common.{◌≡◌, ◌≢◌, ◌<◌, ◌≤◌, true, cond, not, ◌&&◌, List, [], ◌∷◌, Option, Some, None, is_some, refl, sym, subst}
use Rattle.std.specs.Prelude.{slice_get}
use Rattle.std.specs.Prelude.{find as find_part}
use Rattle.std.specs.List.{list_all, last_or, AllByRecursion}
use Rattle.std.proofs.lemmas.Option.{same_Some}
use Rattle.wse_path.specs.Path.{Path}
use Rattle.wse_path.specs.Tree.{Entries, set_files}
use Rattle.wse_path.specs.declared.command.Direction.{Direction}
use Rattle.wse_path.specs.declared.command.Direction.TheVariants.{Back, Forward}
use Rattle.wse_path.proofs.EntryLemmas.{and_parts}
use Rattle.wse_element.specs.Record.{RecordPart, Record}
use Rattle.wse_element.specs.Live.{is_live, is_live_part_at, old_at, new_at}
use Rattle.wse_element.specs.Stacks.{live_at, past, future}
use Rattle.wse_element.specs.Linked.{IsTreeLinkedAt}
use Rattle.wse_element.specs.State.{State}
use Rattle.wse_element.proofs.LiveLemmas.{eq_itself}
use Rattle.wse_element.proofs.PastLemmas.{past-live_at, future-live_at}
use Rattle.wse_rules.specs.Ruling.{closest}
use Rattle.wse_lives.specs.Lives.{Life, lived, trees_of, Agrees, AgreesAt}
use Rattle.wse_lives.proofs.StayLemmas.{all_filter, SaysSame}
use Rattle.wse_lives.specs.Returns.{Returns}
use Rattle.wse_lives.proofs.ReturnLemmas.{MayGo, contents_for, move_returns, origin_came}

-- ---- what holds of the records that are live at a path holds of the closest

module _ (P : Record → Type 0) where
  of_last : (o : Option Record) (xs : List Record) (r : Record) → (o ≡ Some r → P r) → AllByRecursion P xs → last_or o xs ≡ Some r → P r
  of_last o [] r before all is = before is
  of_last o (x ∷ xs) r before all is = of_last (Some x) xs r (λ e. subst P (same_Some x r e) all.0) all.1 is

  of_first : (xs : List Record) (r : Record) → AllByRecursion P xs → slice_get xs 0 ≡ Some r → P r
  of_first [] r all is = cc
  of_first (x ∷ xs) r all is = subst P (same_Some x r is) all.0

  pub of_closest : (direction : Direction) (records : List Record) (p : Path) (r : Record) → AllByRecursion P (live_at records p) → closest direction records p ≡ Some r → P r
  of_closest Back records p r all is =
      of_last None (past records p) r (λ e. cc) (subst (AllByRecursion P) (sym (past-live_at records p)) (all_filter P (λ x. x.done) (live_at records p) all)) is
  of_closest Forward records p r all is =
      of_first (future records p) r (subst (AllByRecursion P) (sym (future-live_at records p)) (all_filter P (λ x. not x.done) (live_at records p) all)) is

-- ---- a whole record is live somewhere

first_live : (parts : List RecordPart) → parts ≢ [] → list_all (λ part. is_live part.state && part.valid) parts ≡ true → record { at : Path; live : is_some (find_part (is_live_part_at at) parts) ≡ true }
first_live [] some whole = absurd (some refl)
first_live (part ∷ more) some whole =
    let both = and_parts (is_live part.state && part.valid) (list_all (λ x. is_live x.state && x.valid) more) whole in
    let live = (and_parts (is_live part.state) part.valid both.0).0 in
    record {
      at = part.path;
      live = λ i. is_some (cond (eq_itself part.path i && live i) (Some part) (find_part (is_live_part_at part.path) more));
    }

-- ---- behind a life

-- What a life's record keeps, through a split too: it agrees with the trees of the life, and its origin came in it.
pub record IsOfLife (start : State) (life : Life) (p : Path) (r : Record) : Type 0 where
  pub agrees : AgreesAt start life p r
  pub from : start.next_id ≤ r.origin
  pub known : r.origin < (lived start life).next_id

pub record MovedBack (direction : Direction) (start : State) (life : Life) (files next : Entries) (r : Record) : Type 0 where
  pub trees : Entries × Entries
  pub came : trees_of start life r.origin ≡ Some trees
  pub each : (p : Path) → Returns direction trees files next r p

pub moved_back : (direction : Direction) (start : State) (life : Life) (records : List Record) (files : Entries) (r : Record) → MayGo direction records r → ((p : Path) → IsTreeLinkedAt files records p)
    → ((p : Path) → AllByRecursion (IsOfLife start life p) (live_at records p)) → MovedBack direction start life files (set_files (contents_for direction r) files) r
moved_back direction start life records files r may linked all =
    let first = first_live r.parts may.parts.some may.whole in
    let one = of_closest (IsOfLife start life first.at) direction records first.at r (all first.at) (may.closest_at first.at first.live) in
    let origin = origin_came start life r.origin one.from one.known in
    record {
      trees = origin.trees;
      came = origin.is;
      each = λ p. move_returns direction records r files origin.trees p may (linked p)
          (λ live. subst (λ o. Agrees o p (old_at p r) (new_at p r)) origin.is (of_closest (IsOfLife start life p) direction records p r (all p) (may.closest_at p live)).agrees);
    }

-- a record that says the same is of the life too, so a split keeps it
pub of_life_same : (start : State) (life : Life) (p : Path) (r s : Record) → SaysSame p r s → IsOfLife start life p r → IsOfLife start life p s
of_life_same start life p r s same h = record {
  agrees = subst (λ n. Agrees (trees_of start life n) p (old_at p s) (new_at p s)) (sym same.origin)
      (subst (λ c. Agrees (trees_of start life r.origin) p c (new_at p s)) (sym same.old) (subst (λ c. Agrees (trees_of start life r.origin) p (old_at p r) c) (sym same.new) h.agrees));
  from = subst (λ n. start.next_id ≤ n) (sym same.origin) h.from;
  known = subst (λ n. n < (lived start life).next_id) (sym same.origin) h.known;
}
