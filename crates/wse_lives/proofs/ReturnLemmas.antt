-- A move that may come gives back what was there.
use Rattle.std.proofs.Common.{◌≡◌, ℕ, ◌<◌, ◌≤◌, Bool, true, false, cond, ◌&&◌, List, [], ◌∷◌, Option, Some, refl, sym, ap, subst, ◌∙◌, arith}
use Rattle.std.specs.Prelude.{option_and_then}
use Rattle.std.specs.List.{list_all}
use Rattle.std.specs.Option.{option_map_or}
use Rattle.std.proofs.Math.Dec.{ltb, leb}
use Rattle.std.proofs.lemmas.Bool.{lt-ltb, ltb-false, leb-false, eqb-true}
use Rattle.wse_path.specs.Path.{Path}
use Rattle.wse_path.specs.Tree.{Entries, content, set_files}
use Rattle.wse_path.specs.Changes.{is_same}
use Rattle.wse_path.specs.declared.command.Direction.{Direction}
use Rattle.wse_path.specs.declared.command.Direction.TheVariants.{Back, Forward}
use Rattle.wse_path.proofs.ChangeLemmas.{same_content}
use Rattle.wse_path.proofs.EntryLemmas.{and_parts}
use Rattle.wse_element.specs.Content.{Content, old_content, new_content}
use Rattle.wse_element.specs.Record.{RecordPart, Record, AreParts}
use Rattle.wse_element.specs.Live.{is_live, is_live_at, is_valid_at, old_at, new_at}
use Rattle.wse_element.specs.Stacks.{has_id, record_of}
use Rattle.wse_element.specs.Applicable.{is_whole, is_closest, may_come, may_go_back, may_go_forward}
use Rattle.wse_element.specs.Linked.{is_left_by, is_found_by, IsTreeLinkedAt}
use Rattle.wse_element.specs.State.{StacksState, State}
use Rattle.wse_element.specs.Effects.{old_contents, new_contents}
use Rattle.wse_element.proofs.ListLemmas.{find_passes}
use Rattle.wse_element.proofs.PushLemmas.{Found, found_in, found_passes}
use Rattle.wse_rules.specs.Ruling.{closest}
use Rattle.wse_history.specs.Moves.{move_effect}
use Rattle.wse_element.proofs.AfterLemmas.{closest_there}
use Rattle.wse_history.proofs.Words.{AreLinked, stands_for, may_go}
use Rattle.wse_history.proofs.GoLemmas.{closest_stands, found_itself}
use Rattle.wse_lives.specs.Lives.{Life, lived, trees_of, Agrees}
use Rattle.wse_lives.proofs.GoLemmas.{set_there, set_others}
use Rattle.wse_lives.specs.Returns.{Returns}

-- ---- the record may go

goes : (direction : Direction) (h : StacksState) (id : ℕ) (r : Record) → record_of h.records id ≡ Some r → may_come h (move_effect direction id) ≡ true → may_go direction h.records r ≡ true
goes Back h id r is may = sym (ap (λ (o : Option Record). option_map_or (may_go_back h.records) o false) is) ∙ may
goes Forward h id r is may = sym (ap (λ (o : Option Record). option_map_or (may_go_forward h.records) o false) is) ∙ may

-- What is known of a record that may be moved: it is whole, and the closest at each of its paths.
pub record MayGo (direction : Direction) (records : List Record) (r : Record) : Type 0 where
  pub parts : AreParts r.parts
  pub whole : is_whole r ≡ true
  pub stands : stands_for direction r ≡ true
  pub closes : list_all (λ part. is_closest r.id (closest direction records part.path)) r.parts ≡ true
  pub closest_at : (p : Path) → is_live_at p r ≡ true → closest direction records p ≡ Some r

closest_is : (direction : Direction) (h : StacksState) (id : ℕ) (r : Record) → AreLinked h → record_of h.records id ≡ Some r → list_all (λ part. is_closest r.id (closest direction h.records part.path)) r.parts ≡ true → (p : Path) → is_live_at p r ≡ true → closest direction h.records p ≡ Some r
closest_is direction h id r all is closes p live =
    let found = found_in p r live in
    let there = closest_there (closest direction h.records p) r.id (subst (λ x. is_closest r.id (closest direction h.records x) ≡ true) (sym found.at) (found_passes p r (λ part. is_closest r.id (closest direction h.records part.path)) closes found)) in
    let same : r.id ≡ id = eqb-true r.id id (find_passes (has_id id) h.records r is) in
    let itself = found_itself h.records there.closest all.linked.different (closest_stands direction h.records p there.closest there.is).among in
    there.is ∙ sym itself ∙ ap (record_of h.records) (there.same ∙ same) ∙ is

pub may_go_is : (direction : Direction) (h : StacksState) (id : ℕ) (r : Record) → AreLinked h → AreParts r.parts → record_of h.records id ≡ Some r → may_come h (move_effect direction id) ≡ true → MayGo direction h.records r
may_go_is direction h id r all parts is may =
    let both = and_parts (stands_for direction r && is_whole r) (list_all (λ part. is_closest r.id (closest direction h.records part.path)) r.parts) (goes direction h id r is may) in
    let first = and_parts (stands_for direction r) (is_whole r) both.0 in
    record { parts = parts; whole = first.1; stands = first.0; closes = both.1; closest_at = closest_is direction h id r all is both.1 }

-- ---- what it finds and leaves

pub valid_there : (p : Path) (r : Record) → is_whole r ≡ true → Found p r → is_valid_at p r ≡ true
valid_there p r whole found =
    ap (λ (o : Option RecordPart). option_map_or (λ (part : RecordPart). part.valid) o false) found.is
    ∙ (and_parts (is_live found.part.state) found.part.valid (found_passes p r (λ part. is_live part.state && part.valid) whole found)).1

-- the contents that a move in the direction sets, and those that it finds
abbrev pub contents_for : Direction → Record → List (Path × Content)
contents_for Back r = old_contents r
contents_for Forward r = new_contents r

pub move_returns : (direction : Direction) (records : List Record) (r : Record) (files : Entries) (trees : Entries × Entries) (p : Path) → MayGo direction records r → IsTreeLinkedAt files records p
    → (is_live_at p r ≡ true → Agrees (Some trees) p (old_at p r) (new_at p r)) → Returns direction trees files (set_files (contents_for direction r) files) r p
move_returns Back records r files trees p may linked agrees = record {
  found = λ live.
      let left = ap (λ o. option_map_or (is_left_by p (content files p)) o true) (sym (may.closest_at p live)) ∙ linked.past in
      same_content (content files p) (new_at p r) (ap (λ b. cond b (is_same (content files p) (new_at p r)) true) (sym (valid_there p r may.whole (found_in p r live))) ∙ left) ∙ (agrees live).1;
  left = λ live.
      let found = found_in p r live in
      set_there old_content files r may.parts may.whole p found ∙ sym (ap (λ (o : Option RecordPart). option_and_then (λ (part : RecordPart). old_content part.body) o) found.is) ∙ (agrees live).0;
  others = set_others old_content files r may.parts may.whole p;
}
move_returns Forward records r files trees p may linked agrees = record {
  found = λ live.
      let left = ap (λ o. option_map_or (is_found_by p (content files p)) o true) (sym (may.closest_at p live)) ∙ linked.future in
      same_content (content files p) (old_at p r) (ap (λ b. cond b (is_same (content files p) (old_at p r)) true) (sym (valid_there p r may.whole (found_in p r live))) ∙ left) ∙ (agrees live).0;
  left = λ live.
      let found = found_in p r live in
      set_there new_content files r may.parts may.whole p found ∙ sym (ap (λ (o : Option RecordPart). option_and_then (λ (part : RecordPart). new_content part.body) o) found.is) ∙ (agrees live).1;
  others = set_others new_content files r may.parts may.whole p;
}

-- ---- each origin came in a life that begins before it

less_or_more : (P : Type 0) (a b : ℕ) (t : Bool) → ltb a b ≡ t → (ltb a b ≡ true → P) → (b ≤ a → P) → P
less_or_more P a b true e f g = f e
less_or_more P a b false e f g = g (ltb-false a b e)

pub origin_came : (start : State) (life : Life) (id : ℕ) → start.next_id ≤ id → id < (lived start life).next_id → record { trees : Entries × Entries; is : trees_of start life id ≡ Some trees }
origin_came start [] id from below = absurd (omega (arith, from, below))
origin_came start (s ∷ earlier) id from below =
    let before = lived start earlier in
    elim (leb before.next_id id) as (λ b. leb before.next_id id ≡ b → record { trees : Entries × Entries; is : cond (b && ltb id s.next_id) (Some (before.files, s.files)) (trees_of start earlier id) ≡ Some trees }) [
      | true ↦ λ e. record { trees = (before.files, s.files); is = ap (λ b. cond b (Some (before.files, s.files)) (trees_of start earlier id)) (lt-ltb id s.next_id below) }
      | false ↦ λ e. origin_came start earlier id from (leb-false before.next_id id e)
    ] refl
