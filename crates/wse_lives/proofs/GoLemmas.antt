-- An undo that may come finds what its record's command left, and leaves what that command found.
use Rattle.std.proofs.Common.{◌≡◌, true, false, ◌&&◌, cond, List, [], ◌∷◌, map, Option, Some, None, refl, sym, ap, ◌∙◌}
use Rattle.std.specs.Prelude.{option_map, option_and_then, is_some}
use Rattle.std.specs.Prelude.{find as find_part}
use Rattle.std.specs.List.{list_all}
use Rattle.std.specs.Option.{unwrap_or, option_map_or}
use Rattle.std.specs.Ordering.{eq_by_cmp, is_lt}
use Rattle.std.specs.FinMap.{find, is_sorted}
use Rattle.std.specs.FinMap.Entries.{below_all}
use Rattle.wse_path.specs.Path.{Path}
use Rattle.wse_path.specs.Order.{path_cmp}
use Rattle.wse_path.specs.Tree.{Entries, content, set_files}
use Rattle.wse_path.specs.Changes.{is_same}
use Rattle.wse_path.proofs.ContentLemmas.{content_set_files}
use Rattle.wse_path.proofs.ChangeLemmas.{same_content}
use Rattle.wse_path.proofs.EntryLemmas.{and_parts}
use Rattle.wse_element.specs.declared.body.Body.{Body}
use Rattle.wse_element.specs.Content.{Content, old_content, new_content}
use Rattle.wse_element.specs.Record.{RecordPart, Record, by_path, AreParts}
use Rattle.wse_element.specs.Live.{is_live, is_live_part_at, live_part, is_live_at, is_valid_at, old_at, new_at}
use Rattle.wse_element.specs.Stacks.{closest_past}
use Rattle.wse_element.specs.Applicable.{is_whole}
use Rattle.wse_element.specs.Linked.{is_left_by, IsTreeLinkedAt}
use Rattle.wse_element.specs.Effects.{old_contents, new_contents}
use Rattle.wse_element.proofs.PushLemmas.{Found, found_in, found_passes}
use Rattle.wse_lives.specs.Lives.{Agrees}

-- ---- the contents that a move sets

module _ {X : Type 0} (g : RecordPart → X) where
  abbrev with_paths : List RecordPart → List (Path × X)
  with_paths parts = map (λ part. (part.path, g part)) parts

  below_paths : (p : Path) (parts : List RecordPart) → below_all path_cmp p (with_paths parts) ≡ below_all path_cmp p (by_path parts)
  below_paths p [] = refl
  below_paths p (part ∷ more) = ap (λ b. is_lt (path_cmp p part.path) && b) (below_paths p more)

  pub sorted_paths : (parts : List RecordPart) → is_sorted path_cmp (with_paths parts) ≡ is_sorted path_cmp (by_path parts)
  sorted_paths [] = refl
  sorted_paths (part ∷ more) = λ i. below_paths part.path more i && sorted_paths more i

  -- where all parts are live, the entry at a path is that of the live part
  pub find_paths : (p : Path) (parts : List RecordPart) → list_all (λ part. is_live part.state && part.valid) parts ≡ true → find path_cmp p (with_paths parts) ≡ option_map g (find_part (is_live_part_at p) parts)
  find_paths p [] whole = refl
  find_paths p (part ∷ more) whole =
      let both = and_parts (is_live part.state && part.valid) (list_all (λ x. is_live x.state && x.valid) more) whole in
      let live = (and_parts (is_live part.state) part.valid both.0).0 in
      elim (eq_by_cmp path_cmp p part.path) as (λ b. cond b (Some (g part)) (find path_cmp p (with_paths more)) ≡ option_map g (cond (b && is_live part.state) (Some part) (find_part (is_live_part_at p) more))) [
        | true ↦ ap (λ l. option_map g (cond l (Some part) (find_part (is_live_part_at p) more))) (sym live)
        | false ↦ find_paths p more both.1
      ]

module _ (g : Body → Content) (files : Entries) (r : Record) (parts : AreParts r.parts) (whole : is_whole r ≡ true) (p : Path) where
  abbrev set_all : Entries
  set_all = set_files (map (λ part. (part.path, g part.body)) r.parts) files

  set_by : content set_all p ≡ unwrap_or (option_map (λ (part : RecordPart). g part.body) (live_part p r)) (content files p)
  set_by =
      content_set_files (map (λ part. (part.path, g part.body)) r.parts) files p (sorted_paths (λ part. g part.body) r.parts ∙ parts.rise)
      ∙ ap (λ o. unwrap_or o (content files p)) (find_paths (λ part. g part.body) p r.parts whole)

  pub set_there : (found : Found p r) → content set_all p ≡ g found.part.body
  set_there found = set_by ∙ ap (λ (o : Option RecordPart). unwrap_or (option_map (λ (part : RecordPart). g part.body) o) (content files p)) found.is

  set_elsewhere : (o : Option RecordPart) → live_part p r ≡ o → is_some o ≡ false → content set_all p ≡ content files p
  set_elsewhere None e h = set_by ∙ ap (λ (o : Option RecordPart). unwrap_or (option_map (λ (part : RecordPart). g part.body) o) (content files p)) e
  set_elsewhere (Some part) e h = cc

  pub set_others : is_live_at p r ≡ false → content set_all p ≡ content files p
  set_others h = set_elsewhere (live_part p r) refl h

-- ---- an undo

-- The record may be undone: it is live and valid at all its paths, and the closest past of each.
pub record MayGoBack (records : List Record) (r : Record) : Type 0 where
  pub parts : AreParts r.parts
  pub whole : is_whole r ≡ true
  pub closest : (p : Path) → is_live_at p r ≡ true → closest_past records p ≡ Some r

module _ (files : Entries) (records : List Record) (r : Record) (may : MayGoBack records r) (p : Path) where
  valid_there : (found : Found p r) → is_valid_at p r ≡ true
  valid_there found =
      ap (λ (o : Option RecordPart). option_map_or (λ (part : RecordPart). part.valid) o false) found.is
      ∙ (and_parts (is_live found.part.state) found.part.valid (found_passes p r (λ part. is_live part.state && part.valid) may.whole found)).1

  -- the tree has there what the record's command left
  pub finds : IsTreeLinkedAt files records p → is_live_at p r ≡ true → content files p ≡ new_at p r
  finds linked live =
      let found = found_in p r live in
      let left = ap (λ o. option_map_or (is_left_by p (content files p)) o true) (sym (may.closest p live)) ∙ linked.past in
      same_content (content files p) (new_at p r) (ap (λ b. cond b (is_same (content files p) (new_at p r)) true) (sym (valid_there found)) ∙ left)

  -- and has there afterwards what that command found
  pub leaves : is_live_at p r ≡ true → content (set_files (old_contents r) files) p ≡ old_at p r
  leaves live =
      let found = found_in p r live in
      set_there old_content files r may.parts may.whole p found ∙ sym (ap (λ (o : Option RecordPart). option_and_then (λ (part : RecordPart). old_content part.body) o) found.is)

  -- every other path is as it was
  pub others : is_live_at p r ≡ false → content (set_files (old_contents r) files) p ≡ content files p
  others = set_others old_content files r may.parts may.whole p

  -- the trees around the event that made the record's origin
  pub undo_gives_back : (trees : Entries × Entries) → IsTreeLinkedAt files records p → Agrees (Some trees) p (old_at p r) (new_at p r) → is_live_at p r ≡ true
      → (content files p ≡ content trees.1 p) × (content (set_files (old_contents r) files) p ≡ content trees.0 p)
  undo_gives_back trees linked agrees live = (finds linked live ∙ agrees.1, leaves live ∙ agrees.0)

  -- what a redo sets is what was there
  pub redo_gives_back : IsTreeLinkedAt files records p → content (set_files (new_contents r) (set_files (old_contents r) files)) p ≡ content files p
  redo_gives_back linked =
      elim (is_live_at p r) as (λ b. is_live_at p r ≡ b → content (set_files (new_contents r) (set_files (old_contents r) files)) p ≡ content files p) [
        | true ↦ λ live.
            let found = found_in p r live in
            set_there new_content (set_files (old_contents r) files) r may.parts may.whole p found
            ∙ sym (ap (λ (o : Option RecordPart). option_and_then (λ (part : RecordPart). new_content part.body) o) found.is) ∙ sym (finds linked live)
        | false ↦ λ none. set_others new_content (set_files (old_contents r) files) r may.parts may.whole p none ∙ others none
      ] refl
