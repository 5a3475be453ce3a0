-- The new record of an edit may come, where no path that it changed has a future.
use Rattle.std.proofs.Common.{◌≡◌, true, false, cond, not, ◌&&◌, ◌||◌, eqb, List, [], ◌∷◌, map, None, refl, sym, ap, ◌∙◌}
use Rattle.std.specs.Prelude.{filter, is_some}
use Rattle.std.specs.List.{list_any, list_all, last_or, AllByRecursion}
use Rattle.std.specs.Option.{option_map_or}
use Rattle.std.specs.Ordering.{eq_by_cmp, is_lt}
use Rattle.std.specs.FinMap.{is_sorted}
use Rattle.std.specs.FinMap.Entries.{below_all}
use Rattle.std.proofs.lemmas.Bool.{and_from, or_right, or_from, not_from_false, eq-eqb}
use Rattle.wse_path.specs.Path.{Path, is_under}
use Rattle.wse_path.specs.Order.{path_cmp}
use Rattle.wse_path.specs.Tree.{Entries, content, is_present, IsTree}
use Rattle.wse_path.specs.Changes.{contents_of}
use Rattle.wse_path.specs.declared.change.Change.{Change}
use Rattle.wse_path.specs.declared.edit.Edit.{Edit}
use Rattle.wse_path.proofs.ChangeLemmas.{AllTrue}
use Rattle.wse_path.proofs.TreeLemmas.{tied_itself}
use Rattle.wse_element.specs.Content.{Content, old_content, new_content}
use Rattle.wse_element.specs.declared.body.Body.{Body}
use Rattle.wse_element.specs.Record.{RecordPart, Record, by_path, AreParts}
use Rattle.wse_element.specs.Live.{is_live}
use Rattle.wse_element.specs.Stacks.{past, closest_past}
use Rattle.wse_element.specs.Apart.{are_apart, old_paths, new_paths, is_apart}
use Rattle.wse_element.specs.Applicable.{is_whole, has_future, follows_past, may_push}
use Rattle.wse_element.specs.Linked.{is_left_by, IsTreeLinkedAt}
use Rattle.wse_element.specs.State.{StacksState, State}
use Rattle.wse_history.specs.Edits.{part_of, made}

abbrev pub paths_of : List Change → List Path
paths_of cs = map (λ c. c.path) cs

abbrev parts_of : List Change → List RecordPart
parts_of cs = map part_of cs

all_live : (cs : List Change) → list_all (λ part. is_live part.state && part.valid) (parts_of cs) ≡ true
all_live [] = refl
all_live (c ∷ cs) = all_live cs

none_ahead : (records : List Record) (cs : List Change) → ((p : Path) → list_any (eq_by_cmp path_cmp p) (paths_of cs) ≡ true → has_future records p ≡ false)
    → list_all (λ part. not (has_future records part.path)) (parts_of cs) ≡ true
none_ahead records [] none = refl
none_ahead records (c ∷ cs) none =
    and_from (not (has_future records c.path)) (list_all (λ part. not (has_future records part.path)) (parts_of cs))
    (not_from_false (has_future records c.path) (none c.path (ap (λ b. b || list_any (eq_by_cmp path_cmp c.path) (paths_of cs)) (tied_itself c.path))))
    (none_ahead records cs (λ p h. none p (or_right (eq_by_cmp path_cmp p c.path) (list_any (eq_by_cmp path_cmp p) (paths_of cs)) h)))

-- what the part found is what the tree held, and so what the past left
all_follow : (records left : List Record) (files new : Entries) (cs : List Change) → ((p : Path) → past left p ≡ past records p)
    → ((p : Path) → IsTreeLinkedAt files records p) → AllTrue files new cs → list_all (follows_past left) (parts_of cs) ≡ true
all_follow records left files new [] pasts linked are = refl
all_follow records left files new (c ∷ cs) pasts linked are =
    and_from (follows_past left (part_of c)) (list_all (follows_past left) (parts_of cs))
    (ap (λ (rs : List Record). option_map_or (is_left_by c.path c.before) (last_or None rs) true) (pasts c.path)
    ∙ ap (λ (o : Content). option_map_or (is_left_by c.path o) (closest_past records c.path) true) are.0.before
    ∙ (linked c.path).past)
    (all_follow records left files new cs pasts linked are.1)

-- ---- paths of one tree are apart

abbrev ArePresent : Entries → List Path → Type 0
ArePresent files ps = AllByRecursion (λ p. is_present files p ≡ true) ps

none_under : (files : Entries) (p : Path) (ps : List Path) → IsTree files → is_present files p ≡ true → ArePresent files ps → list_any (is_under p) ps ≡ false
none_under files p [] tree there are = refl
none_under files p (q ∷ ps) tree there are = or_from (is_under p q) (list_any (is_under p) ps) (tree.apart p q there are.0) (none_under files p ps tree there are.1)

apart_from : (files : Entries) (ps qs : List Path) → IsTree files → ArePresent files ps → ArePresent files qs → list_all (λ p. not (list_any (is_under p) qs)) ps ≡ true
apart_from files [] qs tree are others = refl
apart_from files (p ∷ ps) qs tree are others =
    and_from (not (list_any (is_under p) qs)) (list_all (λ x. not (list_any (is_under x) qs)) ps)
    (not_from_false (list_any (is_under p) qs) (none_under files p qs tree are.0 others)) (apart_from files ps qs tree are.1 others)

pub present_apart : (files : Entries) (ps : List Path) → IsTree files → ArePresent files ps → are_apart ps ≡ true
present_apart files ps tree are = apart_from files ps ps tree are are

live_made : (cs : List Change) → filter (λ part. is_live part.state) (parts_of cs) ≡ parts_of cs
live_made [] = refl
live_made (c ∷ cs) = ap (λ (ps : List RecordPart). part_of c ∷ ps) (live_made cs)

abbrev paths_with : (Body → Content) → List RecordPart → List Path
paths_with content parts = map (λ part. part.path) (filter (λ part. is_some (content part.body)) parts)

old_present : (files new : Entries) (cs : List Change) → AllTrue files new cs → ArePresent files (paths_with old_content (parts_of cs))
old_present files new [] are = tt
old_present files new (c ∷ cs) are =
    let more = old_present files new cs are.1 in
    let rest = filter (λ (part : RecordPart). is_some (old_content part.body)) (parts_of cs) in
    elim (is_some c.before) as (λ b. is_some c.before ≡ b → ArePresent files (map (λ (part : RecordPart). part.path) (cond b (part_of c ∷ rest) rest))) [
      | true ↦ λ e. (ap is_some (sym are.0.before) ∙ e, more)
      | false ↦ λ e. more
    ] refl

new_present : (files new : Entries) (cs : List Change) → AllTrue files new cs → ArePresent new (paths_with new_content (parts_of cs))
new_present files new [] are = tt
new_present files new (c ∷ cs) are =
    let more = new_present files new cs are.1 in
    let rest = filter (λ (part : RecordPart). is_some (new_content part.body)) (parts_of cs) in
    elim (is_some c.after) as (λ b. is_some c.after ≡ b → ArePresent new (map (λ (part : RecordPart). part.path) (cond b (part_of c ∷ rest) rest))) [
      | true ↦ λ e. (ap is_some (sym are.0.after) ∙ e, more)
      | false ↦ λ e. more
    ] refl

-- both sides of the new record are apart, since both trees are trees
pub made_apart : (s : State) (edit : Edit) (new : Entries) (cs : List Change) → IsTree s.files → IsTree new → AllTrue s.files new cs → is_apart (made s edit cs) ≡ true
made_apart s edit new cs old tree are =
    and_from (are_apart (old_paths (made s edit cs))) (are_apart (new_paths (made s edit cs)))
    (ap (λ parts. are_apart (paths_with old_content parts)) (live_made cs) ∙ present_apart s.files (paths_with old_content (parts_of cs)) old (old_present s.files new cs are))
    (ap (λ parts. are_apart (paths_with new_content parts)) (live_made cs) ∙ present_apart new (paths_with new_content (parts_of cs)) tree (new_present s.files new cs are))

-- ---- it may come

pub made_comes : (h : StacksState) (s : State) (edit : Edit) (new : Entries) (cs : List Change) → h.next_id ≡ s.next_id → ((p : Path) → past h.records p ≡ past s.records p)
    → ((p : Path) → list_any (eq_by_cmp path_cmp p) (paths_of cs) ≡ true → has_future h.records p ≡ false)
    → IsTree s.files → IsTree new → AllTrue s.files new cs → ((p : Path) → IsTreeLinkedAt s.files s.records p) → may_push h (made s edit cs) ≡ true
made_comes h s edit new cs next pasts none old tree are linked =
    let r = made s edit cs in
    let ids = and_from (eqb r.id h.next_id) (eqb r.origin r.id) (eq-eqb s.next_id h.next_id (sym next)) (eq-eqb s.next_id s.next_id refl) in
    let done = and_from (eqb r.id h.next_id && eqb r.origin r.id) r.done ids refl in
    let whole = and_from (eqb r.id h.next_id && eqb r.origin r.id && r.done) (is_whole r) done (all_live cs) in
    let ahead = and_from (eqb r.id h.next_id && eqb r.origin r.id && r.done && is_whole r) (list_all (λ part. not (has_future h.records part.path)) r.parts) whole (none_ahead h.records cs none) in
    let behind = and_from (eqb r.id h.next_id && eqb r.origin r.id && r.done && is_whole r && list_all (λ part. not (has_future h.records part.path)) r.parts)
    (list_all (follows_past h.records) r.parts) ahead (all_follow s.records h.records s.files new cs pasts linked are) in
    and_from (eqb r.id h.next_id && eqb r.origin r.id && r.done && is_whole r && list_all (λ part. not (has_future h.records part.path)) r.parts && list_all (follows_past h.records) r.parts)
    (is_apart r) behind (made_apart s edit new cs old tree are)

-- ---- its parts

below_made : (p : Path) (cs : List Change) → below_all path_cmp p (by_path (parts_of cs)) ≡ below_all path_cmp p (contents_of cs)
below_made p [] = refl
below_made p (c ∷ cs) = ap (λ b. is_lt (path_cmp p c.path) && b) (below_made p cs)

sorted_made : (cs : List Change) → is_sorted path_cmp (by_path (parts_of cs)) ≡ is_sorted path_cmp (contents_of cs)
sorted_made [] = refl
sorted_made (c ∷ cs) = λ i. below_made c.path cs i && sorted_made cs i

pub parts_made : (c : Change) (cs : List Change) → is_sorted path_cmp (contents_of (c ∷ cs)) ≡ true → AreParts (parts_of (c ∷ cs))
parts_made c cs sorted = record { some = λ e. cc; rise = sorted_made (c ∷ cs) ∙ sorted }

pub contents_made : (cs : List Change) → map (λ part. (part.path, new_content part.body)) (parts_of cs) ≡ contents_of cs
contents_made [] = refl
contents_made (c ∷ cs) = ap (λ es. (c.path, c.after) ∷ es) (contents_made cs)
