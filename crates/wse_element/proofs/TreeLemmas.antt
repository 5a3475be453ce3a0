-- Each effect that may come leaves a tree that is linked to the records that it leaves.
use Rattle.std.proofs.Common.{◌≡◌, inl, ℕ, eqb, Bool, true, false, cond, not, ◌&&◌, ◌||◌, List, [], ◌∷◌, ◌++◌, Option, Some, None, refl, sym, ap, subst, ◌∙◌, append-nil}
use Rattle.std.specs.Prelude.{find, option_and_then, slice_get}
use Rattle.std.specs.List.{list_any, list_all, last_or, AllByRecursion, AllZip}
use Rattle.std.specs.Option.{option_map_or, unwrap_or}
use Rattle.std.specs.Ordering.{eq_by_cmp}
use Rattle.std.proofs.lemmas.Bool.{eqb-true, false≢true, not-true}
use Rattle.std.proofs.lemmas.Option.{none-some, same_Some}
use Rattle.wse_path.specs.Path.{Path}
use Rattle.wse_path.specs.Order.{path_cmp}
use Rattle.wse_path.specs.Tree.{Entries, content, set_files}
use Rattle.wse_path.proofs.EntryLemmas.{and_parts}
use Rattle.wse_path.proofs.ContentLemmas.{content_set_files}
use Rattle.wse_element.specs.declared.state.PartState.{PartState}
use Rattle.wse_element.specs.declared.state.PartState.TheVariants.{Live, Closed, Incompatible}
use Rattle.wse_element.specs.declared.effect.Effect.TheVariants.{Push, MoveBack, MoveForward, Split, Drop, Invalidate, Bump, Set}
use Rattle.wse_element.specs.Content.{Content, old_content, new_content}
use Rattle.wse_element.specs.Record.{RecordPart, Record, AreParts}
use Rattle.wse_element.specs.Live.{is_live, live_part, is_live_at, is_valid_at, old_at, new_at}
use Rattle.wse_element.specs.Losses.{lost_at, future_lost_at, invalid_at, flushed, dropped, invalidated}
use Rattle.wse_element.specs.Stacks.{past, closest_past, future, closest_future, has_id, record_of}
use Rattle.wse_element.specs.Split.{split}
use Rattle.wse_element.specs.State.{StacksState}
use Rattle.wse_element.specs.Effects.{marked, lost_for, old_contents, new_contents}
use Rattle.wse_element.specs.Applicable.{is_whole, has_future, follows_past, may_push, is_closest, may_go_back, may_go_forward}
use Rattle.wse_element.specs.Apart.{is_apart}
use Rattle.wse_element.specs.Linked.{IsLinked, IsTreeLinkedAt, neighbours_meet, is_left_by, is_found_by}
use Rattle.wse_element.proofs.ListLemmas.{find_passes, last_or_push}
use Rattle.wse_element.proofs.LiveLemmas.{live_part-invalid_at_other, live_part-lost_at_other}
use Rattle.wse_element.proofs.PastLemmas.{past_push, future_push, past_invalidated, future_invalidated, past_flushed_same, future_flushed_same, past_flushed_other, future_flushed_other, past_dropped, future_dropped_same, future_dropped_other}
use Rattle.wse_element.proofs.MoveLemmas.{with_done, past_marked_other, future_marked_other, moved_back, moved_forward}
use Rattle.wse_element.proofs.PushLemmas.{Found, found_in, found_passes, Follows, no_future}
use Rattle.wse_element.proofs.PieceLemmas.{StandsIn, past_split, future_split}
use Rattle.wse_element.proofs.LinkedLemmas.{by_paths}
use Rattle.wse_element.proofs.AfterLemmas.{different_filter, none_else, ends_with, begins_with, closest_there}
use Rattle.wse_element.specs.Laws.{AreTogether, TreeStaysLinked}
use Rattle.wse_element.proofs.SetLemmas.{set_others}
use Rattle.wse_element.proofs.CloseLemmas.{SameLive, tree_alike, zip_same, zip_map, linked_to_none, linked_where_invalid, none_valid_there, contents, sorted_contents, contents_found, contents_unset, In, in_filter, in_last, found_by_id, met_behind, met_ahead, left_by_itself, found_by_itself}

-- ---- losses

tree_flushed : (files : Entries) (records : List Record) (q p : Path) → IsTreeLinkedAt files records p → IsTreeLinkedAt files (flushed records q) p
tree_flushed files records q p linked =
    by_paths p q (λ x. IsTreeLinkedAt files records x → IsTreeLinkedAt files (flushed records q) x)
    (λ _. linked_to_none files (flushed records q) q (past_flushed_same records q) (future_flushed_same records q))
    (λ other is. tree_alike files files records (flushed records q) p refl
    (zip_map p (lost_at q Closed) (λ r. live_part-lost_at_other p q Closed r other refl) (past records p) (past (flushed records q) p) (past_flushed_other records q p other))
    (zip_map p (lost_at q Closed) (λ r. live_part-lost_at_other p q Closed r other refl) (future records p) (future (flushed records q) p) (future_flushed_other records q p other)) is)
    linked

lost_future_same : (p q : Path) (r : Record) → eq_by_cmp path_cmp p q ≡ false → live_part p (future_lost_at q r) ≡ live_part p r
lost_future_same p q r other = elim r.done as (λ b. live_part p (cond b r (lost_at q Incompatible r)) ≡ live_part p r) [ true ↦ refl | false ↦ live_part-lost_at_other p q Incompatible r other refl ]

tree_dropped : (files : Entries) (records : List Record) (q p : Path) → IsTreeLinkedAt files records p → IsTreeLinkedAt files (dropped records q) p
tree_dropped files records q p linked =
    by_paths p q (λ x. IsTreeLinkedAt files records x → IsTreeLinkedAt files (dropped records q) x)
    (λ is. record {
      past = ap (λ (rs : List Record). option_map_or (is_left_by q (content files q)) (last_or None rs) true) (past_dropped records q q) ∙ is.past;
      future = ap (λ (rs : List Record). option_map_or (is_found_by q (content files q)) (slice_get rs 0) true) (future_dropped_same records q);
    })
    (λ other is. tree_alike files files records (dropped records q) p refl
    (zip_same p (past records p) (past (dropped records q) p) (past_dropped records q p))
    (zip_map p (future_lost_at q) (λ r. lost_future_same p q r other) (future records p) (future (dropped records q) p) (future_dropped_other records q p other)) is)
    linked

tree_lost : (files : Entries) (records : List Record) (q : Path) (reason : PartState) (p : Path) → IsTreeLinkedAt files records p → IsTreeLinkedAt files (lost_for records q reason) p
tree_lost files records q Live p linked = linked
tree_lost files records q Closed p linked = tree_flushed files records q p linked
tree_lost files records q Incompatible p linked = tree_dropped files records q p linked

tree_invalidated : (files : Entries) (records : List Record) (q p : Path) → IsTreeLinkedAt files records p → IsTreeLinkedAt files (invalidated records q) p
tree_invalidated files records q p linked =
    by_paths p q (λ x. IsTreeLinkedAt files records x → IsTreeLinkedAt files (invalidated records q) x)
    (λ _. linked_where_invalid files (invalidated records q) q (none_valid_there q records))
    (λ other is. tree_alike files files records (invalidated records q) p refl
    (zip_map p (invalid_at q) (λ r. live_part-invalid_at_other p q r other) (past records p) (past (invalidated records q) p) (past_invalidated records q p))
    (zip_map p (invalid_at q) (λ r. live_part-invalid_at_other p q r other) (future records p) (future (invalidated records q) p) (future_invalidated records q p)) is)
    linked

-- ---- a split

stands_live : (p : Path) (id : ℕ) (xs ys : List Record) → AllZip (StandsIn p id) xs ys → AllZip (SameLive p) xs ys
stands_live p id [] [] h = h
stands_live p id [] (y ∷ ys) h = absurd h
stands_live p id (x ∷ xs) [] h = absurd h
stands_live p id (x ∷ xs) (y ∷ ys) h = (h.0.part, stands_live p id xs ys h.1)

tree_split : (files : Entries) (records : List Record) (id first : ℕ) (p : Path) → AllByRecursion (λ r. AreParts r.parts) records → IsTreeLinkedAt files records p → IsTreeLinkedAt files (split records id first) p
tree_split files records id first p all linked =
    tree_alike files files records (split records id first) p refl
    (stands_live p id (past records p) (past (split records id first) p) (past_split records id first p all))
    (stands_live p id (future records p) (future (split records id first) p) (future_split records id first p all)) linked

-- ---- contents that are set

set_there : (f : RecordPart → Content) (r : Record) (p : Path) (files : Entries) (found : Found p r) → AreParts r.parts → is_whole r ≡ true → content (set_files (contents f r.parts) files) p ≡ f found.part
set_there f r p files found are whole =
    content_set_files (contents f r.parts) files p (sorted_contents f r.parts ∙ are.rise)
    ∙ ap (λ (o : Option Content). unwrap_or o (content files p)) (contents_found f r.parts p found.part whole found.is)

old_there : (r : Record) (p : Path) (files : Entries) → AreParts r.parts → is_whole r ≡ true → is_live_at p r ≡ true → content (set_files (old_contents r) files) p ≡ old_at p r
old_there r p files are whole live =
    let found = found_in p r live in
    set_there (λ part. old_content part.body) r p files found are whole
    ∙ sym (ap (λ (o : Option RecordPart). option_and_then (λ (x : RecordPart). old_content x.body) o) found.is)

new_there : (r : Record) (p : Path) (files : Entries) → AreParts r.parts → is_whole r ≡ true → is_live_at p r ≡ true → content (set_files (new_contents r) files) p ≡ new_at p r
new_there r p files are whole live =
    let found = found_in p r live in
    set_there (λ part. new_content part.body) r p files found are whole
    ∙ sym (ap (λ (o : Option RecordPart). option_and_then (λ (x : RecordPart). new_content x.body) o) found.is)

valid_there : (r : Record) (p : Path) → is_whole r ≡ true → is_live_at p r ≡ true → is_valid_at p r ≡ true
valid_there r p whole live =
    let found = found_in p r live in
    let both = and_parts (is_live found.part.state) found.part.valid (found_passes p r (λ part. is_live part.state && part.valid) whole found) in
    ap (λ (o : Option RecordPart). option_map_or (λ (x : RecordPart). x.valid) o false) found.is ∙ both.1

-- ---- a push

tree_pushed : (files : Entries) (records : List Record) (r : Record) (p : Path) → AreParts r.parts → Follows records r → IsTreeLinkedAt files records p → IsTreeLinkedAt (set_files (new_contents r) files) (records ++ r ∷ []) p
tree_pushed files records r p are follows linked =
    elim (is_live_at p r) as (λ b. is_live_at p r ≡ b → IsTreeLinkedAt (set_files (new_contents r) files) (records ++ r ∷ []) p) [
      | true ↦ λ live.
          let found = found_in p r live in
          let behind : past (records ++ r ∷ []) p ≡ past records p ++ r ∷ [] = past_push records r p ∙ (λ i. past records p ++ cond (follows.done i && live i) (r ∷ []) []) in
          let ahead : future (records ++ r ∷ []) p ≡ [] = future_push records r p ∙ (λ i. no_future records r p follows found i ++ cond (not (follows.done i) && is_live_at p r) (r ∷ []) []) in
          let there = new_there r p files are follows.whole live in
          record {
            past = ap (λ c. option_map_or (is_left_by p c) (closest_past (records ++ r ∷ []) p) true) there
                ∙ ap (λ (rs : List Record). option_map_or (is_left_by p (new_at p r)) (last_or None rs) true) behind
                ∙ ap (λ (o : Option Record). option_map_or (is_left_by p (new_at p r)) o true) (last_or_push None (past records p) r)
                ∙ left_by_itself p r;
            future = ap (λ (rs : List Record). option_map_or (is_found_by p (content (set_files (new_contents r) files) p)) (slice_get rs 0) true) ahead;
          }
      | false ↦ λ away.
          let behind : past (records ++ r ∷ []) p ≡ past records p = past_push records r p ∙ (λ i. past records p ++ cond (follows.done i && away i) (r ∷ []) []) ∙ append-nil (past records p) in
          let ahead : future (records ++ r ∷ []) p ≡ future records p = future_push records r p ∙ (λ i. future records p ++ cond (not (follows.done i) && is_live_at p r) (r ∷ []) []) ∙ append-nil (future records p) in
          tree_alike files (set_files (new_contents r) files) records (records ++ r ∷ []) p
          (set_others (new_contents r) files p (contents_unset (λ part. new_content part.body) r.parts p follows.whole away))
          (zip_same p (past records p) (past (records ++ r ∷ []) p) behind) (zip_same p (future records p) (future (records ++ r ∷ []) p) ahead) linked
    ] refl

follows_from : (h : StacksState) (r : Record) → may_push h r ≡ true → Follows h.records r
follows_from h r may =
    let seventh = and_parts (eqb r.id h.next_id && eqb r.origin r.id && r.done && is_whole r && list_all (λ part. not (has_future h.records part.path)) r.parts && list_all (follows_past h.records) r.parts) (is_apart r) may in
    let sixth = and_parts (eqb r.id h.next_id && eqb r.origin r.id && r.done && is_whole r && list_all (λ part. not (has_future h.records part.path)) r.parts) (list_all (follows_past h.records) r.parts) seventh.0 in
    let fifth = and_parts (eqb r.id h.next_id && eqb r.origin r.id && r.done && is_whole r) (list_all (λ part. not (has_future h.records part.path)) r.parts) sixth.0 in
    let fourth = and_parts (eqb r.id h.next_id && eqb r.origin r.id && r.done) (is_whole r) fifth.0 in
    let third = and_parts (eqb r.id h.next_id && eqb r.origin r.id) r.done fourth.0 in
    record { done = third.1; whole = fourth.1; ahead = fifth.1; behind = sixth.1 }

-- ---- moves

-- What is known of a record that is moved.
record Moves (next_id : ℕ) (records : List Record) (r : Record) : Type 0 where
  linked : IsLinked next_id records
  is : record_of records r.id ≡ Some r
  whole : is_whole r ≡ true
  are : AreParts r.parts

tree_elsewhere : (next_id : ℕ) (files : Entries) (records : List Record) (r : Record) (done : Bool) (f : RecordPart → Content) (p : Path) → Moves next_id records r → is_live_at p r ≡ false → IsTreeLinkedAt files records p → IsTreeLinkedAt (set_files (contents f r.parts) files) (marked records r.id done) p
tree_elsewhere next_id files records r done f p moves away linked =
    let none = none_else records r.id r p moves.is moves.linked.different away in
    tree_alike files (set_files (contents f r.parts) files) records (marked records r.id done) p
    (set_others (contents f r.parts) files p (contents_unset f r.parts p moves.whole away))
    (zip_same p (past records p) (past (marked records r.id done) p) (past_marked_other records r.id done p none))
    (zip_same p (future records p) (future (marked records r.id done) p) (future_marked_other records r.id done p none)) linked

tree_back : (next_id : ℕ) (files : Entries) (records : List Record) (r : Record) (p : Path) → Moves next_id records r → list_all (λ part. is_closest r.id (closest_past records part.path)) r.parts ≡ true → is_live_at p r ≡ true → IsTreeLinkedAt (set_files (old_contents r) files) (marked records r.id false) p
tree_back next_id files records r p moves all live =
    let found = found_in p r live in
    let close = closest_there (closest_past records p) r.id (subst (λ x. is_closest r.id (closest_past records x) ≡ true) (sym found.at) (found_passes p r (λ part. is_closest r.id (closest_past records part.path)) all found)) in
    let ends = ends_with (past records p) close.closest close.is in
    let among = in_filter close.closest (λ x. x.done && is_live_at p x) records (subst (λ rs. In close.closest rs) (sym ends.is) (in_last close.closest ends.front)) in
    let same = found_by_id records r close.closest moves.linked.different (ap (record_of records) close.same ∙ moves.is) among in
    let behind : past records p ≡ ends.front ++ r ∷ [] = ends.is ∙ ap (λ x. ends.front ++ x ∷ []) same in
    let at = moves.linked.each p in
    let moved = moved_back records p ends.front r at.done_first (different_filter (is_live_at p) records moves.linked.different) behind in
    let there = old_there r p files moves.are moves.whole live in
    let meets : neighbours_meet p (ends.front ++ r ∷ future records p) ≡ true = sym (ap (neighbours_meet p) moved.before) ∙ at.meet in
    record {
      past = ap (λ c. option_map_or (is_left_by p c) (closest_past (marked records r.id false) p) true) there
          ∙ ap (λ (rs : List Record). option_map_or (is_left_by p (old_at p r)) (last_or None rs) true) moved.past
          ∙ met_behind p ends.front r (future records p) (valid_there r p moves.whole live) meets;
      future = ap (λ c. option_map_or (is_found_by p c) (closest_future (marked records r.id false) p) true) there
          ∙ ap (λ (rs : List Record). option_map_or (is_found_by p (old_at p r)) (slice_get rs 0) true) moved.future
          ∙ found_by_itself p (with_done r false);
    }

tree_forward : (next_id : ℕ) (files : Entries) (records : List Record) (r : Record) (p : Path) → Moves next_id records r → list_all (λ part. is_closest r.id (closest_future records part.path)) r.parts ≡ true → is_live_at p r ≡ true → IsTreeLinkedAt (set_files (new_contents r) files) (marked records r.id true) p
tree_forward next_id files records r p moves all live =
    let found = found_in p r live in
    let close = closest_there (closest_future records p) r.id (subst (λ x. is_closest r.id (closest_future records x) ≡ true) (sym found.at) (found_passes p r (λ part. is_closest r.id (closest_future records part.path)) all found)) in
    let begins = begins_with (future records p) close.closest close.is in
    let among = in_filter close.closest (λ x. not x.done && is_live_at p x) records (subst (λ rs. In close.closest rs) (sym begins.is) (inl refl)) in
    let same = found_by_id records r close.closest moves.linked.different (ap (record_of records) close.same ∙ moves.is) among in
    let ahead : future records p ≡ r ∷ begins.back = begins.is ∙ ap (λ x. x ∷ begins.back) same in
    let at = moves.linked.each p in
    let moved = moved_forward records p r begins.back at.done_first (different_filter (is_live_at p) records moves.linked.different) ahead in
    let there = new_there r p files moves.are moves.whole live in
    let meets : neighbours_meet p (past records p ++ r ∷ begins.back) ≡ true = sym (ap (neighbours_meet p) moved.before) ∙ at.meet in
    record {
      past = ap (λ c. option_map_or (is_left_by p c) (closest_past (marked records r.id true) p) true) there
          ∙ ap (λ (rs : List Record). option_map_or (is_left_by p (new_at p r)) (last_or None rs) true) moved.past
          ∙ ap (λ (o : Option Record). option_map_or (is_left_by p (new_at p r)) o true) (last_or_push None (past records p) (with_done r true))
          ∙ left_by_itself p (with_done r true);
      future = ap (λ c. option_map_or (is_found_by p c) (closest_future (marked records r.id true) p) true) there
          ∙ ap (λ (rs : List Record). option_map_or (is_found_by p (new_at p r)) (slice_get rs 0) true) moved.future
          ∙ met_ahead p (past records p) r begins.back (valid_there r p moves.whole live) meets;
    }

-- the record that is found is one of them
pub parts_of_found : (records : List Record) (id : ℕ) (r : Record) → AllByRecursion (λ x. AreParts x.parts) records → record_of records id ≡ Some r → AreParts r.parts
parts_of_found [] id r all h = absurd (none-some r h)
parts_of_found (x ∷ records) id r all h =
    elim (has_id id x) as (λ b. cond b (Some x) (find (has_id id) records) ≡ Some r → AreParts r.parts) [
      | true ↦ λ k. subst (λ (y : Record). AreParts y.parts) (same_Some x r k) all.0
      | false ↦ λ k. parts_of_found records id r all.1 k
    ] h

moves_from : (h : StacksState) (files : Entries) (id : ℕ) (r : Record) → AreTogether h files → record_of h.records id ≡ Some r → r.id ≡ id → is_whole r ≡ true → Moves h.next_id h.records r
moves_from h files id r all is same whole = record {
  linked = all.linked;
  is = ap (record_of h.records) same ∙ is;
  whole = whole;
  are = parts_of_found h.records id r all.parts is;
}

tree_moved_back : (h : StacksState) (files : Entries) (id : ℕ) (o : Option Record) (p : Path) → record_of h.records id ≡ o → option_map_or (may_go_back h.records) o false ≡ true → AreTogether h files → IsTreeLinkedAt (set_files (option_map_or old_contents o []) files) (marked h.records id false) p
tree_moved_back h files id None p is may all = absurd (false≢true may)
tree_moved_back h files id (Some r) p is may all =
    let both = and_parts (r.done && is_whole r) (list_all (λ part. is_closest r.id (closest_past h.records part.path)) r.parts) may in
    let whole = (and_parts r.done (is_whole r) both.0).1 in
    let same : r.id ≡ id = eqb-true r.id id (find_passes (has_id id) h.records r is) in
    let moves = moves_from h files id r all is same whole in
    subst (λ n. IsTreeLinkedAt (set_files (old_contents r) files) (marked h.records n false) p) same
    (elim (is_live_at p r) as (λ b. is_live_at p r ≡ b → IsTreeLinkedAt (set_files (old_contents r) files) (marked h.records r.id false) p) [
      | true ↦ λ live. tree_back h.next_id files h.records r p moves both.1 live
      | false ↦ λ away. tree_elsewhere h.next_id files h.records r false (λ part. old_content part.body) p moves away (all.tree p)
    ] refl)

tree_moved_forward : (h : StacksState) (files : Entries) (id : ℕ) (o : Option Record) (p : Path) → record_of h.records id ≡ o → option_map_or (may_go_forward h.records) o false ≡ true → AreTogether h files → IsTreeLinkedAt (set_files (option_map_or new_contents o []) files) (marked h.records id true) p
tree_moved_forward h files id None p is may all = absurd (false≢true may)
tree_moved_forward h files id (Some r) p is may all =
    let both = and_parts (not r.done && is_whole r) (list_all (λ part. is_closest r.id (closest_future h.records part.path)) r.parts) may in
    let whole = (and_parts (not r.done) (is_whole r) both.0).1 in
    let same : r.id ≡ id = eqb-true r.id id (find_passes (has_id id) h.records r is) in
    let moves = moves_from h files id r all is same whole in
    subst (λ n. IsTreeLinkedAt (set_files (new_contents r) files) (marked h.records n true) p) same
    (elim (is_live_at p r) as (λ b. is_live_at p r ≡ b → IsTreeLinkedAt (set_files (new_contents r) files) (marked h.records r.id true) p) [
      | true ↦ λ live. tree_forward h.next_id files h.records r p moves both.1 live
      | false ↦ λ away. tree_elsewhere h.next_id files h.records r true (λ part. new_content part.body) p moves away (all.tree p)
    ] refl)

-- ---- a set

tree_set : (files : Entries) (records : List Record) (q : Path) (bytes : Content) (p : Path) → list_any (is_valid_at q) records ≡ false → IsTreeLinkedAt files records p → IsTreeLinkedAt (set_files ((q, bytes) ∷ []) files) records p
tree_set files records q bytes p none linked =
    by_paths p q (λ x. IsTreeLinkedAt files records x → IsTreeLinkedAt (set_files ((q, bytes) ∷ []) files) records x)
    (λ _. linked_where_invalid (set_files ((q, bytes) ∷ []) files) records q none)
    (λ other is. tree_alike files (set_files ((q, bytes) ∷ []) files) records records p
    (set_others ((q, bytes) ∷ []) files p (ap (λ b. b || false) other))
    (zip_same p (past records p) (past records p) refl) (zip_same p (future records p) (future records p) refl) is)
    linked

-- ---- each effect

pub tree_after : TreeStaysLinked
tree_after h (Push r) files parts may all p = tree_pushed files h.records r p parts (follows_from h r may) (all.tree p)
tree_after h (MoveBack id) files parts may all p = tree_moved_back h files id (record_of h.records id) p refl may all
tree_after h (MoveForward id) files parts may all p = tree_moved_forward h files id (record_of h.records id) p refl may all
tree_after h (Split id first) files parts may all p = tree_split files h.records id first p all.parts (all.tree p)
tree_after h (Drop q reason) files parts may all p = tree_lost files h.records q reason p (all.tree p)
tree_after h (Invalidate q) files parts may all p = tree_invalidated files h.records q p (all.tree p)
tree_after h (Bump q by) files parts may all p = all.tree p
tree_after h (Set q bytes) files parts may all p = tree_set files h.records q bytes p (not-true (list_any (is_valid_at q) h.records) may) (all.tree p)
