-- Records that fit one another fit with a new record that may be pushed.
use Rattle.std.proofs.Common.{◌≡◌, Bool, true, false, ◌&&◌, not, cond, List, [], ◌∷◌, ◌++◌, Option, Some, None, refl, sym, ap, subst, ◌∙◌}
use Rattle.std.specs.Prelude.{is_some, option_and_then, slice_get}
use Rattle.std.specs.List.{list_all, last_or}
use Rattle.std.specs.Option.{option_map_or}
use Rattle.std.specs.Ordering.{eq_by_cmp}
use Rattle.std.proofs.lemmas.Bool.{not-true, false≢true}
use Rattle.std.proofs.lemmas.List.{append-nil}
use Rattle.wse_path.specs.Path.{Path}
use Rattle.wse_path.specs.Order.{path_cmp}
use Rattle.wse_path.specs.Changes.{is_same}
use Rattle.wse_path.proofs.EntryLemmas.{and_parts}
use Rattle.wse_path.proofs.PathOrder.{same_path}
use Rattle.wse_path.proofs.ChangeLemmas.{same_content}
use Rattle.wse_path.proofs.GatheredLemmas.{is_same_itself}
use Rattle.wse_element.specs.Content.{Content, old_content}
use Rattle.wse_element.specs.Record.{RecordPart, Record}
use Rattle.wse_element.specs.Live.{is_live, is_live_part_at, live_part, is_live_at, is_valid_at, old_at, new_at}
use Rattle.wse_element.specs.Stacks.{live_at, past, future, closest_past}
use Rattle.wse_element.specs.Linked.{come_first, meet_at, meets_first, neighbours_meet, is_left_by, IsLinkedAt}
use Rattle.wse_element.specs.Applicable.{is_whole, has_future, follows_past}
use Rattle.wse_element.proofs.ListLemmas.{find_passes, find_among, come_first_push}
use Rattle.wse_element.proofs.PastLemmas.{past_and_future, live_at_push, past_done}
use Rattle.wse_element.proofs.MoveLemmas.{all_push}
use Rattle.wse_element.proofs.LinkedLemmas.{come_first_all}

-- equal contents, from the other side
pub same_back : (a b : Content) → is_same a b ≡ true → is_same b a ≡ true
same_back a b h = subst (λ c. is_same c a ≡ true) (same_content a b h) (is_same_itself a)

nothing_first : (records : List Record) → is_some (slice_get records 0) ≡ false → records ≡ []
nothing_first [] h = refl
nothing_first (r ∷ records) h = absurd (false≢true (sym h))

-- the part by which a record is live at a path
pub record Found (p : Path) (r : Record) : Type 0 where
  pub part : RecordPart
  pub is : live_part p r ≡ Some part
  pub at : p ≡ part.path

found_from : (p : Path) (r : Record) (o : Option RecordPart) → live_part p r ≡ o → is_some o ≡ true → Found p r
found_from p r None h k = absurd (false≢true k)
found_from p r (Some part) h k = record {
  part = part;
  is = h;
  at = same_path p part.path (and_parts (eq_by_cmp path_cmp p part.path) (is_live part.state) (find_passes (is_live_part_at p) r.parts part h)).0;
}

pub found_in : (p : Path) (r : Record) → is_live_at p r ≡ true → Found p r
found_in p r live = found_from p r (live_part p r) refl live

-- what each part passes it passes
pub found_passes : (p : Path) (r : Record) (test : RecordPart → Bool) → list_all test r.parts ≡ true → (found : Found p r) → test found.part ≡ true
found_passes p r test all found = find_among (is_live_part_at p) test r.parts found.part found.is all

neighbours_push : (p : Path) (records : List Record) (r : Record) → neighbours_meet p records ≡ true → option_map_or (λ c. meet_at p c r) (last_or None records) true ≡ true → neighbours_meet p (records ++ r ∷ []) ≡ true
neighbours_push p [] r h k = refl
neighbours_push p (x ∷ []) r h k = ap (λ b. b && true) k
neighbours_push p (x ∷ y ∷ more) r h k =
    let parts = and_parts (meets_first p x (y ∷ more)) (neighbours_meet p (y ∷ more)) h in
    λ i. parts.0 i && neighbours_push p (y ∷ more) r parts.1 k i

-- what follows the past meets it
follows_meets : (p : Path) (r : Record) (o : Option Record) → option_map_or (is_left_by p (old_at p r)) o true ≡ true → option_map_or (λ c. meet_at p c r) o true ≡ true
follows_meets p r None h = refl
follows_meets p r (Some c) h =
    elim (is_valid_at p c) as (λ b. cond b (is_same (old_at p r) (new_at p c)) true ≡ true → cond (b && is_valid_at p r) (is_same (new_at p c) (old_at p r)) true ≡ true) [
      | true ↦ λ k. elim (is_valid_at p r) as (λ v. cond (true && v) (is_same (new_at p c) (old_at p r)) true ≡ true) [ true ↦ same_back (old_at p r) (new_at p c) k | false ↦ refl ]
      | false ↦ λ _. refl
    ] h

-- what a record that may be pushed says of itself
pub record Follows (records : List Record) (r : Record) : Type 0 where
  pub done : r.done ≡ true
  pub whole : is_whole r ≡ true
  pub ahead : list_all (λ part. not (has_future records part.path)) r.parts ≡ true
  pub behind : list_all (follows_past records) r.parts ≡ true

-- at each of its paths there is no future
pub no_future : (records : List Record) (r : Record) (p : Path) → Follows records r → Found p r → future records p ≡ []
no_future records r p follows found =
    let none = found_passes p r (λ part. not (has_future records part.path)) follows.ahead found in
    nothing_first (future records p) (subst (λ x. has_future records x ≡ false) (sym found.at) (not-true (has_future records found.part.path) none))

pushed_there : (records : List Record) (r : Record) (p : Path) → Follows records r → is_live_at p r ≡ true → IsLinkedAt records p → IsLinkedAt (records ++ r ∷ []) p
pushed_there records r p follows live linked =
    let found = found_in p r live in
    let new : live_at (records ++ r ∷ []) p ≡ live_at records p ++ r ∷ [] = live_at_push records r p ∙ ap (λ b. live_at records p ++ cond b (r ∷ []) []) live in
    let all_past : live_at records p ≡ past records p = past_and_future records p linked.done_first ∙ ap (λ rs. past records p ++ rs) (no_future records r p follows found) ∙ append-nil (past records p) in
    let done = all_push (λ x. x.done) (live_at records p) r (ap (list_all (λ (x : Record). x.done)) all_past ∙ past_done records p) follows.done in
    let whole = and_parts (is_live found.part.state) found.part.valid (found_passes p r (λ part. is_live part.state && part.valid) follows.whole found) in
    let valid : is_valid_at p r ≡ true = ap (λ o. option_map_or (λ (x : RecordPart). x.valid) o false) found.is ∙ whole.1 in
    let old : old_at p r ≡ old_content found.part.body = ap (option_and_then (λ (x : RecordPart). old_content x.body)) found.is in
    let left : option_map_or (is_left_by p (old_at p r)) (closest_past records p) true ≡ true =
    ap (λ c. option_map_or (is_left_by p c) (closest_past records p) true) old
    ∙ subst (λ x. option_map_or (is_left_by x (old_content found.part.body)) (closest_past records x) true ≡ true) (sym found.at) (found_passes p r (follows_past records) follows.behind found) in
    record {
      done_first = ap (come_first (λ (x : Record). x.done)) new ∙ come_first_all (λ x. x.done) (live_at records p ++ r ∷ []) done;
      invalid_first = ap (come_first (λ (x : Record). not (is_valid_at p x))) new ∙ come_first_push (λ x. not (is_valid_at p x)) (live_at records p) r linked.invalid_first (ap not valid);
      meet = ap (neighbours_meet p) new ∙ neighbours_push p (live_at records p) r linked.meet (ap (λ rs. option_map_or (λ c. meet_at p c r) (last_or None rs) true) all_past ∙ follows_meets p r (closest_past records p) left);
    }

pushed_elsewhere : (records : List Record) (r : Record) (p : Path) → is_live_at p r ≡ false → IsLinkedAt records p → IsLinkedAt (records ++ r ∷ []) p
pushed_elsewhere records r p away linked =
    let same : live_at (records ++ r ∷ []) p ≡ live_at records p = live_at_push records r p ∙ ap (λ b. live_at records p ++ cond b (r ∷ []) []) away ∙ append-nil (live_at records p) in
    record {
      done_first = ap (come_first (λ (x : Record). x.done)) same ∙ linked.done_first;
      invalid_first = ap (come_first (λ (x : Record). not (is_valid_at p x))) same ∙ linked.invalid_first;
      meet = ap (neighbours_meet p) same ∙ linked.meet;
    }

pub linked_pushed : (records : List Record) (r : Record) (p : Path) → Follows records r → IsLinkedAt records p → IsLinkedAt (records ++ r ∷ []) p
linked_pushed records r p follows linked =
    elim (is_live_at p r) as (λ b. is_live_at p r ≡ b → IsLinkedAt (records ++ r ∷ []) p) [
      | true ↦ λ live. pushed_there records r p follows live linked
      | false ↦ λ away. pushed_elsewhere records r p away linked
    ] refl
