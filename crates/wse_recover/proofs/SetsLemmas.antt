-- What a record's effects set in the tree.
use Rattle.std.proofs.Common.{◌≡◌, ℕ, suc, ◌+◌, ◌-◌, ◌*◌, ◌^◌, ◌<◌, ◌≤◌, Bool, true, false, cond, not, ◌&&◌, ◌||◌, List, [], ◌∷◌, ◌++◌, map, length, take, drop, get_or, zero, Option, Result, Ok, Err, Some, None, refl, sym, ap, subst, ◌∙◌, append-nil, take-append-drop, arith}
use Rattle.std.specs.Prelude.{filter, find, flat_map, is_some, nat_le, slice_get, IfOk, ◌==◌}
use Rattle.std.specs.List.{All, AllByRecursion, list_any, list_all, enumerate_from}
use Rattle.std.specs.Option.{option_map_or}
use Rattle.std.proofs.lemmas.List.Elements.{All-from_recursion}
use Rattle.std.proofs.lemmas.List.{take_more}
use Rattle.std.proofs.lemmas.Option.{none-some}
use Rattle.std.proofs.lemmas.Bool.{and_from, or_left, or_right, or_parts, true≢false, false_from_ne_true, leb-true, eqb-true}
use Rattle.wse_path.specs.Path.{Path}
use Rattle.wse_path.specs.Versions.{Numbers}
use Rattle.wse_path.proofs.EntryLemmas.{and_parts}
use Rattle.wse_element.specs.declared.effect.Effect.{Effect}
use Rattle.wse_element.specs.declared.effect.Effect.TheVariants.{Push, MoveBack, MoveForward, Split, Drop, Invalidate, Bump, Set}
use Rattle.wse_element.specs.declared.state.PartState.{PartState}
use Rattle.wse_element.specs.declared.state.PartState.TheVariants.{Live, Closed, Incompatible}
use Rattle.wse_element.specs.Content.{Content, old_content, new_content}
use Rattle.wse_element.specs.Record.{RecordPart, Record}
use Rattle.wse_element.specs.Live.{is_live, has_live, live_parts}
use Rattle.wse_element.specs.Losses.{lost_at, future_lost_at, invalid_at}
use Rattle.wse_element.specs.Split.{piece, pieces}
use Rattle.wse_element.specs.Stacks.{has_id, record_of, closest_past, closest_future}
use Rattle.wse_element.specs.State.{StacksState, stacks_of}
use Rattle.wse_element.specs.Effects.{marked_one, after, after_each, begun, old_contents, new_contents, contents_set, records_after, ids_taken, versions_after}
use Rattle.wse_element.specs.Applicable.{is_whole, has_future, follows_past, is_closest, may_split, may_go_back, may_go_forward, may_come, is_applicable, is_first_to_set, sets_tree}
use Rattle.wse_element.specs.Apart.{are_apart, is_apart, old_paths, new_paths}
use Rattle.wse_element.specs.Laws.{AllApply, BringsNone}
use Rattle.wse_element.specs.Numbers.{is_bounded, is_serial_bounded, is_next_id_bounded, is_weight_bounded}
use Rattle.wse_element.specs.Way.{comes, coming}
use Rattle.wse_element.proofs.ListLemmas.{filter-filter, list_all-append, list_all_weaker, filter_all}
use Rattle.wse_element.proofs.ApartLemmas.{is_apart-lost_at, is_apart-future_lost_at, is_apart-invalid_at}
use Rattle.wse_element.proofs.SplitAfterLemmas.{not_under_itself}
use Rattle.wse_element.proofs.FoldLemmas.{none_refused, after_behind}
use Rattle.wse_stacks.specs.Image.{if_live, image_lost, image, images, IsSmall}
use Rattle.wse_stacks.proofs.ImageLemmas.{images_are}
use Rattle.wse_txn.specs.Replay.{sets_each}
use Rattle.std.specs.FinMap.{is_sorted}
use Rattle.wse_path.specs.Order.{path_cmp}
use Rattle.wse_recover.specs.Sets.{AreToCome, is_meant, is_meant_by, meant, IsPlain, MayEnter}
use Rattle.wse_recover.proofs.RiseLemmas.{dropped_one}

-- ---- elements that aren't meant aren't looked at

module _ {X : Type 0} (t : X → Bool) where
  filter_append : (xs ys : List X) → filter t (xs ++ ys) ≡ filter t xs ++ filter t ys
  filter_append [] ys = refl
  filter_append (x ∷ xs) ys =
      elim (t x) as (λ b. cond b (x ∷ filter t (xs ++ ys)) (filter t (xs ++ ys)) ≡ cond b (x ∷ filter t xs) (filter t xs) ++ filter t ys) [
        | true ↦ ap (λ zs. x ∷ zs) (filter_append xs ys)
        | false ↦ filter_append xs ys
      ]

  -- the filter of a map stays where the map of all others passes no test
  filter_flat : (f : X → List X) → ((x : X) → t x ≡ false → filter t (f x) ≡ []) → (xs : List X) → filter t (flat_map f xs) ≡ filter t (flat_map f (filter t xs))
  filter_flat f goes [] = refl
  filter_flat f goes (x ∷ xs) =
      filter_append (f x) (flat_map f xs)
      ∙ elim (t x) as (λ b. t x ≡ b → filter t (f x) ++ filter t (flat_map f xs) ≡ filter t (flat_map f (cond b (x ∷ filter t xs) (filter t xs)))) [
        | true ↦ λ e. ap (λ zs. filter t (f x) ++ zs) (filter_flat f goes xs) ∙ sym (filter_append (f x) (flat_map f (filter t xs)))
        | false ↦ λ e. ap (λ zs. zs ++ filter t (flat_map f xs)) (goes x e) ∙ filter_flat f goes xs
      ] refl

  filter_one : (x : X) → t x ≡ false → filter t (x ∷ []) ≡ []
  filter_one x e = ap (λ b. cond b (x ∷ []) []) e

clash : (b : Bool) → b ≡ true → b ≡ false → ⊥
clash b t f = true≢false (sym t ∙ f)

module _ (before : List Effect) (effect : Effect) where
  goes_lost : (path : Path) (reason : PartState) (r : Record) → is_meant_by before effect r ≡ false → filter (is_meant_by before effect) (image_lost path reason r) ≡ []
  goes_lost path Live r e = filter_one (is_meant_by before effect) r e
  goes_lost path Closed r e =
      elim (has_live (lost_at path Closed r)) as (λ b. filter (is_meant_by before effect) (cond b (lost_at path Closed r ∷ []) []) ≡ []) [
        | true ↦ filter_one (is_meant_by before effect) (lost_at path Closed r) e
        | false ↦ refl
      ]
  goes_lost path Incompatible r e =
      let same : is_meant_by before effect (future_lost_at path r) ≡ false = elim r.done as (λ b. is_meant_by before effect (cond b r (lost_at path Incompatible r)) ≡ false) [ true ↦ e | false ↦ e ] in
      elim (has_live (future_lost_at path r)) as (λ b. filter (is_meant_by before effect) (cond b (future_lost_at path r ∷ []) []) ≡ []) [
        | true ↦ filter_one (is_meant_by before effect) (future_lost_at path r) same
        | false ↦ refl
      ]

  goes : (e : Effect) → sets_tree e ≡ false → ((id : ℕ) → is_meant id e ≡ true → list_any (is_meant id) before ≡ true) → (r : Record) → is_meant_by before effect r ≡ false
      → filter (is_meant_by before effect) (image e r) ≡ []
  goes (Push x) none among r un = absurd (true≢false none)
  goes (MoveBack id) none among r un = absurd (true≢false none)
  goes (MoveForward id) none among r un = absurd (true≢false none)
  goes (Set path content) none among r un = absurd (true≢false none)
  goes (Split id first) none among r un =
      elim (has_id id r) as (λ b. has_id id r ≡ b → filter (is_meant_by before effect) (cond b (pieces r first) (r ∷ [])) ≡ []) [
        | true ↦ λ h. absurd (clash (list_any (is_meant r.id) before) (among r.id h) (or_parts (list_any (is_meant r.id) before) (is_meant r.id effect) un).0)
        | false ↦ λ h. filter_one (is_meant_by before effect) r un
      ] refl
  goes (Drop path reason) none among r un = goes_lost path reason r un
  goes (Invalidate path) none among r un = filter_one (is_meant_by before effect) (invalid_at path r) un
  goes (Bump path by) none among r un = filter_one (is_meant_by before effect) r un

plain_brings : (e : Effect) → sets_tree e ≡ false → BringsNone e
plain_brings (Push x) none = absurd (true≢false none)
plain_brings (MoveBack id) none = tt
plain_brings (MoveForward id) none = tt
plain_brings (Split id first) none = tt
plain_brings (Drop path reason) none = tt
plain_brings (Invalidate path) none = tt
plain_brings (Bump path by) none = tt
plain_brings (Set path content) none = tt

-- after one effect more the meant elements are those of the whole list
pub named_after : (before : List Effect) (effect e : Effect) (some all : List Record) → sets_tree e ≡ false → ((id : ℕ) → is_meant id e ≡ true → list_any (is_meant id) before ≡ true)
    → filter (is_meant_by before effect) some ≡ filter (is_meant_by before effect) all → filter (is_meant_by before effect) (images e some) ≡ filter (is_meant_by before effect) (records_after all e)
named_after before effect e some all none among same =
    let t = is_meant_by before effect in
    let go = goes before effect e none among in
    filter_flat t (image e) go some ∙ ap (λ rs. filter t (flat_map (image e) rs)) same ∙ sym (filter_flat t (image e) go all)
    ∙ ap (filter t) (images_are all e (plain_brings e none))

found_named : (t : Record → Bool) (id : ℕ) → ((r : Record) → has_id id r ≡ true → t r ≡ true) → (rs : List Record) → record_of (filter t rs) id ≡ record_of rs id
found_named t id names [] = refl
found_named t id names (r ∷ rs) =
    elim (t r) as (λ b. t r ≡ b → find (has_id id) (cond b (r ∷ filter t rs) (filter t rs)) ≡ cond (has_id id r) (Some r) (find (has_id id) rs)) [
      | true ↦ λ e. ap (λ o. cond (has_id id r) (Some r) o) (found_named t id names rs)
      | false ↦ λ e. found_named t id names rs ∙ sym (ap (λ b. cond b (Some r) (find (has_id id) rs)) (false_from_ne_true (has_id id r) (λ h. clash (t r) (names r h) e)))
    ] refl

-- what the effect sets is the same of the meant elements alone
pub meant_set : (before : List Effect) (effect : Effect) (some all : List Record) → filter (is_meant_by before effect) some ≡ filter (is_meant_by before effect) all → contents_set some effect ≡ contents_set all effect
meant_set before (Push x) some all same = refl
meant_set before (MoveBack id) some all same =
    let t = is_meant_by before (MoveBack id) in
    let names = λ (r : Record) (h : has_id id r ≡ true). or_right (list_any (is_meant r.id) before) (has_id id r) h in
    ap (λ o. option_map_or old_contents o []) (sym (found_named t id names some) ∙ ap (λ rs. record_of rs id) same ∙ found_named t id names all)
meant_set before (MoveForward id) some all same =
    let t = is_meant_by before (MoveForward id) in
    let names = λ (r : Record) (h : has_id id r ≡ true). or_right (list_any (is_meant r.id) before) (has_id id r) h in
    ap (λ o. option_map_or new_contents o []) (sym (found_named t id names some) ∙ ap (λ rs. record_of rs id) same ∙ found_named t id names all)
meant_set before (Split id first) some all same = refl
meant_set before (Drop path reason) some all same = refl
meant_set before (Invalidate path) some all same = refl
meant_set before (Bump path by) some all same = refl
meant_set before (Set path content) some all same = refl

-- ---- the parts of each element are apart

apart_alone : (p : Path) → are_apart (p ∷ []) ≡ true
apart_alone p = ap (λ b. not (b || false) && true) (not_under_itself p)

apart_new : (part : RecordPart) → are_apart (map (λ (x : RecordPart). x.path) (cond (is_some (new_content part.body)) (part ∷ []) [])) ≡ true
apart_new part = elim (is_some (new_content part.body)) as (λ n. are_apart (map (λ (x : RecordPart). x.path) (cond n (part ∷ []) [])) ≡ true) [ true ↦ apart_alone part.path | false ↦ refl ]

apart_piece : (r : Record) (id : ℕ) (part : RecordPart) → is_apart (piece r id part) ≡ true
apart_piece r id part =
    elim (is_live part.state) as (λ l. (are_apart (map (λ (x : RecordPart). x.path) (filter (λ (x : RecordPart). is_some (old_content x.body)) (cond l (part ∷ []) []))) && are_apart (map (λ (x : RecordPart). x.path) (filter (λ (x : RecordPart). is_some (new_content x.body)) (cond l (part ∷ []) [])))) ≡ true) [
      | true ↦
          elim (is_some (old_content part.body)) as (λ o. (are_apart (map (λ (x : RecordPart). x.path) (cond o (part ∷ []) [])) && are_apart (map (λ (x : RecordPart). x.path) (cond (is_some (new_content part.body)) (part ∷ []) []))) ≡ true) [
            | true ↦ λ i. apart_alone part.path i && apart_new part i
            | false ↦ apart_new part
          ]
      | false ↦ refl
    ]

apart_pieces : (r : Record) (parts : List RecordPart) (first : ℕ) → list_all is_apart (map (λ numbered. piece r numbered.0 numbered.1) (enumerate_from first parts)) ≡ true
apart_pieces r [] first = refl
apart_pieces r (part ∷ parts) first =
    and_from (is_apart (piece r first part)) (list_all is_apart (map (λ numbered. piece r numbered.0 numbered.1) (enumerate_from (first + 1) parts))) (apart_piece r first part) (apart_pieces r parts (first + 1))

apart_one : (r : Record) → is_apart r ≡ true → list_all is_apart (r ∷ []) ≡ true
apart_one r h = ap (λ b. b && true) h

apart_live : (r : Record) → is_apart r ≡ true → list_all is_apart (if_live r) ≡ true
apart_live r h = elim (has_live r) as (λ b. list_all is_apart (cond b (r ∷ []) []) ≡ true) [ true ↦ apart_one r h | false ↦ refl ]

apart_lost : (path : Path) (reason : PartState) (r : Record) → is_apart r ≡ true → list_all is_apart (image_lost path reason r) ≡ true
apart_lost path Live r h = apart_one r h
apart_lost path Closed r h = apart_live (lost_at path Closed r) (is_apart-lost_at path Closed r refl h)
apart_lost path Incompatible r h = apart_live (future_lost_at path r) (is_apart-future_lost_at path r h)

apart_marked : (id : ℕ) (done : Bool) (r : Record) → is_apart r ≡ true → is_apart (marked_one id done r) ≡ true
apart_marked id done r h = elim (has_id id r) as (λ b. is_apart (cond b (record r { done = done }) r) ≡ true) [ true ↦ h | false ↦ h ]

apart_image : (e : Effect) (r : Record) → is_apart r ≡ true → list_all is_apart (image e r) ≡ true
apart_image (Push x) r h = apart_one r h
apart_image (MoveBack id) r h = apart_one (marked_one id false r) (apart_marked id false r h)
apart_image (MoveForward id) r h = apart_one (marked_one id true r) (apart_marked id true r h)
apart_image (Split id first) r h = elim (has_id id r) as (λ b. list_all is_apart (cond b (pieces r first) (r ∷ [])) ≡ true) [ true ↦ apart_pieces r (live_parts r) first | false ↦ apart_one r h ]
apart_image (Drop path reason) r h = apart_lost path reason r h
apart_image (Invalidate path) r h = apart_one (invalid_at path r) (is_apart-invalid_at path r ∙ h)
apart_image (Bump path by) r h = apart_one r h
apart_image (Set path content) r h = apart_one r h

apart_images : (e : Effect) (rs : List Record) → list_all is_apart rs ≡ true → list_all is_apart (images e rs) ≡ true
apart_images e [] h = refl
apart_images e (r ∷ rs) h =
    let both = and_parts (is_apart r) (list_all is_apart rs) h in
    list_all-append is_apart (image e r) (images e rs) (apart_image e r both.0) (apart_images e rs both.1)

-- ---- what is set is apart

coming_is : (f : RecordPart → Content) (parts : List RecordPart) → coming (map (λ part. (part.path, f part)) parts) ≡ map (λ part. part.path) (filter (λ part. is_some (f part)) parts)
coming_is f [] = refl
coming_is f (x ∷ parts) =
    elim (is_some (f x)) as (λ b. map (λ c. c.0) (cond b ((x.path, f x) ∷ filter comes (map (λ part. (part.path, f part)) parts)) (filter comes (map (λ part. (part.path, f part)) parts))) ≡ map (λ part. part.path) (cond b (x ∷ filter (λ part. is_some (f part)) parts) (filter (λ part. is_some (f part)) parts))) [
      | true ↦ ap (λ ps. x.path ∷ ps) (coming_is f parts)
      | false ↦ coming_is f parts
    ]

whole_live : (r : Record) → is_whole r ≡ true → live_parts r ≡ r.parts
whole_live r whole = filter_all (λ part. is_live part.state) r.parts (list_all_weaker (λ part. is_live part.state && part.valid) (λ part. is_live part.state) (λ part h. (and_parts (is_live part.state) part.valid h).0) r.parts whole)

old_apart : (r : Record) → is_whole r ≡ true → is_apart r ≡ true → are_apart (coming (old_contents r)) ≡ true
old_apart r whole apart =
    ap are_apart (coming_is (λ part. old_content part.body) r.parts ∙ ap (λ ps. map (λ part. part.path) (filter (λ part. is_some (old_content part.body)) ps)) (sym (whole_live r whole)))
    ∙ (and_parts (are_apart (old_paths r)) (are_apart (new_paths r)) apart).0

new_apart : (r : Record) → is_whole r ≡ true → is_apart r ≡ true → are_apart (coming (new_contents r)) ≡ true
new_apart r whole apart =
    ap are_apart (coming_is (λ part. new_content part.body) r.parts ∙ ap (λ ps. map (λ part. part.path) (filter (λ part. is_some (new_content part.body)) ps)) (sym (whole_live r whole)))
    ∙ (and_parts (are_apart (old_paths r)) (are_apart (new_paths r)) apart).1

-- the record that is found is one of them
found_apart : (id : ℕ) (rs : List Record) (r : Record) → list_all is_apart rs ≡ true → record_of rs id ≡ Some r → is_apart r ≡ true
found_apart id [] r all found = absurd (none_some r found)
  where
    none_some : (r : Record) → None ≡ Some r → ⊥
    none_some r h = cc
found_apart id (x ∷ rs) r all found =
    let both = and_parts (is_apart x) (list_all is_apart rs) all in
    elim (has_id id x) as (λ b. cond b (Some x) (record_of rs id) ≡ Some r → is_apart r ≡ true) [
      | true ↦ λ k. let same : x ≡ r = cc in ap is_apart (sym same) ∙ both.0
      | false ↦ λ k. found_apart id rs r both.1 k
    ] found

back_apart : (h : StacksState) (id : ℕ) (o : Option Record) → list_all is_apart h.records ≡ true → record_of h.records id ≡ o → option_map_or (may_go_back h.records) o false ≡ true → are_apart (coming (option_map_or old_contents o [])) ≡ true
back_apart h id None all is may = refl
back_apart h id (Some r) all is may =
    let both = and_parts (r.done && is_whole r) (list_all (λ part. is_closest r.id (closest_past h.records part.path)) r.parts) may in
    old_apart r (and_parts r.done (is_whole r) both.0).1 (found_apart id h.records r all is)

forward_apart : (h : StacksState) (id : ℕ) (o : Option Record) → list_all is_apart h.records ≡ true → record_of h.records id ≡ o → option_map_or (may_go_forward h.records) o false ≡ true → are_apart (coming (option_map_or new_contents o [])) ≡ true
forward_apart h id None all is may = refl
forward_apart h id (Some r) all is may =
    let both = and_parts (not r.done && is_whole r) (list_all (λ part. is_closest r.id (closest_future h.records part.path)) r.parts) may in
    new_apart r (and_parts (not r.done) (is_whole r) both.0).1 (found_apart id h.records r all is)

set_apart : (h : StacksState) (e : Effect) → list_all is_apart h.records ≡ true → may_come h e ≡ true → are_apart (coming (contents_set h.records e)) ≡ true
set_apart h (Push r) all may =
    let last = and_parts (r.id == h.next_id && r.origin == r.id && r.done && is_whole r && list_all (λ part. not (has_future h.records part.path)) r.parts && list_all (follows_past h.records) r.parts) (is_apart r) may in
    let sixth = and_parts (r.id == h.next_id && r.origin == r.id && r.done && is_whole r && list_all (λ part. not (has_future h.records part.path)) r.parts) (list_all (follows_past h.records) r.parts) last.0 in
    let fifth = and_parts (r.id == h.next_id && r.origin == r.id && r.done && is_whole r) (list_all (λ part. not (has_future h.records part.path)) r.parts) sixth.0 in
    let fourth = and_parts (r.id == h.next_id && r.origin == r.id && r.done) (is_whole r) fifth.0 in
    new_apart r fourth.1 last.1
set_apart h (MoveBack id) all may = back_apart h id (record_of h.records id) all refl may
set_apart h (MoveForward id) all may = forward_apart h id (record_of h.records id) all refl may
set_apart h (Split id first) all may = refl
set_apart h (Drop path reason) all may = refl
set_apart h (Invalidate path) all may = refl
set_apart h (Bump path by) all may = refl
set_apart h (Set path content) all may = let one : Path × Content = (path, content) in elim (is_some content) as (λ b. are_apart (map (λ (c : Path × Content). c.0) (cond b (one ∷ []) [])) ≡ true) [ true ↦ apart_alone path | false ↦ refl ]

-- ---- along the effects

small_split : (h : StacksState) (id first : ℕ) → is_applicable h (Split id first) ≡ true → first < 2 ^ 63
small_split h id first applies =
    let taken = ids_taken h.records (Split id first) in
    let both = and_parts (may_come h (Split id first)) (is_bounded (after h (Split id first))) applies in
    let same : first ≡ h.next_id = eqb-true first h.next_id (and_parts (option_map_or may_split (record_of h.records id) false) (first == h.next_id) both.0).1 in
    let next = after h (Split id first) in
    let outer = and_parts (is_serial_bounded next && is_next_id_bounded next) (is_weight_bounded next) both.1 in
    let inner = and_parts (is_serial_bounded next) (is_next_id_bounded next) outer.0 in
    let serial : h.serial ≤ 2 ^ 30 - 1 = leb-true h.serial (2 ^ 30 - 1) inner.0 in
    let id_bound : h.next_id + taken ≤ 1 + h.serial * 2 ^ 32 = leb-true (h.next_id + taken) (1 + h.serial * 2 ^ 32) (and_parts (nat_le 1 (h.next_id + taken)) (nat_le (h.next_id + taken) (1 + h.serial * 2 ^ 32)) inner.1).1 in
    omega (arith, same, serial, id_bound)

small_effect : (h : StacksState) (e : Effect) → is_applicable h e ≡ true → IsSmall e
small_effect h (Push x) applies = tt
small_effect h (MoveBack id) applies = tt
small_effect h (MoveForward id) applies = tt
small_effect h (Split id first) applies = small_split h id first applies
small_effect h (Drop path reason) applies = tt
small_effect h (Invalidate path) applies = tt
small_effect h (Bump path by) applies = tt
small_effect h (Set path content) applies = tt

none_set : (rs : List Record) (e : Effect) → sets_tree e ≡ false → contents_set rs e ≡ []
none_set rs (Push x) none = absurd (true≢false none)
none_set rs (MoveBack id) none = absurd (true≢false none)
none_set rs (MoveForward id) none = absurd (true≢false none)
none_set rs (Set path content) none = absurd (true≢false none)
none_set rs (Split id first) none = refl
none_set rs (Drop path reason) none = refl
none_set rs (Invalidate path) none = refl
none_set rs (Bump path by) none = refl

pub none_set_each : (h : StacksState) (es : List Effect) → list_any sets_tree es ≡ false → sets_each h es ≡ []
none_set_each h [] none = refl
none_set_each h (e ∷ es) none =
    let both = or_parts (sets_tree e) (list_any sets_tree es) none in
    ap (λ (cs : List (Path × Content)). cs ++ sets_each (after h e) es) (none_set h.records e both.0) ∙ none_set_each (after h e) es both.1

any_front : (xs ys : List Effect) → list_any sets_tree xs ≡ true → list_any sets_tree (xs ++ ys) ≡ true
any_front [] ys h = absurd (true≢false (sym h))
any_front (x ∷ xs) ys h =
    elim (sets_tree x) as (λ b. (b || list_any sets_tree xs) ≡ true → (b || list_any sets_tree (xs ++ ys)) ≡ true) [ true ↦ λ _. refl | false ↦ λ k. any_front xs ys k ] h

any_last : (xs : List Effect) (e : Effect) → sets_tree e ≡ true → list_any sets_tree (xs ++ e ∷ []) ≡ true
any_last [] e h = ap (λ b. b || false) h
any_last (x ∷ xs) e h = or_right (sets_tree x) (list_any sets_tree (xs ++ e ∷ [])) (any_last xs e h)

-- behind an effect that sets something none does
later : (serial : ℕ) (h : StacksState) (versions : Numbers) (so_far more : List Effect) → list_any sets_tree so_far ≡ true → AllApply serial h versions so_far more → list_any sets_tree more ≡ false
later serial h versions so_far [] any all = refl
later serial h versions so_far (x ∷ more) any all =
    let one : sets_tree x ≡ false = false_from_ne_true (sets_tree x) (λ t. clash (is_first_to_set so_far x) all.0 (λ i. not (t i && any i))) in
    ap (λ b. b || list_any sets_tree more) one ∙ later serial (after h x) (versions_after versions x) (so_far ++ x ∷ []) more (any_front so_far (x ∷ []) any) all.3

-- What is known where the effect behind others sets something, and none of those does.
record Reached (h : StacksState) (before : List Effect) (e : Effect) (more : List Effect) : Type 0 where
  may : may_come (after_each h before) e ≡ true
  apart : list_all is_apart (after_each h before).records ≡ true
  plain : AllByRecursion IsPlain before
  none : list_any sets_tree more ≡ false

reach : (serial : ℕ) (h : StacksState) (versions : Numbers) (so_far before : List Effect) (e : Effect) (more : List Effect) → AllApply serial h versions so_far (before ++ e ∷ more)
    → list_all is_apart h.records ≡ true → list_any sets_tree before ≡ false → sets_tree e ≡ true → Reached h before e more
reach serial h versions so_far [] e more all apart none sets = record {
  may = (and_parts (may_come h e) (is_bounded (after h e)) all.1).0;
  apart = apart;
  plain = tt;
  none = later serial (after h e) (versions_after versions e) (so_far ++ e ∷ []) more (any_last so_far e sets) all.3;
}
reach serial h versions so_far (x ∷ before) e more all apart none sets =
    let both = or_parts (sets_tree x) (list_any sets_tree before) none in
    let still : list_all is_apart (after h x).records ≡ true = ap (list_all is_apart) (sym (images_are h.records x (plain_brings x both.0))) ∙ apart_images x h.records apart in
    let rest = reach serial (after h x) (versions_after versions x) (so_far ++ x ∷ []) before e more all.3 still both.1 sets in
    record {
      may = rest.may;
      apart = rest.apart;
      plain = (record { none = both.0; small = small_effect h x all.1 }, rest.plain);
      none = rest.none;
    }

sets_there : (h : StacksState) (before : List Effect) (e : Effect) (more : List Effect) → list_any sets_tree before ≡ false → list_any sets_tree more ≡ false → sets_each h (before ++ e ∷ more) ≡ contents_set (after_each h before).records e
sets_there h [] e more none later = ap (λ (cs : List (Path × Content)). contents_set h.records e ++ cs) (none_set_each (after h e) more later) ∙ append-nil (contents_set h.records e)
sets_there h (x ∷ before) e more none later =
    let both = or_parts (sets_tree x) (list_any sets_tree before) none in
    ap (λ (cs : List (Path × Content)). cs ++ sets_each (after h x) (before ++ e ∷ more)) (none_set h.records x both.0) ∙ sets_there (after h x) before e more both.1 later

-- the records don't depend on the serial number
records_alike : (h : StacksState) (n : ℕ) (es : List Effect) → (after_each (record h { serial = n }) es).records ≡ (after_each h es).records
records_alike h n [] = refl
records_alike h n (e ∷ es) = records_alike (after h e) n es

-- What the whole list sets is what its one effect does.
pub record IsOnlySet (h : StacksState) (effects before : List Effect) (e : Effect) : Type 0 where
  pub sets : sets_each h effects ≡ contents_set (after_each h before).records e
  pub apart : are_apart (coming (contents_set (after_each h before).records e)) ≡ true
  pub plain : All IsPlain before

pub only_set : (h : StacksState) (effects before : List Effect) (e : Effect) (more : List Effect) → MayEnter h effects → list_all is_apart h.records ≡ true → effects ≡ before ++ e ∷ more
    → list_any sets_tree before ≡ false → sets_tree e ≡ true → IsOnlySet h effects before e
only_set h effects before e more may apart is none sets =
    let kept = may.kept in
    let all = none_refused.apply kept effects may.may in
    let now = begun (stacks_of kept) in
    let r = reach (kept.serial + 1) now kept.versions [] before e more (subst (λ (es : List Effect). AllApply (kept.serial + 1) now kept.versions [] es) is all)
    (ap (λ (g : StacksState). list_all is_apart g.records) may.same ∙ apart) none sets in
    let same : (after_each now before).records ≡ (after_each h before).records = records_alike (stacks_of kept) (kept.serial + 1) before ∙ ap (λ (g : StacksState). (after_each g before).records) may.same in
    record {
      sets = ap (sets_each h) is ∙ sets_there h before e more none r.none;
      apart = subst (λ (rs : List Record). are_apart (coming (contents_set rs e)) ≡ true) same (set_apart (after_each now before) e r.apart r.may);
      plain = All-from_recursion IsPlain before r.plain;
    }

-- ---- along a list

-- one more is looked at
taken_suc : {X : Type 0} (xs : List X) (i : ℕ) (x : X) → slice_get xs i ≡ Some x → take (suc i) xs ≡ take i xs ++ x ∷ []
taken_suc [] i x h = absurd (none-some x h)
taken_suc (y ∷ ys) zero x h = let same : y ≡ x = cc in ap (λ z. z ∷ []) same
taken_suc (y ∷ ys) (suc i) x h = ap (λ zs. y ∷ zs) (taken_suc ys i x h)

pub named_more : (before : List Effect) (effect : Effect) (rs : List Record) (i : ℕ) (r : Record) → slice_get rs i ≡ Some r
    → meant before effect (take (i + 1) rs) ≡ meant before effect (take i rs) ++ cond (is_meant_by before effect r) (r ∷ []) []
named_more before effect rs i r h =
    let s : i + 1 ≡ suc i = omega arith in
    ap (λ n. meant before effect (take n rs)) s ∙ ap (meant before effect) (taken_suc rs i r h) ∙ filter_append (is_meant_by before effect) (take i rs) (r ∷ [])

pub none_there : {X : Type 0} (xs : List X) (i : ℕ) → slice_get xs i ≡ None → i < length xs → ⊥
none_there [] i h lt = omega (arith, lt)
none_there (x ∷ xs) zero h lt = cc
none_there (x ∷ xs) (suc i) h lt = none_there xs i h (omega (arith, lt))

-- all are looked at
pub all_taken : {X : Type 0} (xs : List X) (i : ℕ) → length xs ≤ i → take i xs ≡ xs
all_taken [] zero le = refl
all_taken [] (suc i) le = refl
all_taken (x ∷ xs) zero le = let none : ⊥ = omega (arith, le) in absurd none
all_taken (x ∷ xs) (suc i) le = ap (λ ys. x ∷ ys) (all_taken xs i (omega (arith, le)))

pub again : (before : List Effect) (effect : Effect) (rs : List Record) → meant before effect (meant before effect rs) ≡ meant before effect rs
again before effect rs = filter-filter (is_meant_by before effect) (is_meant_by before effect) rs ∙ twice rs
  where
    twice : (rs : List Record) → filter (λ r. is_meant_by before effect r && is_meant_by before effect r) rs ≡ filter (is_meant_by before effect) rs
    twice [] = refl
    twice (r ∷ rs) =
        elim (is_meant_by before effect r) as (λ b. cond (b && b) (r ∷ filter (λ x. is_meant_by before effect x && is_meant_by before effect x) rs) (filter (λ x. is_meant_by before effect x && is_meant_by before effect x) rs) ≡ cond b (r ∷ filter (is_meant_by before effect) rs) (filter (is_meant_by before effect) rs)) [
          | true ↦ ap (λ xs. r ∷ xs) (twice rs)
          | false ↦ twice rs
        ]

taken_one : (effects : List Effect) (i : ℕ) (e : Effect) → i < length effects → e ≡ get_or effects i e → take (i + 1) effects ≡ take i effects ++ e ∷ []
taken_one effects i e h k = take_more effects i e h ∙ ap (λ (x : Effect). take i effects ++ x ∷ []) (sym k)

split_at : (effects : List Effect) (i : ℕ) (e : Effect) → i < length effects → e ≡ get_or effects i e → effects ≡ take i effects ++ e ∷ drop (i + 1) effects
split_at effects i e h k = sym (take-append-drop i effects) ∙ ap (λ (es : List Effect). take i effects ++ es) (dropped_one effects i e h k)

any_there : (test : Effect → Bool) (before : List Effect) (e : Effect) (more : List Effect) → test e ≡ true → list_any test (before ++ e ∷ more) ≡ true
any_there test [] e more h = or_left (test e) (list_any test more) h
any_there test (x ∷ before) e more h = or_right (test x) (list_any test (before ++ e ∷ more)) (any_there test before e more h)

-- the meant elements one effect further
pub named_next : (h : StacksState) (before : List Effect) (effect : Effect) (some new : List Record) (i : ℕ) (e : Effect) → i < length before → e ≡ get_or before i e → IsPlain e
    → meant before effect some ≡ meant before effect (after_each h (take i before)).records → new ≡ images e some
    → meant before effect new ≡ meant before effect (after_each h (take (i + 1) before)).records
named_next h before effect some new i e lt there plain same is =
    ap (meant before effect) is
    ∙ named_after before effect e some (after_each h (take i before)).records plain.none
    (λ id meant. ap (list_any (is_meant id)) (split_at before i e lt there) ∙ any_there (is_meant id) (take i before) e (drop (i + 1) before) meant) same
    ∙ ap (λ (g : StacksState). meant before effect g.records) (sym (ap (after_each h) (taken_one before i e lt there) ∙ after_behind h (take i before) (e ∷ [])))

pub only_set_at : (h : StacksState) (effects : List Effect) (i : ℕ) (e : Effect) → MayEnter h effects → list_all is_apart h.records ≡ true → i < length effects → e ≡ get_or effects i e
    → list_any sets_tree (take i effects) ≡ false → sets_tree e ≡ true → IsOnlySet h effects (take i effects) e
only_set_at h effects i e may apart lt there none sets = only_set h effects (take i effects) e (drop (i + 1) effects) may apart (split_at effects i e lt there) none sets

-- ---- of an answer

pub if_ok_then : {X E : Type 0} (r : Result X E) (P Q : X → Type 0) → ((x : X) → P x → Q x) → IfOk r P → IfOk r Q
if_ok_then (Ok x) P Q f h = f x h
if_ok_then (Err e) P Q f h = tt

pub if_ok_both : {X E : Type 0} (r : Result X E) (P Q R : X → Type 0) → ((x : X) → P x → Q x → R x) → IfOk r P → IfOk r Q → IfOk r R
if_ok_both (Ok x) P Q R f h k = f x h k
if_ok_both (Err e) P Q R f h k = tt

pub come_together : (h : StacksState) (effects before : List Effect) (e : Effect) (sets : List (Path × Content)) → IsOnlySet h effects before e → sets ≡ contents_set (after_each h before).records e
    → is_sorted path_cmp sets ≡ true → AreToCome sets
come_together h effects before e sets only is rise = record {
  rise = rise;
  apart = ap (λ cs. are_apart (coming cs)) is ∙ only.apart;
}
