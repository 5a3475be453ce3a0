-- Trees built file by file.
use Rattle.std.proofs.Common.{◌≡◌, ℕ, ◌+◌, ◌<◌, ◌≤◌, Bool, true, false, cond, not, ◌&&◌, ◌||◌, List, [], ◌∷◌, ◌++◌, map, take, drop, length, get_or, slice_get, find, Option, Some, None, IsSome, option_copied, Bor, inr, refl, sym, ap, subst, ◌∙◌, add-one, arith, if◌then◌else◌}
use Rattle.std.specs.Prelude.{is_some}
use Rattle.std.specs.Option.{option_map}
use Rattle.std.specs.FinMap.{is_sorted}
use Rattle.std.specs.FinMap.Entries.{where_key}
use Rattle.std.proofs.Math.Seq.{drop-cons}
use Rattle.std.proofs.lemmas.List.{take_more, map-append, append-nil, take-append-drop, take_all, length-map}
use Rattle.std.proofs.lemmas.List.Elements.{filter-append}
use Rattle.std.proofs.lemmas.Option.{get_or_from_slice_get, slice_get_within, slice_get-get_or, slice_get-map}
use Rattle.wse_path.specs.Path.{Path}
use Rattle.wse_path.specs.Order.{path_cmp}
use Rattle.wse_path.specs.Tree.{Entries, content, is_present, put_file, put_all, file_above, HasRoom, IsTree}
use Rattle.wse_path.specs.declared.operation.ResourceOp.TheVariants.{Rename}
use Rattle.wse_path.proofs.TreeLemmas.{fits_front, put_front, content_of, present_front}
use Rattle.wse_resource.specs.Table.{is_within, moved, files_within, past_limit}
use Rattle.wse_resource.specs.After.{without, moved_files, after_operation}
use Rattle.wse_resource.specs.Course.{is_past_limit}
use Rattle.wse_resource.proofs.WithinLemmas.{moved_within, moved_back}
use Rattle.wse_path.proofs.PutLemmas.{has_put_all}
use Rattle.wse_path.proofs.RoomLemmas.{room_in}
use Rattle.wse_resource.proofs.MovesLemmas.{none_next, first_is}
use Rattle.wse_resource.proofs.AfterLemmas.{content_is, tree_without, tree_renamed}

-- ---- the entry at an index

split_at : {X : Type 0} (xs : List X) (i : ℕ) (x : X) → slice_get xs i ≡ Some x → xs ≡ take i xs ++ x ∷ drop (i + 1) xs
split_at xs i x e =
    sym (take-append-drop i xs)
    ∙ ap (λ t. take i xs ++ t) (rw add-one (drop-cons xs i x (slice_get_within xs i x e)) ∙ ap (λ y. y ∷ drop (i + 1) xs) (get_or_from_slice_get xs i x x e))

pub take_next : {X : Type 0} (xs : List X) (i : ℕ) (x : X) → slice_get xs i ≡ Some x → take (i + 1) xs ≡ take i xs ++ x ∷ []
take_next xs i x e = take_more xs i x (slice_get_within xs i x e) ∙ ap (λ y. take i xs ++ y ∷ []) (get_or_from_slice_get xs i x x e)

pub content_at : (files : Entries) (i : ℕ) (e : Path × List ℕ) → is_sorted path_cmp files ≡ true → slice_get files i ≡ Some e → content files e.0 ≡ Some e.1
content_at files i e s at =
    let split = split_at files i e at in
    ap (λ es. content es e.0) split ∙ content_of (take i files) e (drop (i + 1) files) (subst (λ es. is_sorted path_cmp es ≡ true) split s)

pub same_some : (a b : List ℕ) → ◌≡◌ {A = Option (List ℕ)} (Some a) (Some b) → a ≡ b
same_some a b e = cc

same_key : (a b : Path) → ◌≡◌ {A = Option Path} (Some a) (Some b) → a ≡ b
same_key a b e = cc

-- an index where a path stands
pub path_within : (files : Entries) (i : ℕ) (p : Path) → slice_get (map (λ e. e.0) files) i ≡ Some p → i < length files
path_within files i p e = subst (λ n. i < n) (length-map files (λ e. e.0)) (slice_get_within (map (λ e. e.0) files) i p e)

-- what stands there
pub entry_there : (files : Entries) (i : ℕ) (p : Path) → slice_get (map (λ e. e.0) files) i ≡ Some p → (e : Path × List ℕ) × (slice_get files i ≡ Some e) × (e.0 ≡ p)
entry_there files i p at =
    let e = get_or files i (p, []) in
    let there = slice_get-get_or files i (p, []) (path_within files i p at) in
    (e, there, same_key e.0 p (sym (slice_get-map (λ (x : Path × List ℕ). x.0) files i ∙ ap (option_map (λ (x : Path × List ℕ). x.0)) there) ∙ at))

pub present_at : (files : Entries) (i : ℕ) (p : Path) → is_sorted path_cmp files ≡ true → slice_get (map (λ e. e.0) files) i ≡ Some p → is_some (content files p) ≡ true
present_at files i p s at =
    let there = entry_there files i p at in
    ap (λ k. is_some (content files k)) (sym there.2) ∙ ap is_some (content_at files i there.0 s there.1)

pub entry_at : (files : Entries) (i : ℕ) (p : Path) (bytes : List ℕ) → is_sorted path_cmp files ≡ true → slice_get (map (λ e. e.0) files) i ≡ Some p → content files p ≡ Some bytes → slice_get files i ≡ Some (p, bytes)
entry_at files i p bytes s at is =
    let there = entry_there files i p at in
    let same = same_some there.0.1 bytes (sym (content_at files i there.0 s there.1) ∙ ap (content files) there.2 ∙ is) in
    there.1 ∙ (λ k. Some (there.2 k, same k))

-- ---- all files, one after another

-- ---- those that a test keeps

where_split : (f : Path → Bool) (files : Entries) (i : ℕ) (e : Path × List ℕ) → slice_get files i ≡ Some e → f e.0 ≡ true → where_key path_cmp f files ≡ where_key path_cmp f (take i files) ++ e ∷ where_key path_cmp f (drop (i + 1) files)
where_split f files i e at t =
    ap (where_key path_cmp f) (split_at files i e at)
    ∙ filter-append (λ x. f x.0) (take i files) (e ∷ drop (i + 1) files)
    ∙ ap (λ b. where_key path_cmp f (take i files) ++ cond b (e ∷ where_key path_cmp f (drop (i + 1) files)) (where_key path_cmp f (drop (i + 1) files))) t

where_next : (f : Path → Bool) (files : Entries) (i : ℕ) (e : Path × List ℕ) → slice_get files i ≡ Some e → where_key path_cmp f (take (i + 1) files) ≡ where_key path_cmp f (take i files) ++ cond (f e.0) (e ∷ []) []
where_next f files i e at =
    ap (where_key path_cmp f) (take_next files i e at) ∙ filter-append (λ x. f x.0) (take i files) (e ∷ [])

pub without_room : (files : Entries) (p : Path) (i : ℕ) (e : Path × List ℕ) → IsTree files → slice_get files i ≡ Some e → is_within e.0 p ≡ false → HasRoom (without (take i files) p) e.0
without_room files p i e tree at h =
    inr (fits_front (without (take i files) p) e (without (drop (i + 1) files) p) (subst IsTree (where_split (λ q. not (is_within q p)) files i e at (ap not h)) (tree_without files p tree)))

pub without_next : (files : Entries) (p : Path) (i : ℕ) (e : Path × List ℕ) → IsTree files → slice_get files i ≡ Some e → (if is_within e.0 p then without (take i files) p else put_file (without (take i files) p) e.0 e.1) ≡ without (take (i + 1) files) p
without_next files p i e tree at =
    elim (is_within e.0 p) as (λ w. is_within e.0 p ≡ w → (if w then without (take i files) p else put_file (without (take i files) p) e.0 e.1) ≡ without (take i files) p ++ cond (not w) (e ∷ []) []) [
      | true ↦ λ h. sym (append-nil (without (take i files) p))
      | false ↦ λ h. put_front (without (take i files) p) e (without (drop (i + 1) files) p) (subst (λ es. is_sorted path_cmp es ≡ true) (where_split (λ q. not (is_within q p)) files i e at (ap not h)) (tree_without files p tree).rises)
    ] refl
    ∙ sym (where_next (λ q. not (is_within q p)) files i e at)

-- ---- the moved files, one after another

put_all-push : (xs : Entries) (x : Path × List ℕ) (es : Entries) → put_all (xs ++ x ∷ []) es ≡ put_file (put_all xs es) x.0 x.1
put_all-push [] x es = refl
put_all-push (y ∷ xs) x es = put_all-push xs x (put_file es y.0 y.1)

pub moved_next : (files : Entries) (from to : Path) (i : ℕ) (e : Path × List ℕ) (left : Entries) → slice_get files i ≡ Some e → (if is_within e.0 from then put_file (put_all (moved_files (take i files) from to) left) (moved from to e.0) e.1 else put_all (moved_files (take i files) from to) left) ≡ put_all (moved_files (take (i + 1) files) from to) left
moved_next files from to i e left at =
    elim (is_within e.0 from) as (λ w. (if w then put_file (put_all (moved_files (take i files) from to) left) (moved from to e.0) e.1 else put_all (moved_files (take i files) from to) left) ≡ put_all (moved_files (take i files) from to ++ map (λ (x : Path × List ℕ). (moved from to x.0, x.1)) (cond w (e ∷ []) [])) left) [
      | true ↦ sym (put_all-push (moved_files (take i files) from to) (moved from to e.0, e.1) left)
      | false ↦ ap (λ es. put_all es left) (sym (append-nil (moved_files (take i files) from to)))
    ]
    ∙ ap (λ es. put_all es left) (sym (ap (map (λ (x : Path × List ℕ). (moved from to x.0, x.1))) (where_next (λ q. is_within q from) files i e at) ∙ map-append (λ (x : Path × List ℕ). (moved from to x.0, x.1)) (files_within (take i files) from) (cond (is_within e.0 from) (e ∷ []) [])))

pub some_there : (r : Option (Bor (List ℕ))) → is_some (option_copied r) ≡ true → IsSome r
some_there None h = cc
some_there (Some x) h = refl

moved_split : (files : Entries) (from to : Path) (i : ℕ) → moved_files files from to ≡ moved_files (take i files) from to ++ moved_files (drop i files) from to
moved_split files from to i =
    let f : Path × List ℕ → Path × List ℕ = λ x. (moved from to x.0, x.1) in
    ap (λ es. moved_files es from to) (sym (take-append-drop i files))
    ∙ ap (map f) (filter-append (λ e. is_within e.0 from) (take i files) (drop i files))
    ∙ map-append f (files_within (take i files) from) (files_within (drop i files) from)

or_kept : (a b c : Bool) → (b ≡ true → c ≡ true) → (a || b) ≡ true → (a || c) ≡ true
or_kept true b c f h = refl
or_kept false b c f h = f h

kept_moved : (files : Entries) (from to : Path) (i : ℕ) (left : Entries) (q : Path) → is_present (put_all (moved_files (take i files) from to) left) q ≡ true → is_present (put_all (moved_files files from to) left) q ≡ true
kept_moved files from to i left q h =
    has_put_all (moved_files files from to) left q
    ∙ or_kept (is_present left q) _ _
    (λ g. ap (λ es. is_present es q) (moved_split files from to i) ∙ present_front (moved_files (take i files) from to) (moved_files (drop i files) from to) q g)
    (sym (has_put_all (moved_files (take i files) from to) left q) ∙ h)

-- where a file of the tree goes, it is in the end
moved_here : (files : Entries) (from to : Path) (e : Path × List ℕ) → is_sorted path_cmp files ≡ true → content files e.0 ≡ Some e.1 → is_within e.0 from ≡ true → is_present (after_operation files (Rename from to true true)) (moved from to e.0) ≡ true
moved_here files from to e s is h =
    let p = moved from to e.0 in
    ap is_some (content_is files (Rename from to true true) p s
    ∙ ap (λ w. if w then content files (moved to from p) else (if is_within p from then None else content files p)) (moved_within from to e.0)
    ∙ ap (content files) (moved_back from to e.0 h)
    ∙ is)

pub moved_room : (files : Entries) (from to : Path) (i : ℕ) (e : Path × List ℕ) → IsTree files → file_above files to ≡ None → slice_get files i ≡ Some e → is_within e.0 from ≡ true → HasRoom (put_all (moved_files (take i files) from to) (without (without files from) to)) (moved from to e.0)
moved_room files from to i e tree above at h =
    let left = without (without files from) to in
    room_in (put_all (moved_files (take i files) from to) left) (after_operation files (Rename from to true true)) (moved from to e.0) (tree_renamed files from to true true tree above) (kept_moved files from to i left) (moved_here files from to e tree.rises (content_at files i e tree.rises at) h)

-- ---- the first file at or under a path that fails a test

pub first_within : (f : Path → Bool) (from : Path) (es : Entries) → find (λ q. is_within q from && f q) (map (λ e. e.0) es) ≡ find f (map (λ e. e.0) (files_within es from))
first_within f from [] = refl
first_within f from (e ∷ es) =
    elim (is_within e.0 from) as (λ w. cond (w && f e.0) (Some e.0) (find (λ q. is_within q from && f q) (map (λ x. x.0) es)) ≡ find f (map (λ (x : Path × List ℕ). x.0) (cond w (e ∷ files_within es from) (files_within es from)))) [
      | true ↦ ap (cond (f e.0) (Some e.0)) (first_within f from es)
      | false ↦ first_within f from es
    ]

pub path_there : (files : Entries) (i : ℕ) (e : Path × List ℕ) → slice_get files i ≡ Some e → (i < length (map (λ x. x.0) files)) × (e.0 ≡ get_or (map (λ x. x.0) files) i e.0)
path_there files i e at =
    let is : slice_get (map (λ (x : Path × List ℕ). x.0) files) i ≡ Some e.0 = slice_get-map (λ (x : Path × List ℕ). x.0) files i ∙ ap (option_map (λ (x : Path × List ℕ). x.0)) at in
    (slice_get_within (map (λ x. x.0) files) i e.0 is, sym (get_or_from_slice_get (map (λ x. x.0) files) i e.0 e.0 is))

-- the first moved path that passes a limit, looked for among all files
abbrev pub passes_limit : (from to : Path) → Path → Bool
passes_limit from to q = is_within q from && is_past_limit from to q

pub past_first : (files : Entries) (from to : Path) → past_limit files from to ≡ find (passes_limit from to) (map (λ e. e.0) files)
past_first files from to = sym (first_within (is_past_limit from to) from files)

pub past_none : (files : Entries) (from to : Path) (n : ℕ) → length files ≤ n → find (passes_limit from to) (take n (map (λ e. e.0) files)) ≡ None → past_limit files from to ≡ None
past_none files from to n l none =
    past_first files from to
    ∙ ap (find (passes_limit from to)) (sym (take_all n (map (λ e. e.0) files) (omega (arith, length-map files (λ e. e.0)))))
    ∙ none

pub past_here : (files : Entries) (from to : Path) (i : ℕ) (e : Path × List ℕ) → slice_get files i ≡ Some e → find (passes_limit from to) (take i (map (λ x. x.0) files)) ≡ None → passes_limit from to e.0 ≡ true → past_limit files from to ≡ Some e.0
past_here files from to i e at none past =
    let there = path_there files i e at in
    past_first files from to ∙ first_is (passes_limit from to) (map (λ x. x.0) files) i e.0 there.0 there.1 none past

pub past_next : (files : Entries) (from to : Path) (i : ℕ) (e : Path × List ℕ) → slice_get files i ≡ Some e → find (passes_limit from to) (take i (map (λ x. x.0) files)) ≡ None → passes_limit from to e.0 ≡ false → find (passes_limit from to) (take (i + 1) (map (λ x. x.0) files)) ≡ None
past_next files from to i e at none past =
    let there = path_there files i e at in
    none_next (passes_limit from to) (map (λ x. x.0) files) i e.0 there.0 there.1 none past
