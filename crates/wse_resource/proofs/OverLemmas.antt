-- Files taken away one after another, and put one after another.
use Rattle.std.proofs.Common.{◌≡◌, ℕ, ◌+◌, ◌<◌, Bool, true, false, cond, not, ◌||◌, List, [], ◌∷◌, ◌++◌, map, take, length, get_or, slice_get, Option, Some, None, refl, sym, ap, ◌∙◌}
use Rattle.std.specs.Prelude.{is_some}
use Rattle.std.specs.Ordering.{eq_by_cmp}
use Rattle.std.specs.FinMap.{is_sorted}
use Rattle.std.specs.FinMap.Entries.{is_some-find}
use Rattle.std.proofs.lemmas.Bool.{or_right}
use Rattle.std.proofs.lemmas.List.{take_more, map-append}
use Rattle.std.proofs.lemmas.Option.{slice_get-get_or}
use Rattle.wse_path.specs.Path.{Path}
use Rattle.wse_path.specs.Order.{path_cmp, is_named}
use Rattle.wse_path.specs.Tree.{Entries, content, is_present, put_file, put_all, remove_file, HasRoom, IsTree}
use Rattle.wse_path.proofs.TreeLemmas.{rises_remove, present_front, present_behind}
use Rattle.wse_path.proofs.PutLemmas.{sorted_where, has_put_all}
use Rattle.wse_path.proofs.RoomLemmas.{room_in}
use Rattle.wse_path.proofs.ChangeLemmas.{content_remove}
use Rattle.wse_overlay.proofs.ShownLemmas.{same_files}
use Rattle.wse_resource.specs.Table.{is_within, files_within, moved}
use Rattle.wse_resource.specs.After.{removed_each, without}
use Rattle.wse_resource.proofs.AfterLemmas.{content_within, content_without, some_before}
use Rattle.wse_resource.proofs.SlowLemmas.{take_next, entry_there, content_at, same_some}

-- ---- taken away

removed_once : (b g : Bool) (was : Option (List ℕ)) → cond g None (cond b None was) ≡ cond (b || g) None was
removed_once true true was = refl
removed_once true false was = refl
removed_once false g was = refl

content_removed : (ps : List Path) (files : Entries) (q : Path) → content (removed_each ps files) q ≡ cond (is_named ps q) None (content files q)
content_removed [] files q = refl
content_removed (p ∷ ps) files q =
    content_removed ps (remove_file files p) q
    ∙ ap (cond (is_named ps q) None) (content_remove files p q)
    ∙ removed_once (eq_by_cmp path_cmp q p) (is_named ps q) (content files q)

rises_removed : (ps : List Path) (files : Entries) → is_sorted path_cmp files ≡ true → is_sorted path_cmp (removed_each ps files) ≡ true
rises_removed [] files s = s
rises_removed (p ∷ ps) files s = rises_removed ps (remove_file files p) (rises_remove files p s)

gone_where : (w : Bool) (was : Option (List ℕ)) → cond (is_some (cond w was None)) None was ≡ cond (not w) was None
gone_where true (Some v) = refl
gone_where true None = refl
gone_where false was = refl

-- without each file at and under a path nothing is left there
pub removed_within : (files : Entries) (p : Path) → is_sorted path_cmp files ≡ true → removed_each (map (λ e. e.0) (files_within files p)) files ≡ without files p
removed_within files p s =
    same_files (removed_each (map (λ e. e.0) (files_within files p)) files) (without files p) (rises_removed (map (λ e. e.0) (files_within files p)) files s) (sorted_where (λ q. not (is_within q p)) files s)
    (λ q. content_removed (map (λ e. e.0) (files_within files p)) files q
    ∙ ap (λ b. cond b None (content files q)) (sym (is_some-find path_cmp q (files_within files p)) ∙ ap is_some (content_within files p q))
    ∙ gone_where (is_within q p) (content files q)
    ∙ sym (content_without files p q))

pub removed_more : (ps : List Path) (i : ℕ) (p : Path) (files : Entries) → i < length ps → p ≡ get_or ps i p → removed_each (take (i + 1) ps) files ≡ remove_file (removed_each (take i ps) files) p
removed_more ps i p files l e =
    ap (λ xs. removed_each xs files) (take_more ps i p l ∙ ap (λ x. take i ps ++ x ∷ []) (sym e)) ∙ removed_push (take i ps) p files
  where
    removed_push : (xs : List Path) (x : Path) (files : Entries) → removed_each (xs ++ x ∷ []) files ≡ remove_file (removed_each xs files) x
    removed_push [] x files = refl
    removed_push (y ∷ xs) x files = removed_push xs x (remove_file files y)

-- ---- put

pub put_all-push : (xs : Entries) (x : Path × List ℕ) (es : Entries) → put_all (xs ++ x ∷ []) es ≡ put_file (put_all xs es) x.0 x.1
put_all-push [] x es = refl
put_all-push (y ∷ xs) x es = put_all-push xs x (put_file es y.0 y.1)

or_kept : (a b c : Bool) → (b ≡ true → c ≡ true) → (a || b) ≡ true → (a || c) ≡ true
or_kept true b c f h = refl
or_kept false b c f h = f h

-- the next of files that are put finds room where all of them leave a tree
pub next_room : (front : Entries) (e : Path × List ℕ) (rest es : Entries) → IsTree (put_all (front ++ e ∷ rest) es) → HasRoom (put_all front es) e.0
next_room front e rest es tree =
    room_in (put_all front es) (put_all (front ++ e ∷ rest) es) e.0 tree
    (λ q h. has_put_all (front ++ e ∷ rest) es q
    ∙ or_kept (is_present es q) (is_present front q) (is_present (front ++ e ∷ rest) q) (present_front front (e ∷ rest) q) (sym (has_put_all front es q) ∙ h))
    (has_put_all (front ++ e ∷ rest) es e.0 ∙ or_right _ _ (present_behind front e rest))

-- ---- moved

-- what is at a source among the files at and under a path
source_there : (files : Entries) (from : Path) (i : ℕ) (d : Path) → is_sorted path_cmp files ≡ true → i < length (map (λ e. e.0) (files_within files from)) → d ≡ get_or (map (λ e. e.0) (files_within files from)) i d
    → (e : Path × List ℕ) × (slice_get (files_within files from) i ≡ Some e) × (e.0 ≡ d) × (content files d ≡ Some e.1)
source_there files from i d s l read =
    let sources = files_within files from in
    let there = entry_there sources i d (slice_get-get_or (map (λ e. e.0) sources) i d l ∙ ap (λ (x : Path). Some x) (sym read)) in (
      there.0,
      there.1,
      there.2,
      some_before (is_within d from) (content files d) there.0.1
          (sym (content_within files from d) ∙ ap (content sources) (sym there.2) ∙ content_at sources i there.0 (sorted_where (λ q. is_within q from) files s) there.1),
    )

pub source_present : (files : Entries) (from : Path) (i : ℕ) (d : Path) → is_sorted path_cmp files ≡ true → i < length (map (λ e. e.0) (files_within files from)) → d ≡ get_or (map (λ e. e.0) (files_within files from)) i d → is_some (content files d) ≡ true
source_present files from i d s l read = ap is_some (source_there files from i d s l read).3

-- one file more
pub moved_more : (files : Entries) (from to : Path) (i : ℕ) (d : Path) (bytes : List ℕ) → is_sorted path_cmp files ≡ true → i < length (map (λ e. e.0) (files_within files from)) → d ≡ get_or (map (λ e. e.0) (files_within files from)) i d → content files d ≡ Some bytes
    → ◌≡◌ {A = Entries} (map (λ e. (moved from to e.0, e.1)) (take (i + 1) (files_within files from))) (map (λ e. (moved from to e.0, e.1)) (take i (files_within files from)) ++ (moved from to d, bytes) ∷ [])
moved_more files from to i d bytes s l read is =
    let sources = files_within files from in
    let there = source_there files from i d s l read in
    let f : Path × List ℕ → Path × List ℕ = λ e. (moved from to e.0, e.1) in
    let same : there.0.1 ≡ bytes = same_some there.0.1 bytes (sym there.3 ∙ is) in
    ap (map f) (take_next sources i there.0 there.1)
    ∙ map-append f (take i sources) (there.0 ∷ [])
    ∙ (λ j. map f (take i sources) ++ (moved from to (there.2 j), same j) ∷ [])
