-- Lists gathered one item after another, the files at and under a path, and the first path that passes a limit.
use Rattle.std.proofs.Common.{◌≡◌, ℕ, ◌+◌, ◌<◌, Bool, true, false, cond, ◌||◌, List, [], ◌∷◌, ◌++◌, map, take, drop, length, get_or, slice_get, find, Option, Some, None, option_copied, Bor, refl, sym, ap, subst, ◌∙◌, append_assoc, add-one}
use Rattle.std.specs.Prelude.{is_some}
use Rattle.std.specs.Option.{option_or}
use Rattle.std.specs.FinMap as finmap
use Rattle.std.specs.FinMap.Entries.{where_key, same_entries}
use Rattle.std.specs.Cmp.Lexicographic.{lists_total, nat_list_cmp_total}
use Rattle.std.specs.Ordering.{eq_by_cmp, is_eq}
use Rattle.std.proofs.Math.Seq.{drop-cons}
use Rattle.std.proofs.lemmas.Bool.{false_from_ne_true, true≢false}
use Rattle.std.proofs.lemmas.List.{take_more, take-append-drop}
use Rattle.std.proofs.lemmas.List.Folds.{find-append}
use Rattle.std.proofs.lemmas.Option.{get_or_from_slice_get, slice_get_within}
use lib.Dec.{T}
use Rattle.wse_path.specs.Path.{Path, is_under}
use Rattle.wse_path.specs.Order.{path_cmp}
use Rattle.wse_path.specs.Tree.{Entries, content, is_present, paths_under, IsTree}
use Rattle.wse_path.proofs.TreeLemmas.{same_path}
use Rattle.wse_resource.specs.Table.{is_within, files_within}
use Rattle.wse_resource.proofs.WithinLemmas.{tied_same}
use Rattle.wse_path.proofs.PutLemmas.{sorted_where}
use Rattle.wse_resource.proofs.AfterLemmas.{content_within}

drop_next : (path : Path) (i : ℕ) → i < length path → drop i path ≡ get_or path i [] ∷ drop (i + 1) path
drop_next path i l = rw add-one (drop-cons path i [] l)

-- one segment more
pub push_next : (front path : Path) (i : ℕ) (s : List ℕ) → slice_get path i ≡ Some s → (front ++ s ∷ []) ++ drop (i + 1) path ≡ front ++ drop i path
push_next front path i s e =
    append_assoc front (s ∷ []) (drop (i + 1) path)
    ∙ ap (λ t. front ++ t) (sym (drop_next path i (slice_get_within path i s e) ∙ ap (λ x. x ∷ drop (i + 1) path) (get_or_from_slice_get path i s [] e)))

-- ---- the files at and under a path

untied_back : (p q : Path) → eq_by_cmp path_cmp p q ≡ false → eq_by_cmp path_cmp q p ≡ false
untied_back p q f = false_from_ne_true _ (λ t. true≢false (sym (tied_same p q (sym (same_path q p t))) ∙ f))

-- without a file at the path they are those under it
within_absent : (files : Entries) (p : Path) → is_present files p ≡ false → files_within files p ≡ where_key path_cmp (λ q. is_under q p) files
within_absent [] p h = refl
within_absent (e ∷ es) p h =
    elim (eq_by_cmp path_cmp p e.0) as (λ b. eq_by_cmp path_cmp p e.0 ≡ b → is_some (cond b (Some e.1) (finmap.find path_cmp p es)) ≡ false → files_within (e ∷ es) p ≡ where_key path_cmp (λ q. is_under q p) (e ∷ es)) [
      | true ↦ λ t g. cc
      | false ↦ λ t g i. cond (untied_back p e.0 t i || is_under e.0 p) (e ∷ within_absent es p g i) (within_absent es p g i)
    ] refl h

pub some_copied : (r : Option (Bor (List ℕ))) → is_some (option_copied r) ≡ is_some r
some_copied None = refl
some_copied (Some x) = refl

pub under_are : (files : Entries) (p : Path) → is_present files p ≡ false → paths_under files p ≡ map (λ e. e.0) (files_within files p)
under_are files p h = ap (λ (es : Entries). map (λ e. e.0) es) (sym (within_absent files p h))

absent_so : (o : Option (List ℕ)) → (is_some o ≡ true → ⊥) → o ≡ None
absent_so None h = refl
absent_so (Some x) h = absurd (h refl)

-- with a file at the path it is that one alone
within_present : (files : Entries) (p : Path) (bytes : List ℕ) → IsTree files → content files p ≡ Some bytes → files_within files p ≡ (p, bytes) ∷ []
within_present files p bytes tree e =
    same_entries path_cmp (lists_total nat_list_cmp_total) (λ x y t. same_path x y (ap is_eq t)) (files_within files p) ((p, bytes) ∷ [])
    (subst T (sym (sorted_where (λ q. is_within q p) files tree.rises)) tt)
    tt
    (λ q. content_within files p q
    ∙ elim (eq_by_cmp path_cmp q p) as (λ b. eq_by_cmp path_cmp q p ≡ b → cond (b || is_under q p) (content files q) None ≡ cond b (Some bytes) None) [
      | true ↦ λ t. ap (content files) (same_path q p t) ∙ e
      | false ↦ λ t. elim (is_under q p) as (λ u. is_under q p ≡ u → cond u (content files q) None ≡ None) [
        | true ↦ λ u. absent_so (content files q) (λ here. true≢false (sym u ∙ tree.apart q p here (ap is_some e)))
        | false ↦ λ u. refl
      ] refl
    ] refl)

pub only_one : (files : Entries) (p : Path) (o : Option (List ℕ)) → IsTree files → content files p ≡ o → is_some o ≡ true → p ∷ [] ≡ map (λ e. e.0) (files_within files p)
only_one files p None tree e h = cc
only_one files p (Some bytes) tree e h = ap (λ (es : Entries). map (λ e. e.0) es) (sym (within_present files p bytes tree e))

-- a list to which one path was pushed
pub pushed_alone : (new items only paths : List Path) (copy p : Path) → new ≡ items → items ≡ only ++ copy ∷ [] → only ≡ [] → copy ≡ p → p ∷ [] ≡ paths → new ≡ paths
pushed_alone new items only paths copy p a b c d e = a ∙ b ∙ (λ i. c i ++ d i ∷ []) ∙ e

-- ---- the first that passes a test

first_of_more : (f : Path → Bool) (paths : List Path) (i : ℕ) (p : Path) (b : Bool) → i < length paths → p ≡ get_or paths i p → find f (take i paths) ≡ None → f p ≡ b → find f (take (i + 1) paths) ≡ cond b (Some p) None
first_of_more f paths i p b l e none t =
    ap (find f) (take_more paths i p l ∙ ap (λ x. take i paths ++ x ∷ []) (sym e))
    ∙ find-append f (take i paths) (p ∷ [])
    ∙ ap (λ o. option_or o (cond (f p) (Some p) None)) none
    ∙ ap (λ x. cond x (Some p) None) t

pub none_next : (f : Path → Bool) (paths : List Path) (i : ℕ) (p : Path) → i < length paths → p ≡ get_or paths i p → find f (take i paths) ≡ None → f p ≡ false → find f (take (i + 1) paths) ≡ None
none_next f paths i p l e none t = first_of_more f paths i p false l e none t

pub first_is : (f : Path → Bool) (paths : List Path) (i : ℕ) (p : Path) → i < length paths → p ≡ get_or paths i p → find f (take i paths) ≡ None → f p ≡ true → find f paths ≡ Some p
first_is f paths i p l e none t =
    ap (find f) (sym (take-append-drop (i + 1) paths))
    ∙ find-append f (take (i + 1) paths) (drop (i + 1) paths)
    ∙ ap (λ o. option_or o (find f (drop (i + 1) paths))) (first_of_more f paths i p true l e none t)
