-- Where nothing is in the way of contents, the files that they leave are a tree.
use Rattle.std.proofs.Common.{◌≡◌, ◌⊎◌, inl, inr, Bool, true, false, cond, not, ◌&&◌, ◌||◌, List, [], ◌∷◌, map, Some, refl, sym, ap, subst, ◌∙◌}
use Rattle.std.specs.Prelude.{filter, is_some}
use Rattle.std.specs.List.{list_any, list_all}
use Rattle.std.specs.Ordering.{eq_by_cmp}
use Rattle.std.specs.FinMap.{find}
use Rattle.std.proofs.lemmas.Bool.{and_from, or_left, or_right, or_parts, true≢false, false≢true, false_from_ne_true, not-true}
use Rattle.wse_path.specs.Path.{Path, is_under}
use Rattle.wse_path.specs.Order.{path_cmp}
use Rattle.wse_path.specs.Tree.{Entries, content, is_present, set_file, set_files, IsTree}
use Rattle.wse_path.proofs.EntryLemmas.{and_parts}
use Rattle.wse_path.proofs.ContentLemmas.{content_set, sorted_set_files}
use Rattle.wse_path.proofs.PathOrder.{same_path}
use Rattle.wse_element.specs.Content.{Content}
use Rattle.wse_element.specs.Apart.{are_apart}
use Rattle.wse_element.specs.Way.{comes, is_set, is_between, in_the_way, coming}

-- A path gets a content from these.
abbrev pub gets : List (Path × Content) → Path → Bool
gets cs p = list_any (λ c. comes c && eq_by_cmp path_cmp p c.0) cs

-- what is present after paths are set got its content from them, or was there and isn't set
pub present_after : (cs : List (Path × Content)) (files : Entries) (q : Path) → is_present (set_files cs files) q ≡ true → (gets cs q ≡ true) ⊎ record { unset : is_set cs q ≡ false; there : is_present files q ≡ true }
present_after [] files q h = inr (record { unset = refl; there = h })
present_after (c ∷ cs) files q h =
    elim (present_after cs (set_file files c.0 c.1) q h) [
      | inl got ↦ inl (or_right (comes c && eq_by_cmp path_cmp q c.0) (gets cs q) got)
      | inr stays ↦
          elim (eq_by_cmp path_cmp q c.0) as (λ b. eq_by_cmp path_cmp q c.0 ≡ b → is_some (cond b c.1 (content files q)) ≡ true → (gets (c ∷ cs) q ≡ true) ⊎ record { unset : is_set (c ∷ cs) q ≡ false; there : is_present files q ≡ true }) [
            | true ↦ λ e k. inl (or_left (comes c && eq_by_cmp path_cmp q c.0) (gets cs q) (and_from (comes c) (eq_by_cmp path_cmp q c.0) k e))
            | false ↦ λ e k. inr (record { unset = (λ i. e i || stays.unset i); there = k })
          ] refl (sym (ap is_some (content_set files c.0 c.1 q)) ∙ stays.there)
    ]

any_stronger : {X : Type 0} (p q : X → Bool) → ((x : X) → p x ≡ true → q x ≡ true) → (xs : List X) → list_any p xs ≡ true → list_any q xs ≡ true
any_stronger p q so [] h = h
any_stronger p q so (x ∷ xs) h =
    elim (p x) as (λ b. p x ≡ b → (b || list_any p xs) ≡ true → (q x || list_any q xs) ≡ true) [
      | true ↦ λ e _. or_left (q x) (list_any q xs) (so x e)
      | false ↦ λ e k. or_right (q x) (list_any q xs) (any_stronger p q so xs k)
    ] refl h

-- a file under or above a path that comes is between
between_under : (cs : List (Path × Content)) (p q : Path) → gets cs p ≡ true → is_under p q ≡ true → is_between cs q ≡ true
between_under cs p q got under =
    any_stronger (λ c. comes c && eq_by_cmp path_cmp p c.0) (λ c. comes c && (is_under q c.0 || is_under c.0 q))
    (λ c h. let both = and_parts (comes c) (eq_by_cmp path_cmp p c.0) h in
    and_from (comes c) (is_under q c.0 || is_under c.0 q) both.0 (or_right (is_under q c.0) (is_under c.0 q) (subst (λ x. is_under x q ≡ true) (same_path p c.0 both.1) under)))
    cs got

between_above : (cs : List (Path × Content)) (p q : Path) → gets cs p ≡ true → is_under q p ≡ true → is_between cs q ≡ true
between_above cs p q got under =
    any_stronger (λ c. comes c && eq_by_cmp path_cmp p c.0) (λ c. comes c && (is_under q c.0 || is_under c.0 q))
    (λ c h. let both = and_parts (comes c) (eq_by_cmp path_cmp p c.0) h in
    and_from (comes c) (is_under q c.0 || is_under c.0 q) both.0 (or_left (is_under q c.0) (is_under c.0 q) (subst (λ x. is_under q x ≡ true) (same_path p c.0 both.1) under)))
    cs got

-- where a filter keeps nothing, no file passes its test
none_kept : (test : Path → Bool) (files : Entries) (q : Path) → filter test (map (λ e. e.0) files) ≡ [] → is_present files q ≡ true → test q ≡ false
none_kept test [] q none here = absurd (false≢true here)
none_kept test (e ∷ files) q none here =
    elim (test e.0) as (λ b. test e.0 ≡ b → cond b (e.0 ∷ filter test (map (λ x. x.0) files)) (filter test (map (λ x. x.0) files)) ≡ [] → test q ≡ false) [
      | true ↦ λ t k. cc
      | false ↦ λ t k. elim (eq_by_cmp path_cmp q e.0) as (λ b. eq_by_cmp path_cmp q e.0 ≡ b → is_some (cond b (Some e.1) (find path_cmp q files)) ≡ true → test q ≡ false) [
        | true ↦ λ s _. ap test (same_path q e.0 s) ∙ t
        | false ↦ λ s more. none_kept test files q k more
      ] refl here
    ] refl none

-- so a file that isn't set isn't between
not_between : (files : Entries) (cs : List (Path × Content)) (q : Path) → in_the_way files cs ≡ [] → is_set cs q ≡ false → is_present files q ≡ true → is_between cs q ≡ false
not_between files cs q none unset here =
    sym (ap (λ b. not b && is_between cs q) unset) ∙ none_kept (λ p. not (is_set cs p) && is_between cs p) files q none here

-- what all pass, one that is equal to one of them passes
all_at : (test : Path → Bool) (paths : List Path) (p : Path) → list_all test paths ≡ true → list_any (eq_by_cmp path_cmp p) paths ≡ true → test p ≡ true
all_at test [] p all any = absurd (false≢true any)
all_at test (x ∷ paths) p all any =
    let both = and_parts (test x) (list_all test paths) all in
    elim (eq_by_cmp path_cmp p x) as (λ b. eq_by_cmp path_cmp p x ≡ b → (b || list_any (eq_by_cmp path_cmp p) paths) ≡ true → test p ≡ true) [
      | true ↦ λ e _. ap test (same_path p x e) ∙ both.0
      | false ↦ λ _ k. all_at test paths p both.1 k
    ] refl any

none_at : (test : Path → Bool) (paths : List Path) (p : Path) → list_any test paths ≡ false → list_any (eq_by_cmp path_cmp p) paths ≡ true → test p ≡ false
none_at test [] p none any = absurd (false≢true any)
none_at test (x ∷ paths) p none any =
    let both = or_parts (test x) (list_any test paths) none in
    elim (eq_by_cmp path_cmp p x) as (λ b. eq_by_cmp path_cmp p x ≡ b → (b || list_any (eq_by_cmp path_cmp p) paths) ≡ true → test p ≡ false) [
      | true ↦ λ e _. ap test (same_path p x e) ∙ both.0
      | false ↦ λ _ k. none_at test paths p both.1 k
    ] refl any

gets_coming : (cs : List (Path × Content)) (p : Path) → gets cs p ≡ true → list_any (eq_by_cmp path_cmp p) (coming cs) ≡ true
gets_coming [] p h = h
gets_coming (c ∷ cs) p h =
    elim (comes c) as (λ b. ((b && eq_by_cmp path_cmp p c.0) || gets cs p) ≡ true → list_any (eq_by_cmp path_cmp p) (map (λ x. x.0) (cond b (c ∷ filter comes cs) (filter comes cs))) ≡ true) [
      | true ↦ λ k. elim (eq_by_cmp path_cmp p c.0) as (λ b. (b || gets cs p) ≡ true → (b || list_any (eq_by_cmp path_cmp p) (coming cs)) ≡ true) [ true ↦ λ _. refl | false ↦ λ m. gets_coming cs p m ] k
      | false ↦ λ k. gets_coming cs p k
    ] h

both_come : (cs : List (Path × Content)) (p q : Path) → are_apart (coming cs) ≡ true → gets cs p ≡ true → gets cs q ≡ true → is_under p q ≡ false
both_come cs p q apart got got_too =
    none_at (is_under p) (coming cs) q
    (not-true (list_any (is_under p) (coming cs)) (all_at (λ x. not (list_any (is_under x) (coming cs))) (coming cs) p apart (gets_coming cs p got)))
    (gets_coming cs q got_too)

clash : (b : Bool) → b ≡ true → b ≡ false → ⊥
clash b t f = true≢false (sym t ∙ f)

-- Where nothing is in the way of contents that are apart, the files that they leave are a tree.
pub tree_where_free : (files : Entries) (contents : List (Path × Content)) → IsTree files → are_apart (coming contents) ≡ true → in_the_way files contents ≡ [] → IsTree (set_files contents files)
tree_where_free files cs tree apart none = record {
  rises = sorted_set_files cs files tree.rises;
  apart = λ p q hp hq. elim (present_after cs files p hp) [
    | inl got ↦ elim (present_after cs files q hq) [
      | inl got_too ↦ both_come cs p q apart got got_too
      | inr stays ↦ false_from_ne_true (is_under p q) (λ u. clash (is_between cs q) (between_under cs p q got u) (not_between files cs q none stays.unset stays.there))
    ]
    | inr stays ↦ elim (present_after cs files q hq) [
      | inl got ↦ false_from_ne_true (is_under p q) (λ u. clash (is_between cs p) (between_above cs q p got u) (not_between files cs p none stays.unset stays.there))
      | inr stays_too ↦ tree.apart p q stays.there stays_too.there
    ]
  ];
}
