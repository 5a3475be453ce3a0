-- The contents of files, along a longer list of paths.
use Rattle.std.proofs.Common.{◌≡◌, ℕ, true, false, cond, ◌&&◌, List, [], ◌∷◌, ◌++◌, map, Some, None, refl, sym, ap, ◌∙◌}
use Rattle.std.specs.Prelude.{is_some, flat_map}
use Rattle.std.specs.Option.{option_to_list}
use Rattle.std.specs.Ordering.{eq_by_cmp, is_lt, is_eq, ordering_reverse}
use Rattle.std.specs.declared.cmp.Ordering.TheVariants.{Less, Equal, Greater}
use Rattle.std.specs.FinMap.{is_sorted}
use Rattle.std.specs.FinMap.Entries.{below_all}
use Rattle.wse_path.specs.Path.{Path}
use Rattle.wse_path.specs.Order.{path_cmp}
use Rattle.wse_path.specs.Tree.{Entries, content, is_present}
use Rattle.wse_path.proofs.EntryLemmas.{and_parts, less_so}
use Rattle.wse_path.proofs.PathOrder.{total, tied_path, same_path}
use Rattle.wse_path.proofs.TreeLemmas.{present_first}
use Rattle.wse_path.proofs.PutLemmas.{below_so}

-- The contents of the files, in path order.
abbrev pub contents : Entries → List (List ℕ)
contents files = map (λ e. e.1) files

-- The contents at the paths of other entries.
abbrev pub contents_at : Entries → Entries → List (List ℕ)
contents_at files paths = flat_map (λ v. option_to_list (content files v.0)) paths

flipped : (x y : Path) → path_cmp x y ≡ Less → path_cmp y x ≡ Greater
flipped x y l = total.antisymm y x ∙ ap ordering_reverse l

flipped_less : (x y : Path) → path_cmp x y ≡ Greater → path_cmp y x ≡ Less
flipped_less x y l = total.antisymm y x ∙ ap ordering_reverse l

not_tied : (x y : Path) → path_cmp x y ≡ Less → eq_by_cmp path_cmp y x ≡ false
not_tied x y l = ap is_eq (flipped x y l)

below_less : (x y : Path) (es : Entries) → path_cmp x y ≡ Less → below_all path_cmp y es ≡ true → below_all path_cmp x es ≡ true
below_less x y [] l h = refl
below_less x y (e ∷ es) l h =
    let parts = and_parts (is_lt (path_cmp y e.0)) (below_all path_cmp y es) h in
    ap (λ o. is_lt o && below_all path_cmp x es) (total.trans x y e.0 l (less_so _ parts.0)) ∙ below_less x y es l parts.1

below_first : (x : Path) (e : Path × List ℕ) (es : Entries) → path_cmp x e.0 ≡ Less → below_all path_cmp e.0 es ≡ true → below_all path_cmp x (e ∷ es) ≡ true
below_first x e es l h = ap (λ o. is_lt o && below_all path_cmp x es) l ∙ below_less x e.0 es l h

none_along : (vs : Entries) → [] ≡ contents_at [] vs
none_along [] = refl
none_along (v ∷ vs) = none_along vs

skip_first : (e : Path × List ℕ) (es vs : Entries) → below_all path_cmp e.0 vs ≡ true → contents_at (e ∷ es) vs ≡ contents_at es vs
skip_first e es [] h = refl
skip_first e es (v ∷ vs) h =
    let parts = and_parts (is_lt (path_cmp e.0 v.0)) (below_all path_cmp e.0 vs) h in
    ap (λ b. option_to_list (cond b (Some e.1) (content es v.0)) ++ contents_at (e ∷ es) vs) (not_tied e.0 v.0 (less_so _ parts.0))
    ∙ ap (λ t. option_to_list (content es v.0) ++ t) (skip_first e es vs parts.1)

-- a path that is covered, and isn't the first, is covered by the rest
covered : (es : Entries) (v : Path × List ℕ) (vs : Entries) (q : Path) → content es v.0 ≡ None → is_present es q ≡ true → is_present (v ∷ vs) q ≡ true → is_present vs q ≡ true
covered es v vs q none here there =
    elim (eq_by_cmp path_cmp q v.0) as (λ b. eq_by_cmp path_cmp q v.0 ≡ b → is_some (cond b (Some v.1) (content vs q)) ≡ true → is_present vs q ≡ true) [
      | true ↦ λ t h. let is : is_present es q ≡ false = ap (is_present es) (same_path q v.0 t) ∙ ap is_some none in cc
      | false ↦ λ t h. h
    ] refl there

present_rest : (e : Path × List ℕ) (es : Entries) (q : Path) → is_present es q ≡ true → is_present (e ∷ es) q ≡ true
present_rest e es q h = elim (eq_by_cmp path_cmp q e.0) as (λ b. is_some (cond b (Some e.1) (content es q)) ≡ true) [ true ↦ refl | false ↦ h ]

-- along rising paths, among which are all of theirs, the files' contents are those that are found
along_on : (vs es : Entries) → is_sorted path_cmp es ≡ true → is_sorted path_cmp vs ≡ true → ((q : Path) → is_present es q ≡ true → is_present vs q ≡ true) → contents es ≡ contents_at es vs
along_on [] [] s t cover = refl
along_on [] (e ∷ es) s t cover = let h : false ≡ true = cover e.0 (present_first e es) in cc
along_on (v ∷ vs) [] s t cover = none_along (v ∷ vs)
along_on (v ∷ vs) (e ∷ es) s t cover =
    let first = and_parts (below_all path_cmp e.0 es) (is_sorted path_cmp es) s in
    let rest = and_parts (below_all path_cmp v.0 vs) (is_sorted path_cmp vs) t in
    elim (path_cmp v.0 e.0) as (λ o. path_cmp v.0 e.0 ≡ o → contents (e ∷ es) ≡ contents_at (e ∷ es) (v ∷ vs)) [
      | Less ↦ λ l.
          let none : content (e ∷ es) v.0 ≡ None = below_so v.0 (e ∷ es) (below_first v.0 e es l first.0) in
          along_on vs (e ∷ es) s rest.1 (λ q h. covered (e ∷ es) v vs q none h (cover q h))
          ∙ ap (λ o. option_to_list o ++ contents_at (e ∷ es) vs) (sym none)
      | Equal ↦ λ l.
          let is = tied_path v.0 e.0 l in
          let none : content es v.0 ≡ None = ap (content es) is ∙ below_so e.0 es first.0 in
          ap (λ t. e.1 ∷ t) (along_on vs es first.1 rest.1 (λ q h. covered es v vs q none h (cover q (present_rest e es q h))))
          ∙ ap (λ t. e.1 ∷ t) (sym (skip_first e es vs (ap (λ k. below_all path_cmp k vs) (sym is) ∙ rest.0)))
          ∙ ap (λ b. option_to_list (cond (is_eq b) (Some e.1) (content es v.0)) ++ contents_at (e ∷ es) vs) (sym l)
      | Greater ↦ λ l.
          let none : content (v ∷ vs) e.0 ≡ None = below_so e.0 (v ∷ vs) (below_first e.0 v vs (flipped_less v.0 e.0 l) rest.0) in
          let h : false ≡ true = ap is_some (sym none) ∙ cover e.0 (present_first e es) in cc
    ] refl

pub along : (es vs : Entries) → is_sorted path_cmp es ≡ true → is_sorted path_cmp vs ≡ true → ((q : Path) → is_present es q ≡ true → is_present vs q ≡ true) → contents es ≡ contents_at es vs
along es vs s t cover = along_on vs es s t cover
