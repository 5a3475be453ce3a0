-- The file above a path, and the files under it, by the paths that are present.
use Rattle.std.proofs.Common.{◌≡◌, ℕ, Bool, true, false, cond, List, [], ◌∷◌, Option, Some, None, refl, sym, ap, subst, ◌∙◌}
use Rattle.std.specs.Prelude.{is_some}
use Rattle.std.specs.Option.{option_map}
use Rattle.std.specs.Ordering.{eq_by_cmp, is_lt, is_gt, ordering_reverse}
use Rattle.std.specs.declared.cmp.Ordering.TheVariants.{Less, Equal, Greater}
use Rattle.std.specs.FinMap.{find}
use Rattle.std.specs.Cmp.Lexicographic.{lists_total, nat_list_cmp_total}
use Rattle.std.proofs.lemmas.Bool.{true≢false, false_from_ne_true, or_parts, cases_Bool}
use Rattle.std.proofs.Common.{inl, inr}
use Rattle.wse_path.specs.Path.{Path, is_under}
use Rattle.wse_path.specs.Order.{path_cmp}
use Rattle.wse_path.specs.Tree.{Entries, is_present, is_folder, entry_above, file_above}
use Rattle.wse_overlay.specs.Overlay.{AreApart}
use Rattle.wse_path.proofs.TreeLemmas.{same_path, tied_path, present_first, none_any}
use Rattle.wse_path.proofs.UnderLemmas.{under_behind, under_between}

pub clash : (b : Bool) → b ≡ true → b ≡ false → ⊥
clash b t f = true≢false (sym t ∙ f)

turn : (p q : Path) → path_cmp p q ≡ Greater → path_cmp q p ≡ Less
turn p q g = (lists_total nat_list_cmp_total).antisymm q p ∙ ap ordering_reverse g

pub present_later : (e : Path × List ℕ) (es : Entries) (q : Path) → is_present es q ≡ true → is_present (e ∷ es) q ≡ true
present_later e es q h = elim (eq_by_cmp path_cmp q e.0) as (λ b. is_some (cond b (Some e.1) (find path_cmp q es)) ≡ true) [ true ↦ refl | false ↦ h ]

same_key : (a b : Path) → ◌≡◌ {A = Option Path} (Some a) (Some b) → a ≡ b
same_key a b e = cc

-- ---- above

-- the file above a path is present, and above it
pub above_found : (es : Entries) (p q : Path) → file_above es p ≡ Some q → (is_present es q ≡ true) × (is_under p q ≡ true)
above_found [] p q h = cc
above_found (e ∷ es) p q h =
    elim (is_under p e.0) as (λ u. is_under p e.0 ≡ u → option_map (λ (x : Path × List ℕ). x.0) (cond u (Some e) (entry_above es p)) ≡ Some q → (is_present (e ∷ es) q ≡ true) × (is_under p q ≡ true)) [
      | true ↦ λ t g. let same = same_key e.0 q g in (subst (λ x. is_present (e ∷ es) x ≡ true) same (present_first e es), subst (λ x. is_under p x ≡ true) same t)
      | false ↦ λ t g. let more = above_found es p q g in (present_later e es q more.0, more.1)
    ] refl h

-- where nothing stands above a path, it is under none that is present
pub none_above : (es : Entries) (p q : Path) → file_above es p ≡ None → is_present es q ≡ true → is_under p q ≡ false
none_above [] p q above here = cc
none_above (e ∷ es) p q above here =
    elim (is_under p e.0) as (λ u. is_under p e.0 ≡ u → option_map (λ (x : Path × List ℕ). x.0) (cond u (Some e) (entry_above es p)) ≡ None → is_under p q ≡ false) [
      | true ↦ λ t a. cc
      | false ↦ λ t a. elim (eq_by_cmp path_cmp q e.0) as (λ b. eq_by_cmp path_cmp q e.0 ≡ b → is_some (cond b (Some e.1) (find path_cmp q es)) ≡ true → is_under p q ≡ false) [
        | true ↦ λ u h. ap (is_under p) (same_path q e.0 u) ∙ t
        | false ↦ λ u h. none_above es p q a h
      ] refl here
    ] refl above

pub above_none : (es : Entries) (p : Path) → ((q : Path) → is_present es q ≡ true → is_under p q ≡ false) → file_above es p ≡ None
above_none [] p each = refl
above_none (e ∷ es) p each =
    ap (λ b. option_map (λ (x : Path × List ℕ). x.0) (cond b (Some e) (entry_above es p))) (each e.0 (present_first e es))
    ∙ above_none es p (λ q h. each q (present_later e es q h))

-- of files that are apart, one alone stands above a path
pub one_above : (es : Entries) (p q r : Path) → AreApart es → is_present es q ≡ true → is_present es r ≡ true → is_under p q ≡ true → is_under p r ≡ true → q ≡ r
one_above es p q r apart hq hr u v =
    elim (path_cmp q r) as (λ o. path_cmp q r ≡ o → q ≡ r) [
      | Less ↦ λ e. absurd (clash (is_under r q) (under_between q r p e (under_behind p r v) u) (apart r q hr hq))
      | Equal ↦ λ e. tied_path q r e
      | Greater ↦ λ e. absurd (clash (is_under q r) (under_between r q p (turn q r e) (under_behind p q u) v) (apart q r hq hr))
    ] refl

pub above_is : (es : Entries) (p q : Path) → AreApart es → is_present es q ≡ true → is_under p q ≡ true → file_above es p ≡ Some q
above_is es p q apart here u =
    elim (file_above es p) as (λ o. file_above es p ≡ o → o ≡ Some q) [
      | None ↦ λ e. absurd (clash (is_under p q) u (none_above es p q e here))
      | Some r ↦ λ e. let found = above_found es p r e in ap (λ x. Some x) (one_above es p r q apart found.0 here found.1 u)
    ] refl

not_last : (es : Entries) (p k q : Path) → AreApart es → is_present es k ≡ true → is_present es q ≡ true → path_cmp k p ≡ Less → is_lt (path_cmp k q) ≡ false → is_under p k ≡ false → is_under p q ≡ true → ⊥
not_last es p k q apart here there l last u t =
    elim (path_cmp k q) as (λ o. path_cmp k q ≡ o → ⊥) [
      | Less ↦ λ e. clash (is_lt (path_cmp k q)) (ap is_lt e) last
      | Equal ↦ λ e. clash (is_under p q) t (ap (is_under p) (sym (tied_path k q e)) ∙ u)
      | Greater ↦ λ e. clash (is_under k q) (under_between q k p (turn k q e) l t) (apart k q here there)
    ] refl

-- only the last file before a path can stand above it
pub above_last : (es : Entries) (p k : Path) → AreApart es → is_present es k ≡ true → path_cmp k p ≡ Less → ((q : Path) → path_cmp q p ≡ Less → is_present es q ≡ true → is_lt (path_cmp k q) ≡ false) → file_above es p ≡ cond (is_under p k) (Some k) None
above_last es p k apart here l last =
    elim (is_under p k) as (λ u. is_under p k ≡ u → file_above es p ≡ cond u (Some k) None) [
      | true ↦ λ u. above_is es p k apart here u
      | false ↦ λ u. above_none es p (λ q h. false_from_ne_true (is_under p q) (λ t. not_last es p k q apart here h l (last q (under_behind p q t) h) u t))
    ] refl

-- before all files none stands above a path
pub above_before_all : (es : Entries) (p : Path) → ((q : Path) → path_cmp q p ≡ Less → is_present es q ≡ true → ⊥) → file_above es p ≡ None
above_before_all es p none = above_none es p (λ q h. false_from_ne_true (is_under p q) (λ t. none q (under_behind p q t) h))

-- ---- under

-- where a path is no folder, none that is present is under it
pub none_under : (es : Entries) (p q : Path) → is_folder es p ≡ false → is_present es q ≡ true → is_under q p ≡ false
none_under [] p q folder here = cc
none_under (e ∷ es) p q folder here =
    let parts = or_parts (is_under e.0 p) (is_folder es p) folder in
    elim (eq_by_cmp path_cmp q e.0) as (λ b. eq_by_cmp path_cmp q e.0 ≡ b → is_some (cond b (Some e.1) (find path_cmp q es)) ≡ true → is_under q p ≡ false) [
      | true ↦ λ t h. ap (λ x. is_under x p) (same_path q e.0 t) ∙ parts.0
      | false ↦ λ t h. none_under es p q parts.1 h
    ] refl here

pub folder_is : (es : Entries) (p q : Path) → is_present es q ≡ true → is_under q p ≡ true → is_folder es p ≡ true
folder_is es p q here u =
    elim (cases_Bool (is_folder es p)) [
      | inl folder ↦ folder
      | inr none ↦ absurd (clash (is_under q p) u (none_under es p q none here))
    ]

pub folder_none : (es : Entries) (p : Path) → ((q : Path) → is_present es q ≡ true → is_under q p ≡ false) → is_folder es p ≡ false
folder_none es p each = none_any es (λ q. is_under q p) each

not_first : (p k q : Path) → path_cmp p k ≡ Less → is_gt (path_cmp k q) ≡ false → is_under k p ≡ false → is_under q p ≡ true → ⊥
not_first p k q l first u t =
    elim (path_cmp k q) as (λ o. path_cmp k q ≡ o → ⊥) [
      | Less ↦ λ e. clash (is_under k p) (under_between p k q l e t) u
      | Equal ↦ λ e. clash (is_under q p) t (ap (λ x. is_under x p) (sym (tied_path k q e)) ∙ u)
      | Greater ↦ λ e. clash (is_gt (path_cmp k q)) (ap is_gt e) first
    ] refl

-- some file is under a path just if the first one behind it is
pub folder_first : (es : Entries) (p k : Path) → is_present es k ≡ true → path_cmp p k ≡ Less → ((q : Path) → path_cmp p q ≡ Less → is_present es q ≡ true → is_gt (path_cmp k q) ≡ false) → is_folder es p ≡ is_under k p
folder_first es p k here l first =
    elim (is_under k p) as (λ u. is_under k p ≡ u → is_folder es p ≡ u) [
      | true ↦ λ u. folder_is es p k here u
      | false ↦ λ u. folder_none es p (λ q h. false_from_ne_true (is_under q p) (λ t. not_first p k q l (first q (under_behind q p t) h) u t))
    ] refl

-- behind all files no path is a folder
pub folder_behind_all : (es : Entries) (p : Path) → ((q : Path) → path_cmp p q ≡ Less → is_present es q ≡ true → ⊥) → is_folder es p ≡ false
folder_behind_all es p none = folder_none es p (λ q h. false_from_ne_true (is_under q p) (λ t. none q (under_behind q p t) h))
