-- Changes that come in path order.
use Rattle.std.proofs.Common.{◌≡◌, ℕ, suc, ◌-◌, Bool, true, false, ◌&&◌, List, [], ◌∷◌, ◌++◌, length, slice_get, Option, Some, cond, refl, sym, ap, subst, ◌∙◌, arith}
use Rattle.std.specs.FinMap.{is_sorted}
use Rattle.std.specs.FinMap.Entries.{below_all}
use Rattle.std.specs.Cmp.{IsTotalOrder}
use Rattle.std.specs.Cmp.Lexicographic.{lists_total, nat_list_cmp_total}
use Rattle.std.specs.declared.cmp.Ordering.{Ordering}
use Rattle.std.specs.declared.cmp.Ordering.TheVariants.{Less, Equal, Greater}
use Rattle.std.specs.Ordering.{is_lt}
use Rattle.wse_path.specs.Path.{Path}
use Rattle.wse_path.specs.Order.{path_cmp}
use Rattle.wse_path.specs.Place.{all_before}
use Rattle.wse_path.specs.Tree.{Entries, set_file, set_files, IsTree}

total : IsTotalOrder path_cmp
total = lists_total nat_list_cmp_total

parts : (a b : Bool) → (a && b) ≡ true → (a ≡ true) × (b ≡ true)
parts true b h = (refl, h)
parts false b h = (cc, cc)

joined : (a b : Bool) → a ≡ true → b ≡ true → (a && b) ≡ true
joined true b g h = h
joined false b g h = cc

less : (r : Ordering) → is_lt r ≡ true → r ≡ Less
less Less h = refl
less Equal h = cc
less Greater h = cc

lower : (p q r : Path) → is_lt (path_cmp p q) ≡ true → is_lt (path_cmp q r) ≡ true → is_lt (path_cmp p r) ≡ true
lower p q r g h = ap is_lt (total.trans p q r (less (path_cmp p q) g) (less (path_cmp q r) h))

module _ {X : Type 0} where
  below_push : (q : Path) (es : List (Path × X)) (p : Path) (x : X) → below_all path_cmp q es ≡ true → is_lt (path_cmp q p) ≡ true → below_all path_cmp q (es ++ (p, x) ∷ []) ≡ true
  below_push q [] p x below h = joined (is_lt (path_cmp q p)) true h refl
  below_push q (e ∷ es) p x below h =
      let both = parts (is_lt (path_cmp q e.0)) (below_all path_cmp q es) below in
      joined (is_lt (path_cmp q e.0)) (below_all path_cmp q (es ++ (p, x) ∷ [])) both.0 (below_push q es p x both.1 h)

  -- A path that comes behind all goes on with their order.
  pub rises_push : (es : List (Path × X)) (p : Path) (x : X) → is_sorted path_cmp es ≡ true → all_before path_cmp es p ≡ true → is_sorted path_cmp (es ++ (p, x) ∷ []) ≡ true
  rises_push [] p x rises before = refl
  rises_push (e ∷ es) p x rises before =
      let r = parts (below_all path_cmp e.0 es) (is_sorted path_cmp es) rises in
      let b = parts (is_lt (path_cmp e.0 p)) (all_before path_cmp es p) before in
      joined (below_all path_cmp e.0 (es ++ (p, x) ∷ [])) (is_sorted path_cmp (es ++ (p, x) ∷ [])) (below_push e.0 es p x r.0 b.0) (rises_push es p x r.1 b.1)

  -- A path that comes behind the last comes behind all.
  pub before_last : (es : List (Path × X)) (p : Path) (last : Path × X) → is_sorted path_cmp es ≡ true → slice_get es (length es - 1) ≡ Some last → is_lt (path_cmp last.0 p) ≡ true → all_before path_cmp es p ≡ true
  before_last [] p last rises is h = refl
  before_last (e ∷ []) p last rises is h =
      let same : e ≡ last = cc in joined (is_lt (path_cmp e.0 p)) true (ap (λ (f : Path × X). is_lt (path_cmp f.0 p)) same ∙ h) refl
  before_last (e ∷ f ∷ es) p last rises is h =
      let r = parts (below_all path_cmp e.0 (f ∷ es)) (is_sorted path_cmp (f ∷ es)) rises in
      let next = parts (is_lt (path_cmp e.0 f.0)) (below_all path_cmp e.0 es) r.0 in
      let rest = before_last (f ∷ es) p last r.1 (ap (slice_get (e ∷ f ∷ es)) {x = suc (length (f ∷ es) - 1)} {y = length (e ∷ f ∷ es) - 1} (omega arith) ∙ is) h in
      let first = parts (is_lt (path_cmp f.0 p)) (all_before path_cmp es p) rest in
      joined (is_lt (path_cmp e.0 p)) (all_before path_cmp (f ∷ es) p) (lower e.0 f.0 p next.0 first.0) rest

set_files_push : (cs : List (Path × Option (List ℕ))) (p : Path) (c : Option (List ℕ)) (files : Entries) → set_files (cs ++ (p, c) ∷ []) files ≡ set_file (set_files cs files) p c
set_files_push [] p c files = refl
set_files_push (d ∷ cs) p c files = set_files_push cs p c (set_file files d.0 d.1)

-- The files are a tree, whether or not one change more came behind the others.
pub tree_push : (ok : Bool) (cs cs' : List (Path × Option (List ℕ))) (p : Path) (c : Option (List ℕ)) (files files' now : Entries) → IsTree (set_files cs files) → set_files cs files ≡ now → IsTree (set_file now p c) → files' ≡ files
    → cs' ≡ cond ok (cs ++ (p, c) ∷ []) cs → IsTree (set_files cs' files')
tree_push true cs cs' p c files files' now old are new same is =
    subst IsTree (sym (ap (λ l. set_files l files') is ∙ ap (set_files (cs ++ (p, c) ∷ [])) same ∙ set_files_push cs p c files ∙ ap (λ es. set_file es p c) are)) new
tree_push false cs cs' p c files files' now old are new same is = subst IsTree (sym (ap (λ l. set_files l files') is ∙ ap (set_files cs) same)) old

-- One change more came behind the others.
pub files_push : (cs cs' : List (Path × Option (List ℕ))) (p : Path) (c : Option (List ℕ)) (files files' now : Entries) → set_files cs files ≡ now → files' ≡ files → cs' ≡ cs ++ (p, c) ∷ [] → set_files cs' files' ≡ set_file now p c
files_push cs cs' p c files files' now are same is = ap (λ l. set_files l files') is ∙ ap (set_files (cs ++ (p, c) ∷ [])) same ∙ set_files_push cs p c files ∙ ap (λ es. set_file es p c) are
