-- The changes that paths with new contents make are the difference of the two trees.
use Rattle.std.proofs.Common.{◌≡◌, ℕ, Bool, true, false, cond, not, ◌&&◌, ◌||◌, List, [], ◌∷◌, ◌++◌, map, Option, Some, None, MatchOption, refl, sym, ap, ◌∙◌, if◌then◌else◌}
use Rattle.std.specs.Prelude.{is_some}
use Rattle.std.specs.Option.{option_map}
use Rattle.std.specs.List.{AllByRecursion, flat_map}
use Rattle.std.specs.FinMap.{find, is_sorted}
use Rattle.std.specs.FinMap.Entries.{below_all, where_key, same_entries}
use Rattle.std.specs.Cmp.Lexicographic.{lists_total, nat_list_cmp_total}
use Rattle.std.specs.Ordering.{eq_by_cmp, is_lt, is_eq}
use Rattle.std.proofs.lemmas.Bool.{not-false}
use Rattle.std.proofs.lemmas.Slice.Eq.{bytes_eq-Decides}
use Rattle.wse_path.specs.Path.{Path}
use Rattle.wse_path.specs.Order.{path_cmp}
use Rattle.wse_path.specs.Tree.{Entries, content, put_all}
use Rattle.wse_path.specs.Changes.{is_same, change_at, change_to, paths_of_both, changes_between}
use Rattle.wse_path.specs.declared.change.Change.{Change}
use Rattle.wse_path.proofs.EntryLemmas.{to_so}
use Rattle.wse_path.proofs.TreeLemmas.{same_path}
use Rattle.wse_path.proofs.PutLemmas.{find_where, sorted_where, sorted_put_each, put_all_is, each_found, has_put_each}

-- ---- two sorted lists with the same keys, but for keys that give nothing

-- the keys, each with the same value
abbrev marked : {X : Type 0} → List (Path × X) → List (Path × ℕ)
marked es = map (λ e. (e.0, 0)) es

abbrev marks : {X : Type 0} → (Path → Bool) → List (Path × X) → List (Path × ℕ)
marks f es = marked (where_key path_cmp f es)

below_marked : {X : Type 0} (x : Path) (es : List (Path × X)) → below_all path_cmp x (marked es) ≡ below_all path_cmp x es
below_marked x [] = refl
below_marked x (e ∷ es) = ap (λ b. is_lt (path_cmp x e.0) && b) (below_marked x es)

sorted_marked : {X : Type 0} (es : List (Path × X)) → is_sorted path_cmp (marked es) ≡ is_sorted path_cmp es
sorted_marked [] = refl
sorted_marked (e ∷ es) = λ i. below_marked e.0 es i && sorted_marked es i

find_marked : {X : Type 0} (q : Path) (es : List (Path × X)) → find path_cmp q (marked es) ≡ option_map (λ _. 0) (find path_cmp q es)
find_marked q [] = refl
find_marked q (e ∷ es) =
    elim (eq_by_cmp path_cmp q e.0) as (λ b. cond b (Some 0) (find path_cmp q (marked es)) ≡ option_map (λ _. 0) (cond b (Some e.1) (find path_cmp q es))) [ true ↦ refl | false ↦ find_marked q es ]

same_mark : {X Y : Type 0} (a : Option X) (b : Option Y) → is_some a ≡ is_some b → ◌≡◌ {A = Option (ℕ)} (option_map (λ _. 0) a) (option_map (λ _. 0) b)
same_mark None None e = refl
same_mark None (Some y) e = cc
same_mark (Some x) None e = cc
same_mark (Some x) (Some y) e = refl

find_marks : {X : Type 0} (f : Path → Bool) (es : List (Path × X)) (q : Path) → find path_cmp q (marks f es) ≡ option_map (λ _. 0) (cond (f q) (find path_cmp q es) None)
find_marks f es q = find_marked q (where_key path_cmp f es) ∙ ap (option_map (λ _. 0)) (find_where f q es)

same_marks : {X Y : Type 0} (f : Path → Bool) (es : List (Path × X)) (fs : List (Path × Y)) → is_sorted path_cmp es ≡ true → is_sorted path_cmp fs ≡ true → ((q : Path) → f q ≡ true → is_some (find path_cmp q es) ≡ is_some (find path_cmp q fs)) → marks f es ≡ marks f fs
same_marks f es fs s t same =
    same_entries path_cmp (lists_total nat_list_cmp_total) (λ x y e. same_path x y (ap is_eq e)) (marks f es) (marks f fs)
    (to_so _ (sorted_marked (where_key path_cmp f es) ∙ sorted_where f es s))
    (to_so _ (sorted_marked (where_key path_cmp f fs) ∙ sorted_where f fs t))
    (λ q. find_marks f es q
    ∙ elim (f q) as (λ b. f q ≡ b → ◌≡◌ {A = Option (ℕ)} (option_map (λ _. 0) (cond b (find path_cmp q es) None)) (option_map (λ _. 0) (cond b (find path_cmp q fs) None))) [
      | true ↦ λ h. same_mark _ _ (same q h)
      | false ↦ λ h. refl
    ] refl
    ∙ sym (find_marks f fs q))

keys_marked : {X : Type 0} (es : List (Path × X)) → map (λ e. e.0) (marked es) ≡ map (λ e. e.0) es
keys_marked [] = refl
keys_marked (e ∷ es) = ap (λ t. e.0 ∷ t) (keys_marked es)

all_kept : {X : Type 0} (es : List (Path × X)) → where_key path_cmp (λ _. true) es ≡ es
all_kept [] = refl
all_kept (e ∷ es) = ap (λ t. e ∷ t) (all_kept es)

-- two sorted lists at which the same keys are found have the same keys
pub same_keys : {X Y : Type 0} (es : List (Path × X)) (fs : List (Path × Y)) → is_sorted path_cmp es ≡ true → is_sorted path_cmp fs ≡ true → ((q : Path) → is_some (find path_cmp q es) ≡ is_some (find path_cmp q fs)) → map (λ e. e.0) es ≡ map (λ e. e.0) fs
same_keys es fs s t same =
    sym (keys_marked es)
    ∙ ap (λ l. map (λ e. e.0) (marked l)) (sym (all_kept es))
    ∙ ap (λ (l : List (Path × ℕ)). map (λ e. e.0) l) (same_marks (λ _. true) es fs s t (λ q _. same q))
    ∙ ap (λ l. map (λ e. e.0) (marked l)) (all_kept fs)
    ∙ keys_marked fs

over_marks : {X : Type 0} (f : Path → Bool) (g : Path → List Change) → ((q : Path) → f q ≡ false → g q ≡ []) → (es : List (Path × X)) → flat_map (λ e. g e.0) (marks f es) ≡ flat_map (λ e. g e.0) es
over_marks f g none [] = refl
over_marks f g none (e ∷ es) =
    elim (f e.0) as (λ b. f e.0 ≡ b → flat_map (λ (x : Path × ℕ). g x.0) (marked (cond b (e ∷ where_key path_cmp f es) (where_key path_cmp f es))) ≡ g e.0 ++ flat_map (λ x. g x.0) es) [
      | true ↦ λ h. ap (λ t. g e.0 ++ t) (over_marks f g none es)
      | false ↦ λ h. over_marks f g none es ∙ ap (λ t. t ++ flat_map (λ x. g x.0) es) (sym (none e.0 h))
    ] refl

-- what is gathered over keys doesn't see keys that give nothing
same_gathered : {X Y : Type 0} (f : Path → Bool) (g : Path → List Change) → ((q : Path) → f q ≡ false → g q ≡ []) → (es : List (Path × X)) (fs : List (Path × Y)) → is_sorted path_cmp es ≡ true → is_sorted path_cmp fs ≡ true → ((q : Path) → f q ≡ true → is_some (find path_cmp q es) ≡ is_some (find path_cmp q fs)) → flat_map (λ e. g e.0) es ≡ flat_map (λ e. g e.0) fs
same_gathered f g none es fs s t same =
    sym (over_marks f g none es) ∙ ap (flat_map (λ e. g e.0)) (same_marks f es fs s t same) ∙ over_marks f g none fs

-- ---- paths where two trees differ

pub is_same_itself : (o : Option (List ℕ)) → is_same o o ≡ true
is_same_itself None = refl
is_same_itself (Some a) = (bytes_eq-Decides a a).1 refl

none_there : (old new : Entries) (q : Path) → not (is_same (content old q) (content new q)) ≡ false → change_at old new q ≡ []
none_there old new q h =
    ap (λ b. if b then [] else record { path = q; before = content old q; after = content new q } ∷ []) (not-false _ h)

some_differs : (a b : Option (List ℕ)) → not (is_same a b) ≡ true → (is_some a || is_some b) ≡ true
some_differs None None h = cc
some_differs None (Some y) h = refl
some_differs (Some x) b h = refl

in_both : (old new : Entries) (q : Path) → not (is_same (content old q) (content new q)) ≡ true → is_some (find path_cmp q (put_all new old)) ≡ true
in_both old new q h =
    ap (λ es. is_some (find path_cmp q es)) (put_all_is new old) ∙ has_put_each new old q ∙ some_differs (content old q) (content new q) h

in_given : (old new : Option (List ℕ)) (o : Option (Option (List ℕ))) → MatchOption o (new ≡ old) (λ a. new ≡ a) → not (is_same old new) ≡ true → is_some o ≡ true
in_given old new (Some a) m h = refl
in_given old new None m h = let same : is_same old new ≡ true = ap (is_same old) m ∙ is_same_itself old in cc

some_same : (a b : Option (List ℕ)) → ◌≡◌ {A = Option (Option (List ℕ))} (Some a) (Some b) → a ≡ b
some_same a b e = cc

given_at : (new old : Option (List ℕ)) (o : Option (Option (List ℕ))) (v : Option (List ℕ)) → MatchOption o (new ≡ old) (λ a. new ≡ a) → o ≡ Some v → ◌≡◌ {A = Option (Option (List ℕ))} (Some new) (Some v)
given_at new old None v m e = cc
given_at new old (Some a) v m e = let same : a ≡ v = some_same a v e in ap Some (m ∙ same)

same_given : (files new : Entries) (given : List (Path × Option (List ℕ))) → AllByRecursion (λ (e : Path × Option (List ℕ)). ◌≡◌ {A = Option (Option (List ℕ))} (Some (content new e.0)) (Some e.1)) given → flat_map (change_to files) given ≡ flat_map (λ e. change_at files new e.0) given
same_given files new [] all = refl
same_given files new (e ∷ given) all =
    let is = some_same (content new e.0) e.1 all.0 in
    λ i. (if is_same (content files e.0) (sym is i) then [] else record { path = e.0; before = content files e.0; after = sym is i } ∷ []) ++ same_given files new given all.1 i

pub over_paths : {X : Type 0} (g : Path → List Change) (es : List (Path × X)) → flat_map g (map (λ e. e.0) es) ≡ flat_map (λ e. g e.0) es
over_paths g [] = refl
over_paths g (e ∷ es) = ap (λ t. g e.0 ++ t) (over_paths g es)

both_true : (a b : Bool) → a ≡ true → b ≡ true → a ≡ b
both_true a b p q = p ∙ sym q

-- Where each path has its new content, and all others keep theirs, the changes are the difference of the two trees.
pub changes_given : (files new : Entries) (given : List (Path × Option (List ℕ))) → is_sorted path_cmp files ≡ true → is_sorted path_cmp given ≡ true
    → ((q : Path) → MatchOption (find path_cmp q given) (content new q ≡ content files q) (λ a. content new q ≡ a)) → flat_map (change_to files) given ≡ changes_between files new
changes_given files new given s t at =
    same_given files new given (each_found (λ q. Some (content new q)) given t (λ q v e. given_at (content new q) (content files q) (find path_cmp q given) v (at q) e))
    ∙ same_gathered (λ q. not (is_same (content files q) (content new q))) (change_at files new) (none_there files new) given (put_all new files) t
    (ap (is_sorted path_cmp) (put_all_is new files) ∙ sorted_put_each new files s)
    (λ q h. both_true _ _ (in_given (content files q) (content new q) (find path_cmp q given) (at q) h) (in_both files new q h))
    ∙ sym (over_paths (change_at files new) (put_all new files))

none_changed : (files : Entries) (paths : List Path) → flat_map (change_at files files) paths ≡ []
none_changed files [] = refl
none_changed files (p ∷ paths) =
    ap (λ b. (if b then [] else record { path = p; before = content files p; after = content files p } ∷ []) ++ flat_map (change_at files files) paths) (is_same_itself (content files p)) ∙ none_changed files paths

-- a tree that stays has no changes
pub no_changes : (files : Entries) → changes_between files files ≡ []
no_changes files = none_changed files (paths_of_both files files)
