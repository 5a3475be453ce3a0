-- What the setting of paths changes, and the first file in its way.
use Rattle.std.proofs.Common.{◌≡◌, ℕ, Bool, true, false, cond, List, [], ◌∷◌, Option, Some, None, refl}
use Rattle.std.specs.Prelude.{flat_map, filter, find, slice_get, unwrap_or, MatchOption}
use Rattle.std.specs.FinMap.{is_sorted}
use Rattle.std.specs.FinMap.{find as find_entry}
use Rattle.wse_path.specs.Path.{Path}
use Rattle.wse_path.specs.Order.{path_cmp}
use Rattle.wse_path.specs.Tree.{Entries, set_files}
use Rattle.wse_path.specs.Changes.{change_to, changes_between}
use Rattle.wse_path.proofs.ContentLemmas.{content_set_files}
use Rattle.wse_path.proofs.GatheredLemmas.{changes_given}

set_at : (o : Option (Option (List ℕ))) (new old : Option (List ℕ)) → new ≡ unwrap_or o old → MatchOption o (new ≡ old) (λ a. new ≡ a)
set_at None new old h = h
set_at (Some a) new old h = h

pub changes_set : (files : Entries) (sets : List (Path × Option (List ℕ))) → is_sorted path_cmp files ≡ true → is_sorted path_cmp sets ≡ true → flat_map (change_to files) sets ≡ changes_between files (set_files sets files)
changes_set files sets s t =
    changes_given files (set_files sets files) sets s t (λ q. set_at (find_entry path_cmp q sets) _ _ (content_set_files sets files q t))

-- the first that passes
pub first_of : {X : Type 0} (p : X → Bool) (xs : List X) → slice_get (filter p xs) 0 ≡ find p xs
first_of p [] = refl
first_of p (x ∷ xs) = elim (p x) as (λ b. slice_get (cond b (x ∷ filter p xs) (filter p xs)) 0 ≡ cond b (Some x) (find p xs)) [ true ↦ refl | false ↦ first_of p xs ]
