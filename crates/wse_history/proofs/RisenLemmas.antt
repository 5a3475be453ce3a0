-- What effects leave of versions that rise by one.
use Rattle.std.proofs.Common.{◌≡◌, ◌≤◌, true, List, [], ◌∷◌, map, refl, sym, ap, ◌∙◌, arith}
use Rattle.std.specs.FinMap.{is_sorted}
use Rattle.wse_path.specs.Path.{Path}
use Rattle.wse_path.specs.Order.{path_cmp}
use Rattle.wse_path.specs.Versions.{Numbers, version_of, bumped_by}
use Rattle.wse_path.specs.declared.change.Numbered.{Numbered}
use Rattle.wse_element.specs.declared.effect.Effect.{Effect}
use Rattle.wse_element.specs.State.{State}
use Rattle.wse_element.specs.Effects.{state_after}
use Rattle.wse_history.specs.Done.{pairs_of, AreRises, ones, raised, with_versions}
use Rattle.wse_history.specs.Outcome.{numbered, bump_each}
use Rattle.wse_history.specs.Planning.{bumps_in}
use Rattle.wse_history.proofs.RaisedLemmas.{apart_rising, bumped_is, numbered_is}
use Rattle.wse_history.proofs.PlanLemmas.{bumped_each}

one_rises : (1 ≤ 1) × (1 ≤ 2)
one_rises = (omega arith, omega arith)

pub ones_rise : (paths : List Path) → AreRises (ones paths)
ones_rise [] = tt
ones_rise (p ∷ paths) = (one_rises, ones_rise paths)

pub bumps_of_ones : (paths : List Path) → bumps_in (bump_each paths) ≡ pairs_of (ones paths)
bumps_of_ones [] = refl
bumps_of_ones (p ∷ paths) = ap (λ ps. (p, 1) ∷ ps) (bumps_of_ones paths)

numbers_of_ones : (vs : Numbers) (paths : List Path) → map {B = Numbered} (λ (p : Path). record { path = p; number = version_of vs p }) paths ≡ map {B = Numbered} (λ (b : Numbered). record { path = b.path; number = version_of vs b.path }) (ones paths)
numbers_of_ones vs [] = refl
numbers_of_ones vs (p ∷ paths) = ap (λ ns. record { path = p; number = version_of vs p } ∷ ns) (numbers_of_ones vs paths)

module _ (s : State) (effects : List Effect) (paths : List Path) (are : bumps_in effects ≡ pairs_of (ones paths)) (sorted : is_sorted path_cmp (pairs_of (ones paths)) ≡ true) where
  bumped_ones : (state_after s effects).versions ≡ bumped_by (pairs_of (ones paths)) s.versions
  bumped_ones = bumped_each s.versions effects ∙ ap (λ ps. bumped_by ps s.versions) are

  -- each path has its new version
  pub versions_risen : (state_after s effects).versions ≡ with_versions (raised s.versions (ones paths)) s.versions
  versions_risen = bumped_ones ∙ bumped_is s.versions (ones paths) sorted

  pub numbered_risen : raised s.versions (ones paths) ≡ numbered (state_after s effects) paths
  numbered_risen = sym
      (numbers_of_ones (state_after s effects).versions paths
      ∙ ap (λ vs. map {B = Numbered} (λ (b : Numbered). record { path = b.path; number = version_of vs b.path }) (ones paths)) bumped_ones
      ∙ numbered_is s.versions (ones paths) (apart_rising (ones paths) sorted))
