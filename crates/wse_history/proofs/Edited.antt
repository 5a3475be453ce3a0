-- Where an edit starts from, and what is shown of its effects.
use Rattle.std.specs.Prelude.{◌≡◌, false, List, [], ◌∷◌, None, ⊤}
use Rattle.std.specs.List.{list_any, AllByRecursion}
use Rattle.std.specs.Ordering.{eq_by_cmp}
use Rattle.wse_path.specs.Path.{Path}
use Rattle.wse_path.specs.Order.{path_cmp}
use Rattle.wse_path.specs.Tree.{Entries}
use Rattle.wse_element.specs.declared.effect.Effect.{Effect}
use Rattle.wse_element.specs.Record.{AreParts}
use Rattle.wse_element.specs.State.{State, kept_of}
use Rattle.wse_element.specs.Effects.{state_after}
use Rattle.wse_element.specs.Linked.{IsStateLinked}
use Rattle.wse_element.specs.Applicable.{first_refused_of_kept}

-- no path stands twice
abbrev pub AreOnce : List Path → Type 0
AreOnce [] = ⊤
AreOnce (p ∷ more) = (list_any (λ q. eq_by_cmp path_cmp q p) more ≡ false) × AreOnce more

-- a state from which an edit starts
pub record IsStart (s : State) : Type 0 where
  pub linked : IsStateLinked s
  pub parts : AllByRecursion (λ r. AreParts r.parts) s.records

-- the effects may come, and leave a linked state whose files are these
pub record IsRight (s : State) (effects : List Effect) (new : Entries) : Type 0 where
  pub applicable : first_refused_of_kept (kept_of s) effects ≡ None
  pub linked : IsStateLinked (state_after s effects)
  pub parts : AllByRecursion (λ r. AreParts r.parts) (state_after s effects).records
  pub files : (state_after s effects).files ≡ new
