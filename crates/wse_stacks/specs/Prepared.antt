-- What is prepared for a list of effects. This project's own rule.
use Rattle.std.specs.Prelude.{◌≡◌, ℕ, ◌+◌, ◌≤◌, true, length, Option, Some, None, ⊤}
use Rattle.std.specs.List.{AllByRecursion}
use Rattle.std.specs.FinMap.{is_sorted}
use Rattle.wse_path.specs.Path.{Path}
use Rattle.wse_path.specs.Order.{path_cmp}
use Rattle.wse_path.specs.Versions.{VersionsState, version_of}
use Rattle.wse_element.specs.State.{StacksState}
use Rattle.wse_element.specs.Effects.{left_by}
use Rattle.wse_stacks.specs.Stacks.{IsHistory}
use Rattle.wse_stacks.specs.Turns.{Turned}
use Rattle.wse_stacks.specs.declared.prepared.Prepared.{Prepared}

-- It is what the effects leave, which is a history again. The paths whose history looks otherwise then rise.
pub record IsPrepared (h : StacksState) (p : Prepared) : Type 0 where
  pub state : record { records = p.records; next_id = p.next_id; serial = h.serial + 1 } ≡ left_by p.effects h
  pub history : IsHistory (left_by p.effects h)
  pub rises : is_sorted path_cmp p.turned.items ≡ true
  pub ones : AllByRecursion (λ e. e.1 ≡ 1) p.turned.items
  pub turns : Turned h.records p.records (λ _. 0) (version_of p.turned.items)

-- If anything is prepared, there is room to count those paths.
abbrev pub IsPreparedIfAny : StacksState → ℕ → Option Prepared → Type 0
IsPreparedIfAny h spare None = ⊤
IsPreparedIfAny h spare (Some p) = IsPrepared h p × (length p.turned.items ≤ spare)

-- What the type of the stacks keeps.
pub record AreStacks (h : StacksState) (turned : VersionsState) (prepared : Option Prepared) : Type 0 where
  pub history : IsHistory h
  pub counted : (p : Path) → version_of turned.entries p ≤ h.serial
  pub ready : IsPreparedIfAny h turned.spare prepared
