-- Why elements or effects are refused. This project's own rule.
use Rattle.std.specs.Prelude.{◌≡◌, ℕ, ◌+◌, ◌<◌, ◌≤◌, true, false, List, length, take, Some, ⊤}
use Rattle.wse_element.specs.declared.effect.Effect.{Effect}
use Rattle.wse_element.specs.Linked.{IsLinked}
use Rattle.wse_element.specs.Numbers.{is_bounded}
use Rattle.wse_element.specs.State.{StacksState}
use Rattle.wse_element.specs.Applicable.{first_refused}
use Rattle.wse_stacks.specs.declared.refused.StacksRefused.{StacksRefused}
use Rattle.wse_stacks.specs.declared.refused.ReserveRefused.{ReserveRefused}
use Rattle.wse_stacks.specs.declared.refused.StacksRefused.TheVariants as made
use Rattle.wse_stacks.specs.declared.refused.ReserveRefused.TheVariants as reserved

-- The place of the first record such that those up to it aren't linked, or the number of records where they are linked, but a
-- number passes its bound.
pub record IsFirstUnlinked (h : StacksState) (index : ℕ) : Type 0 where
  pub within : index ≤ length h.records
  pub before : IsLinked h.next_id (take index h.records)
  pub here : index < length h.records → IsLinked h.next_id (take (index + 1) h.records) → ⊥
  pub numbers : index ≡ length h.records → is_bounded h ≡ false

abbrev pub TellsUnlinked : StacksState → StacksRefused → Type 0
TellsUnlinked h (made.NotLinked index) = IsFirstUnlinked h index
TellsUnlinked h made.Memory = ⊤

-- Where it isn't for want of memory, the whole isn't linked and within its bounds.
abbrev pub IsUnlinked : StacksState → StacksRefused → Type 0
IsUnlinked h (made.NotLinked index) = IsLinked h.next_id h.records → is_bounded h ≡ true → ⊥
IsUnlinked h made.Memory = ⊤

-- The place of the first effect that isn't applicable after those before it.
abbrev pub TellsRefused : StacksState → List Effect → ReserveRefused → Type 0
TellsRefused h effects (reserved.NotApplicable index) = first_refused h effects ≡ Some index
TellsRefused h effects reserved.Memory = ⊤
