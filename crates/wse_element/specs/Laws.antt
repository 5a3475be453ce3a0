-- What effects keep: the records stay linked, the tree to them, and so the whole state. This project's own rule.
use Rattle.std.specs.Prelude.{◌≡◌, ◌≢◌, ℕ, ◌+◌, ◌*◌, ◌<◌, ◌≤◌, true, List, [], ◌∷◌, ◌++◌, None, ⊤}
use Rattle.std.specs.List.{AllByRecursion}
use Rattle.wse_path.specs.Path.{Path}
use Rattle.wse_path.specs.Tree.{Entries, set_files, IsTree}
use Rattle.wse_path.specs.Versions.{Numbers}
use Rattle.wse_element.specs.declared.effect.Effect.{Effect}
use Rattle.wse_element.specs.declared.effect.Effect.TheVariants.{Push, Bump}
use Rattle.wse_element.specs.Record.{Record, AreParts}
use Rattle.wse_element.specs.State.{StacksState, Kept, State, stacks_of, kept_of}
use Rattle.wse_element.specs.Effects.{after, begun, contents_set, ids_taken, records_after, versions_after, state_after}
use Rattle.wse_element.specs.Weight.{weight}
use Rattle.wse_element.specs.Applicable.{may_come, is_first_to_set, is_applicable, keeps_versions, first_refused_of_kept}
use Rattle.wse_element.specs.Linked.{IsLinked, IsTreeLinkedAt, IsStateLinked}

-- The new record of an effect has parts, and their paths rise. (The type of elements keeps that.)
abbrev pub PushesParts : Effect → Type 0
PushesParts (Push r) = AreParts r.parts
PushesParts _ = ⊤

-- A bump raises its version. (An effect that bumps by 0 has no spelling.)
abbrev pub Raises : Effect → Type 0
Raises (Bump path by) = 0 < by
Raises _ = ⊤

-- The records fit one another, and the tree is linked to them.
pub record AreTogether (h : StacksState) (files : Entries) : Type 0 where
  pub parts : AllByRecursion (λ r. AreParts r.parts) h.records
  pub linked : IsLinked h.next_id h.records
  pub tree : (p : Path) → IsTreeLinkedAt files h.records p

-- An effect that may come leaves records that fit one another, and each has parts.
pub record RecordsStayLinked : Type 0 where
  pub linked : (h : StacksState) (effect : Effect) → 0 < h.next_id → AllByRecursion (λ r. AreParts r.parts) h.records → PushesParts effect
      → may_come h effect ≡ true → IsLinked h.next_id h.records → IsLinked (after h effect).next_id (after h effect).records
  pub parts : (h : StacksState) (effect : Effect) → AllByRecursion (λ r. AreParts r.parts) h.records → PushesParts effect
      → AllByRecursion (λ r. AreParts r.parts) (after h effect).records

-- An effect that may come leaves a tree that is linked to the records that it leaves.
abbrev pub TreeStaysLinked : Type 0
TreeStaysLinked = (h : StacksState) (effect : Effect) (files : Entries) → PushesParts effect → may_come h effect ≡ true → AreTogether h files
    → (p : Path) → IsTreeLinkedAt (set_files (contents_set h.records effect) files) (after h effect).records p

-- Each effect is applicable behind those of its command that come before it, and keeps the versions within their bounds,
-- where the serial number is the one that counts for the command.
abbrev pub AllApply : (serial : ℕ) → StacksState → Numbers → (before : List Effect) → List Effect → Type 0
AllApply serial h versions before [] = ⊤
AllApply serial h versions before (e ∷ es) =
    (is_first_to_set before e ≡ true) × (is_applicable h e ≡ true) × (keeps_versions serial versions e ≡ true)
    × AllApply serial (after h e) (versions_after versions e) (before ++ e ∷ []) es

-- None of a command's effects is refused exactly where each applies in turn.
pub record NoneIsRefused : Type 0 where
  pub apply : (kept : Kept) (effects : List Effect) → first_refused_of_kept kept effects ≡ None
      → AllApply (kept.serial + 1) (begun (stacks_of kept)) kept.versions [] effects
  pub refused : (kept : Kept) (effects : List Effect) → AllApply (kept.serial + 1) (begun (stacks_of kept)) kept.versions [] effects
      → first_refused_of_kept kept effects ≡ None

-- The effects of one command that are applicable leave a linked state, where the files that they leave are a tree.
abbrev pub StateStaysLinked : Type 0
StateStaysLinked = (s : State) (effects : List Effect) → AllByRecursion (λ r. AreParts r.parts) s.records → AllByRecursion PushesParts effects → AllByRecursion Raises effects
    → effects ≢ [] → first_refused_of_kept (kept_of s) effects ≡ None → IsStateLinked s → IsTree (state_after s effects).files
    → IsStateLinked (state_after s effects)

-- The effect brings no new record.
abbrev pub BringsNone : Effect → Type 0
BringsNone (Push r) = ⊥
BringsNone _ = ⊤

-- Only a new record raises what the records count for, and any other effect takes no more ids than a 256th of that.
pub record OnlyPushesWeigh : Type 0 where
  pub falls : (records : List Record) (effect : Effect) → BringsNone effect → weight (records_after records effect) ≤ weight records
  pub takes : (records : List Record) (effect : Effect) → BringsNone effect → 256 * ids_taken records effect ≤ weight records
