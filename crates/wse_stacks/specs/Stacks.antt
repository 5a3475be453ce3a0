-- What contracts see of the stacks. This project's own rule.
use Rattle.std.specs.Prelude.{◌≡◌, ℕ, true, List, Option}
use Rattle.std.specs.List.{AllByRecursion}
use Rattle.wse_path.specs.Path.{Path}
use Rattle.wse_path.specs.Versions.{Numbers, version_of}
use Rattle.wse_element.specs.declared.effect.Effect.{Effect}
use Rattle.wse_element.specs.Record.{Record, AreParts}
use Rattle.wse_element.specs.Linked.{IsLinked}
use Rattle.wse_element.specs.Numbers.{is_bounded}
use Rattle.wse_element.specs.State.{StacksState}

-- The list of records, the next free id and the serial number, how often each path's history turned, and the list of effects
-- that is prepared.
pub record StacksNow : Type 0 where
  pub state : StacksState
  pub turned : Numbers
  pub prepared : Option (List Effect)

-- How often the path's history turned.
abbrev pub turns : StacksNow → Path → ℕ
turns s p = version_of s.turned p

-- Each record has parts, whose paths rise.
abbrev pub HaveParts : List Record → Type 0
HaveParts records = AllByRecursion (λ r. AreParts r.parts) records

-- What the type of the stacks keeps.
pub record IsHistory (h : StacksState) : Type 0 where
  pub parts : HaveParts h.records
  pub linked : IsLinked h.next_id h.records
  pub bounded : is_bounded h ≡ true
