-- Each effect that may come leaves a list of records that fit one another.
use Rattle.std.proofs.Common.{◌≡◌, ℕ, ◌+◌, ◌<◌, true, false, eqb, List, sym, subst, arith}
use Rattle.std.specs.List.{AllByRecursion}
use Rattle.std.specs.Option.{option_map_or}
use Rattle.std.proofs.lemmas.Bool.{eqb-true}
use Rattle.wse_path.specs.Path.{Path}
use Rattle.wse_path.proofs.EntryLemmas.{and_parts}
use Rattle.wse_element.specs.declared.state.PartState.{PartState}
use Rattle.wse_element.specs.declared.state.PartState.TheVariants.{Live, Closed, Incompatible}
use Rattle.wse_element.specs.declared.effect.Effect.{Effect}
use Rattle.wse_element.specs.declared.effect.Effect.TheVariants.{Push, MoveBack, MoveForward, Split, Drop, Invalidate, Bump, Set}
use Rattle.wse_element.specs.Record.{Record, AreParts}
use Rattle.wse_element.specs.Stacks.{record_of}
use Rattle.wse_element.specs.State.{StacksState}
use Rattle.wse_element.specs.Effects.{lost_for, after, ids_taken}
use Rattle.wse_element.specs.Split.{split}
use Rattle.wse_element.specs.Linked.{IsLinked}
use Rattle.wse_element.specs.Laws.{PushesParts}
use Rattle.wse_element.specs.Applicable.{may_split, may_lose, may_come}
use Rattle.wse_element.proofs.AfterLemmas.{IsLinked-flushed, IsLinked-dropped, IsLinked-invalidated, IsLinked-pushed, IsLinked-back, IsLinked-forward}
use Rattle.wse_element.proofs.SplitAfterLemmas.{IsLinked-split}

no_ids : (next_id : ℕ) (records : List Record) → IsLinked next_id records → IsLinked (next_id + 0) records
no_ids next_id records linked = let same : next_id ≡ next_id + 0 = omega arith in subst (λ n. IsLinked n records) same linked

linked_lost : (next_id : ℕ) (records : List Record) (path : Path) (reason : PartState) → may_lose records path reason ≡ true → IsLinked next_id records → IsLinked next_id (lost_for records path reason)
linked_lost next_id records path Live may linked = linked
linked_lost next_id records path Closed may linked = IsLinked-flushed next_id records path linked
linked_lost next_id records path Incompatible may linked = IsLinked-dropped next_id records path linked

pub linked_after : (h : StacksState) (effect : Effect) → 0 < h.next_id → AllByRecursion (λ r. AreParts r.parts) h.records → PushesParts effect → may_come h effect ≡ true → IsLinked h.next_id h.records → IsLinked (after h effect).next_id (after h effect).records
linked_after h (Push r) positive all parts may linked = IsLinked-pushed h r parts positive may linked
linked_after h (MoveBack id) positive all parts may linked = no_ids h.next_id (after h (MoveBack id)).records (IsLinked-back h.next_id h.records id may linked)
linked_after h (MoveForward id) positive all parts may linked = no_ids h.next_id (after h (MoveForward id)).records (IsLinked-forward h.next_id h.records id may linked)
linked_after h (Split id first) positive all parts may linked =
    let same : first ≡ h.next_id = eqb-true first h.next_id (and_parts (option_map_or may_split (record_of h.records id) false) (eqb first h.next_id) may).1 in
    subst (λ n. IsLinked (h.next_id + ids_taken h.records (Split id first)) (split h.records id n)) (sym same) (IsLinked-split h.next_id id h.records positive all linked)
linked_after h (Drop path reason) positive all parts may linked = no_ids h.next_id (lost_for h.records path reason) (linked_lost h.next_id h.records path reason may linked)
linked_after h (Invalidate path) positive all parts may linked = no_ids h.next_id (after h (Invalidate path)).records (IsLinked-invalidated h.next_id h.records path linked)
linked_after h (Bump path by) positive all parts may linked = no_ids h.next_id h.records linked
linked_after h (Set path content) positive all parts may linked = no_ids h.next_id h.records linked
