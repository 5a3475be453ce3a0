-- What is proved of an undo or a redo, in a few words.
use Rattle.std.specs.Prelude.{◌≡◌, ℕ, ◌<◌, Bool, true, not, ◌&&◌, List, [], ◌∷◌, Some, ⊤}
use Rattle.std.specs.List.{list_any, list_all, AllByRecursion}
use Rattle.std.specs.Ordering.{eq_by_cmp}
use Rattle.wse_path.specs.Path.{Path}
use Rattle.wse_path.specs.Order.{path_cmp}
use Rattle.wse_path.specs.Tree.{Entries, set_files, IsTree}
use Rattle.wse_path.specs.declared.command.Choice.{Choice}
use Rattle.wse_path.specs.declared.command.Direction.{Direction}
use Rattle.wse_path.specs.declared.command.Direction.TheVariants.{Back, Forward}
use Rattle.wse_locks.specs.Locks.{Holders}
use Rattle.wse_element.specs.declared.effect.Effect.{Effect}
use Rattle.wse_element.specs.declared.effect.Effect.TheVariants.{Split}
use Rattle.wse_element.specs.Record.{Record, AreParts}
use Rattle.wse_element.specs.State.{StacksState}
use Rattle.wse_element.specs.Effects.{after, contents_set}
use Rattle.wse_element.specs.Applicable.{is_whole, is_closest, may_come}
use Rattle.wse_element.specs.Linked.{IsLinked}
use Rattle.wse_rules.specs.Ruling.{closest, one_ruling, ruling}
use Rattle.wse_rules.specs.declared.ruling.Cause.{Cause}
use Rattle.wse_rules.specs.declared.ruling.Ruling.TheVariants as rulings
use Rattle.wse_history.specs.Moves.{move_effect, close_each}
use Rattle.wse_element.specs.Way.{in_the_way}

-- The record is done where it is to be undone, and not where it is to be redone.
abbrev pub stands_for : Direction → Record → Bool
stands_for Back r = r.done
stands_for Forward r = not r.done

-- `may_go_back` and `may_go_forward` in one.
abbrev pub may_go : Direction → List Record → Record → Bool
may_go direction records r =
    stands_for direction r && is_whole r && list_all (λ part. is_closest r.id (closest direction records part.path)) r.parts

-- The records fit one another.
pub record AreLinked (h : StacksState) : Type 0 where
  pub parts : AllByRecursion (λ r. AreParts r.parts) h.records
  pub linked : IsLinked h.next_id h.records

-- A record that is ruled to go may be moved.
abbrev pub GoesMayCome : Type 0
GoesMayCome = (direction : Direction) (h : StacksState) (locks : Holders) (by : ℕ) (p : Path) (choice : Choice) (id : ℕ) → AreLinked h
    → ruling direction h.records locks by p choice ≡ rulings.Go id → may_come h (move_effect direction id) ≡ true

-- A record that is ruled to be split may be split.
abbrev pub SplitsMayCome : Type 0
SplitsMayCome = (direction : Direction) (h : StacksState) (locks : Holders) (by : ℕ) (p : Path) (choice : Choice) (id : ℕ) (cause : Cause) (files : List Path) → AreLinked h
    → ruling direction h.records locks by p choice ≡ rulings.Split id cause files → may_come h (Split id h.next_id) ≡ true

-- What a move leaves is a tree, where nothing is in its way.
abbrev pub MovesLeaveATree : Type 0
MovesLeaveATree = (direction : Direction) (h : StacksState) (id : ℕ) (files : Entries) → AreLinked h → may_come h (move_effect direction id) ≡ true → IsTree files
    → in_the_way files (contents_set h.records (move_effect direction id)) ≡ [] → IsTree (set_files (contents_set h.records (move_effect direction id)) files)

-- No path stands in the list twice.
abbrev pub are_distinct : List Path → Bool
are_distinct [] = true
are_distinct (p ∷ ps) = not (list_any (λ q. eq_by_cmp path_cmp q p) ps) && are_distinct ps

-- Each effect may come behind those before it, whatever the numbers.
abbrev pub AllMayCome : StacksState → List Effect → Type 0
AllMayCome h [] = ⊤
AllMayCome h (e ∷ es) = (may_come h e ≡ true) × AllMayCome (after h e) es

-- A record of one part that a split made, if it is ruled to go, may be moved.
abbrev pub PiecesMayGo : Type 0
PiecesMayGo = (direction : Direction) (h : StacksState) (locks : Holders) (by : ℕ) (p : Path) (choice : Choice) (id : ℕ) (cause : Cause) (files : List Path) (piece : Record) (moved : ℕ)
    → AreLinked h → 0 < h.next_id → ruling direction h.records locks by p choice ≡ rulings.Split id cause files
    → closest direction (after h (Split id h.next_id)).records p ≡ Some piece → one_ruling locks by p piece ≡ rulings.Go moved
    → may_come (after h (Split id h.next_id)) (move_effect direction moved) ≡ true

-- What is ruled to be flushed may be dropped, path by path.
abbrev pub FlushesMayCome : Type 0
FlushesMayCome = (direction : Direction) (h : StacksState) (locks : Holders) (by : ℕ) (p : Path) (choice : Choice) (cause : Cause) (files dropped : List Path) → AreLinked h
    → ruling direction h.records locks by p choice ≡ rulings.Flush cause files dropped → AllMayCome h (close_each h.records dropped)
