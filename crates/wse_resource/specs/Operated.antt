-- A resource operation as a whole: the tree that it leaves, or why it is refused.
use Rattle.std.specs.Prelude.{◌≡◌, List, Result, Ok, Err}
use Rattle.wse_path.specs.Path.{Path}
use Rattle.wse_path.specs.Tree.{Entries, content, IsTree}
use Rattle.wse_path.specs.Changes.{changes_between}
use Rattle.wse_path.specs.declared.change.Change.{Change}
use Rattle.wse_path.specs.declared.operation.ResourceOp.{ResourceOp}
use Rattle.wse_resource.specs.Table.{Outcome, outcome}
use Rattle.wse_resource.specs.Table.Outcome.{Nothing, Done, Refused}
use Rattle.wse_resource.specs.After.{after_operation, content_after}
use Rattle.wse_resource.specs.declared.refused.OpRefused.{OpRefused}

abbrev pub tree_by : Entries → ResourceOp → Outcome → Result Entries OpRefused
tree_by files op Nothing = Ok files
tree_by files op Done = Ok (after_operation files op)
tree_by files op (Refused why) = Err why

-- The tree after the operation, or why it is refused.
abbrev pub operated : Entries → ResourceOp → Result Entries OpRefused
operated files op = tree_by files op (outcome files op)

abbrev pub changes_to : Entries → Result Entries OpRefused → Result (List Change) OpRefused
changes_to files (Ok new) = Ok (changes_between files new)
changes_to files (Err why) = Err why

-- What the operation changes: just the difference of the two trees.
abbrev pub changed : Entries → ResourceOp → Result (List Change) OpRefused
changed files op = changes_to files (operated files op)

-- What is left is a tree, and what it has at each path.
pub record LeavesTree (files : Entries) (op : ResourceOp) : Type 0 where
  pub tree : (new : Entries) → operated files op ≡ Ok new → IsTree new
  pub each : outcome files op ≡ Done → (q : Path) → content (after_operation files op) q ≡ content_after files op q
