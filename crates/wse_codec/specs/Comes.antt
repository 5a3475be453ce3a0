-- When a command's plan may come in a state. This project's own rule.
use Rattle.std.specs.Prelude.{◌≡◌, None}
use Rattle.wse_path.specs.Tree.{IsTree}
use Rattle.wse_path.specs.Changes.{changes_between}
use Rattle.wse_element.specs.declared.plan.Plan.{Plan}
use Rattle.wse_element.specs.State.{State, kept_of}
use Rattle.wse_element.specs.Effects.{state_after}
use Rattle.wse_element.specs.Applicable.{first_refused_of_kept}
use Rattle.wse_codec.specs.Allowed.{IsAllowedRecord}

-- The plan may come in the state: its effects may be spelled and are applicable, they lead from a tree to a tree, and its
-- changes are what they do to the tree.
pub record MayCome (s : State) (plan : Plan) : Type 0 where
  pub some : IsAllowedRecord plan.effects
  pub applicable : first_refused_of_kept (kept_of s) plan.effects ≡ None
  pub old_tree : IsTree s.files
  pub new_tree : IsTree (state_after s plan.effects).files
  pub changes : plan.changes ≡ changes_between s.files (state_after s plan.effects).files
