-- Effects that may apply, and are short enough to be written, may be recorded.
use Rattle.std.proofs.Common.{◌≡◌, true, List}
use Rattle.std.specs.List.{All}
use Rattle.std.specs.FinMap.{is_sorted}
use Rattle.wse_path.specs.Order.{path_cmp}
use Rattle.wse_path.specs.Changes.{changes_between}
use Rattle.wse_path.specs.declared.change.Change.{Change}
use Rattle.wse_path.specs.declared.limits.Limits.{Limits}
use Rattle.wse_element.specs.declared.effect.Effect.{Effect}
use Rattle.wse_element.specs.State.{State}
use Rattle.wse_element.specs.Effects.{state_after}
use Rattle.wse_codec.specs.Allowed.{IsSpellable}
use Rattle.wse_history.specs.History.{IsHistory}
use Rattle.wse_history.specs.Laws.{MayApply}
use Rattle.wse_history.specs.Planning.{bumps_in, MayRecord}
use Rattle.wse_history.specs.Written.{IsWrittenEffect}
use Rattle.wse_history.proofs.AllowedLemmas.{allowed}

pub may_record : (limits : Limits) (s : State) (effects : List Effect) (changes : List Change) → IsHistory s limits → MayApply limits s effects → All IsWrittenEffect effects → IsSpellable effects
    → is_sorted path_cmp (bumps_in effects) ≡ true → changes ≡ changes_between s.files (state_after s effects).files → MayRecord limits s (record { effects = effects; changes = changes })
may_record limits s effects changes history may written spells rises are = record {
  spells = spells;
  comes = record {
    some = allowed effects written spells;
    applicable = may.applicable;
    old_tree = history.linked.tree;
    new_tree = may.state.linked.tree;
    changes = are;
  };
  rises = rises;
  next = may.state;
}
