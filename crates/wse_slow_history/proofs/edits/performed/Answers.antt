use Rattle.std.proofs.Common.{sym, subst, ap, ◌∙◌}
use Rattle.std.proofs.lemmas.Result.{IfOk-weaker}
use Rattle.std.specs.FinMap.{is_sorted}
use Rattle.wse_path.specs.Order.{path_cmp}
use Rattle.wse_path.specs.Tree.{IsTree}
use Rattle.wse_path.specs.Versions.{Numbers}
use Rattle.wse_element.specs.Numbers.{are_some, are_versions_bounded}
use Rattle.wse_element.specs.State.{kept_of, stacks_of}
use Rattle.wse_apply.specs.Performed.{performed}
use Rattle.wse_slow_history.specs.Slow.{state_of}
use Rattle.wse_slow_history.proofs.HeldLemmas.{serial_small}
use Rattle.wse_slow_history.proofs.edits.performed.Goals as goal

pub tree_of-requires : goal.tree_of-requires
tree_of-requires c = subst IsTree (sym c.as_slice.ensures.value) c.requires.linked.tree

pub versions_of-requires-clause-rise : goal.versions_of-requires-clause-rise
versions_of-requires-clause-rise c = ap (λ (vs : Numbers). is_sorted path_cmp vs) c.as_slice-2.ensures.value ∙ c.requires.linked.kept.rise

pub versions_of-requires-clause-some : goal.versions_of-requires-clause-some
versions_of-requires-clause-some c = ap (λ (vs : Numbers). are_some vs) c.as_slice-2.ensures.value ∙ c.requires.linked.kept.some

pub versions_of-requires-clause-bounded : goal.versions_of-requires-clause-bounded
versions_of-requires-clause-bounded c = ap (λ (vs : Numbers). are_versions_bounded c.args.state.now.serial vs) c.as_slice-2.ensures.value ∙ c.requires.linked.kept.versions

pub versions_of-requires-clause-small : goal.versions_of-requires-clause-small
versions_of-requires-clause-small c = serial_small (stacks_of (kept_of (state_of c.args.state.now))) c.requires.linked.kept.bounded

pub returns : goal.returns
returns c =
    let s = state_of c.args.state.now in
    IfOk-weaker c.performed_slowly.result _ _
    (λ done is. is ∙ (λ i. performed ((c.in_ok-tree.ensures ∙ c.as_slice.ensures.value) i) ((c.in_ok-versions.ensures ∙ c.as_slice-2.ensures.value) i) s.locks c.args.limits.now c.args.by c.args.edit.now))
    c.performed_slowly.ensures
