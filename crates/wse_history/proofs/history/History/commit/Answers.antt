use Rattle.std.proofs.Common.{◌+◌, ◌-◌, ◌^◌, ◌<◌, ◌≤◌, Option, ◌∙◌, ap, sym, subst}
use Rattle.std.specs.List.{All}
use Rattle.std.specs.FinMap.{is_sorted}
use Rattle.wse_path.specs.Order.{path_cmp}
use Rattle.wse_path.specs.Tree.{set_files, IsTree}
use Rattle.wse_path.specs.Changes.{contents_of}
use Rattle.wse_path.specs.Versions.{version_of, bumped_by}
use Rattle.wse_element.specs.State.{State}
use Rattle.wse_stacks.specs.Turns.{Turned}
use Rattle.wse_history.specs.declared.room.Room.{Room}
use Rattle.wse_history.specs.History.{HistoryNow, state_in, IsHistory}
use Rattle.wse_history.specs.Planning.{entries_of, committed}
use Rattle.wse_history.specs.Reserved.{IsReadyIfAny}
use Rattle.wse_history.proofs.ReserveLemmas.{ready_for, sets_rise, sets_tree, plan_small, plan_some, after_is, history_then}
use Rattle.wse_history.proofs.history.History.commit.Goals as goal

pub set_all-requires-clause-rises : goal.set_all-requires-clause-rises
set_all-requires-clause-rises c =
    let a = c.self.inside in
    let s : State = state_in a.stacks.state a.versions.entries a.tree.files a.locks.entries in
    let is = ready_for c.args.self.now a.limits s a.stacks.turned a.stacks.prepared a.tree.spare a.versions.spare a.room c.in-Some.field-0 c.args.plan c.is_empty.result
    c.self.view_is c.requires.ready c.is_empty.ensures c.if-is_empty.false (sym c.take-room.ensures.value ∙ c.in-Some.is) c.self.invariant.1 in
    ap (is_sorted path_cmp) (c.into_contents.ensures ∙ ap contents_of c.into_vec.ensures) ∙ sets_rise a.limits s c.args.plan is.may

pub set_all-requires-clause-tree : goal.set_all-requires-clause-tree
set_all-requires-clause-tree c =
    let a = c.self.inside in
    let s : State = state_in a.stacks.state a.versions.entries a.tree.files a.locks.entries in
    let is = ready_for c.args.self.now a.limits s a.stacks.turned a.stacks.prepared a.tree.spare a.versions.spare a.room c.in-Some.field-0 c.args.plan c.is_empty.result
    c.self.view_is c.requires.ready c.is_empty.ensures c.if-is_empty.false (sym c.take-room.ensures.value ∙ c.in-Some.is) c.self.invariant.1 in
    subst (λ sets. IsTree (set_files sets a.tree.files)) (sym (c.into_contents.ensures ∙ ap contents_of c.into_vec.ensures)) (sets_tree a.limits s c.args.plan is.may)

pub bump_all-requires-clause-some : goal.bump_all-requires-clause-some
bump_all-requires-clause-some c =
    let a = c.self.inside in
    let s : State = state_in a.stacks.state a.versions.entries a.tree.files a.locks.entries in
    let is = ready_for c.args.self.now a.limits s a.stacks.turned a.stacks.prepared a.tree.spare a.versions.spare a.room c.in-Some.field-0 c.args.plan c.is_empty.result
    c.self.view_is c.requires.ready c.is_empty.ensures c.if-is_empty.false (sym c.take-room.ensures.value ∙ c.in-Some.is) c.self.invariant.1 in
    subst (All (λ b. 0 < b.1)) (sym is.bumps) (plan_some a.limits s c.args.plan is.may)

pub bump_all-requires-clause-small : goal.bump_all-requires-clause-small
bump_all-requires-clause-small c =
    let a = c.self.inside in
    let s : State = state_in a.stacks.state a.versions.entries a.tree.files a.locks.entries in
    let is = ready_for c.args.self.now a.limits s a.stacks.turned a.stacks.prepared a.tree.spare a.versions.spare a.room c.in-Some.field-0 c.args.plan c.is_empty.result
    c.self.view_is c.requires.ready c.is_empty.ensures c.if-is_empty.false (sym c.take-room.ensures.value ∙ c.in-Some.is) c.self.invariant.1 in
    subst (All (λ b. version_of a.versions.entries b.0 + b.1 ≤ 2 ^ 31 - 1)) (sym is.bumps) (plan_small a.limits s c.args.plan is.may)

pub invariant_of-self-in-Some : goal.invariant_of-self-in-Some
invariant_of-self-in-Some c =
    let a = c.self.inside in
    let s : State = state_in a.stacks.state a.versions.entries a.tree.files a.locks.entries in
    let is = ready_for c.args.self.now a.limits s a.stacks.turned a.stacks.prepared a.tree.spare a.versions.spare a.room c.in-Some.field-0 c.args.plan c.is_empty.result
    c.self.view_is c.requires.ready c.is_empty.ensures c.if-is_empty.false (sym c.take-room.ensures.value ∙ c.in-Some.is) c.self.invariant.1 in
    let after = after_is a.limits s c.args.plan is.may c.apply.new.self.state c.bump_all.new.self.entries c.set_all.new.self.files c.set_locks.new.locks.entries (entries_of c.args.locks)
    c.apply.ensures.state
    (c.bump_all.ensures.entries ∙ ap (λ bs. bumped_by bs a.versions.entries) is.bumps)
    (c.set_all.ensures.files ∙ ap (λ sets. set_files sets a.tree.files) (c.into_contents.ensures ∙ ap contents_of c.into_vec.ensures))
    c.set_locks.ensures in
    let next : State = state_in c.apply.new.self.state c.bump_all.new.self.entries c.set_all.new.self.files c.set_locks.new.locks.entries in (
      subst (λ (x : State). IsHistory x a.limits) (sym after) (history_then a.limits s c.args.plan (entries_of c.args.locks) is.may),
      subst (λ (o : Option Room). IsReadyIfAny a.limits next c.apply.new.self.prepared c.set_all.new.self.spare c.bump_all.new.self.spare o) (sym c.take-room.ensures.after) tt,
    )

pub returns-clause-state : goal.returns-clause-state
returns-clause-state c =
    let a = c.self.inside in
    let s : State = state_in a.stacks.state a.versions.entries a.tree.files a.locks.entries in
    let is = ready_for c.args.self.now a.limits s a.stacks.turned a.stacks.prepared a.tree.spare a.versions.spare a.room c.in-Some.field-0 c.args.plan c.is_empty.result
    c.self.view_is c.requires.ready c.is_empty.ensures c.if-is_empty.false (sym c.take-room.ensures.value ∙ c.in-Some.is) c.self.invariant.1 in
    after_is a.limits s c.args.plan is.may c.apply.new.self.state c.bump_all.new.self.entries c.set_all.new.self.files c.set_locks.new.locks.entries (entries_of c.args.locks)
    c.apply.ensures.state
    (c.bump_all.ensures.entries ∙ ap (λ bs. bumped_by bs a.versions.entries) is.bumps)
    (c.set_all.ensures.files ∙ ap (λ sets. set_files sets a.tree.files) (c.into_contents.ensures ∙ ap contents_of c.into_vec.ensures))
    c.set_locks.ensures
    ∙ ap (λ (h : HistoryNow). committed h.state c.args.plan (entries_of c.args.locks)) c.self.view_is

pub returns-clause-turns : goal.returns-clause-turns
returns-clause-turns c = λ _.
    subst (λ (h : HistoryNow). Turned h.state.records c.apply.new.self.state.records (version_of h.turned) (version_of c.apply.new.self.turned)) c.self.view_is c.apply.ensures.turns
