use Rattle.std.proofs.Common.{◌+◌, Option, sym, subst, ◌∙◌}
use Rattle.wse_path.specs.Versions.{version_of}
use Rattle.wse_element.specs.State.{StacksState}
use Rattle.wse_stacks.specs.declared.prepared.Prepared.{Prepared}
use Rattle.wse_stacks.specs.Stacks.{StacksNow, turns}
use Rattle.wse_stacks.specs.Turns.{Turned}
use Rattle.wse_stacks.specs.Prepared.{AreStacks}
use Rattle.wse_stacks.proofs.PreparedLemmas.{ready_of, are_stacks_then, turned_then}
use Rattle.wse_stacks.proofs.stacks.Stacks.apply.Goals as goal

pub invariant_of-self : goal.invariant_of-self
invariant_of-self c =
    let a = c.self.inside in
    let p = c.in-Some.prepared in
    let h : StacksState = record { records = a.records; next_id = a.next_id; serial = a.serial } in
    let ready = ready_of h a.turned.spare a.prepared p (sym c.take.ensures.value ∙ c.in-Some.is) c.self.invariant.ready in
    subst (λ (o : Option Prepared). AreStacks (record { records = p.records; next_id = p.next_id; serial = a.serial + 1 }) c.bump_all.new.self o) (sym c.take.ensures.after)
    (are_stacks_then h a.turned c.bump_all.new.self p c.self.invariant.counted ready.0 c.bump_all.ensures.entries)

pub returns-clause-turns : goal.returns-clause-turns
returns-clause-turns c =
    let a = c.self.inside in
    let p = c.in-Some.prepared in
    let h : StacksState = record { records = a.records; next_id = a.next_id; serial = a.serial } in
    let ready = ready_of h a.turned.spare a.prepared p (sym c.take.ensures.value ∙ c.in-Some.is) c.self.invariant.ready in
    subst (λ (s : StacksNow). Turned s.state.records p.records (turns s) (version_of c.bump_all.new.self.entries)) c.self.view_is
    (turned_then h a.turned c.bump_all.new.self p ready.0 c.bump_all.ensures.entries)
