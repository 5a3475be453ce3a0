use Rattle.std.proofs.Common.{List, None, IfOk, sym, ap, subst, ◌∙◌}
use Rattle.std.specs.Prelude.{filter}
use Rattle.std.specs.List.{list_any}
use Rattle.std.specs.Option.{option_copied, option_map_or}
use Rattle.wse_path.specs.Path.{Path}
use Rattle.wse_element.specs.Live.{is_live_at}
use Rattle.wse_element.specs.Record.{RecordPart}
use Rattle.wse_element.specs.Stacks.{record_of}
use Rattle.wse_element.specs.State.{StacksState}
use Rattle.wse_rules.specs.Ruling.{closest}
use Rattle.wse_rules.specs.declared.ruling.Ruling.TheVariants as rulings
use Rattle.wse_history.specs.declared.answer.MoveEnd.TheVariants as ends
use Rattle.wse_history.specs.Moves.{begun_course}
use Rattle.wse_history.specs.Moving.{moved_outcome, closed_outcome, MayMove, MayClose}
use Rattle.wse_history.specs.Outcome.{Outcome}
use Rattle.wse_history.specs.Planning.{PlansAsOutcome}
use Rattle.wse_history.proofs.GoneLemmas.{gone_whole, whole_moves}
use Rattle.wse_history.proofs.MoveLemmas.{move_is, ruled_here, none_moves, none_splits}
use Rattle.wse_history.proofs.ShapeLemmas.{now, linked_now}
use Rattle.wse_history.proofs.SplitLemmas.{flush_closes}
use Rattle.wse_history.proofs.UndoLemmas.{goes_here}
use Rattle.wse_history.proofs.moves.plan_move.Goals as goal

pub plan_go-requires : goal.plan_go-requires
plan_go-requires c =
    let a = c.args in
    let s = a.history.now.state in
    let limits = a.history.now.limits in
    let set = c.limits.ensures.kept in
    let stacks = c.stacks-stacks.ensures.state in
    let rule = ruled_here s a.by a.direction a.path.now a.choice.now c.in_ok-choice.choice c.stacks-stacks.result.now.state c.locks.result.now.entries c.in_ok-verdict.field-0 stacks c.locks.ensures c.in_ok-choice.ensures c.in_ok-verdict.ensures.ruling ∙ c.in-Go.is in
    let found = sym (ap (λ (h : StacksState). record_of h.records c.in-Go.id) stacks) ∙ sym c.element.ensures ∙ ap option_copied c.in-Some.is in
    subst (λ (parts : List RecordPart). MayMove limits s (record { direction = a.direction; id = c.asked_id.result; split = None }) c.in-Go.id parts) (sym c.parts.ensures.parts)
    (whole_moves limits s a.direction c.asked_id.result c.in-Go.id c.in-Some.element.now set found (goes_here a.direction s a.by a.path.now a.choice.now c.in-Go.id (linked_now limits s set) rule))

pub unreachable-requires : goal.unreachable-requires
unreachable-requires c =
    let a = c.args in
    let s = a.history.now.state in
    let limits = a.history.now.limits in
    let stacks = c.stacks-stacks.ensures.state in
    let rule = ruled_here s a.by a.direction a.path.now a.choice.now c.in_ok-choice.choice c.stacks-stacks.result.now.state c.locks.result.now.entries c.in_ok-verdict.field-0 stacks c.locks.ensures c.in_ok-choice.ensures c.in_ok-verdict.ensures.ruling ∙ c.in-Go.is in
    none_moves a.direction (now s) c.in-Go.id (sym (ap (λ (h : StacksState). record_of h.records c.in-Go.id) stacks) ∙ sym c.element.ensures ∙ ap option_copied c.in-None.is)
    (goes_here a.direction s a.by a.path.now a.choice.now c.in-Go.id (linked_now limits s c.limits.ensures.kept) rule)

pub plan_closed-requires : goal.plan_closed-requires
plan_closed-requires c =
    let a = c.args in
    let s = a.history.now.state in
    let limits = a.history.now.limits in
    let stacks = c.stacks-stacks.ensures.state in
    let rule = ruled_here s a.by a.direction a.path.now a.choice.now c.in_ok-choice.choice c.stacks-stacks.result.now.state c.locks.result.now.entries c.in_ok-verdict.field-0 stacks c.locks.ensures c.in_ok-choice.ensures c.in_ok-verdict.ensures.ruling ∙ c.in-Flush.is in
    let paths = c.as_slice-in-Flush.ensures.value ∙ c.in_ok-paths-in-Flush.ensures ∙ (λ i. filter (λ (q : Path). list_any (is_live_at q) (stacks i).records) (c.as_slice.ensures i)) in
    subst (λ (ps : List Path). MayClose limits s (record { direction = a.direction; id = c.asked_id.result; split = None }) ps) (sym paths)
    (flush_closes limits s a.by a.direction a.path.now a.choice.now c.in-Flush.cause c.in-Flush.files c.in-Flush.dropped c.asked_id.result c.limits.ensures.kept rule)

pub unreachable-requires-in-None-element : goal.unreachable-requires-in-None-element
unreachable-requires-in-None-element c =
    let a = c.args in
    let s = a.history.now.state in
    let stacks = c.stacks-stacks.ensures.state in
    let rule = ruled_here s a.by a.direction a.path.now a.choice.now c.in_ok-choice.choice c.stacks-stacks.result.now.state c.locks.result.now.entries c.in_ok-verdict.field-0 stacks c.locks.ensures c.in_ok-choice.ensures c.in_ok-verdict.ensures.ruling ∙ c.in-Split.is in
    none_splits a.direction (now s) s.locks a.by a.path.now a.choice.now c.in-Split.id c.in-Split.cause c.in-Split.files (linked_now a.history.now.limits s c.limits.ensures.kept) rule
    (sym (ap (λ (h : StacksState). record_of h.records c.in-Split.id) stacks) ∙ sym c.element-in-Split.ensures ∙ ap option_copied c.in-None-element.is)

pub returns-in-Nothing-clause-planned : goal.returns-in-Nothing-clause-planned
returns-in-Nothing-clause-planned c =
    let a = c.args in
    let s = a.history.now.state in
    let rule = ruled_here s a.by a.direction a.path.now a.choice.now c.in_ok-choice.choice c.stacks-stacks.result.now.state c.locks.result.now.entries c.in_ok-verdict.field-0 c.stacks-stacks.ensures.state c.locks.ensures c.in_ok-choice.ensures c.in_ok-verdict.ensures.ruling ∙ c.in-Nothing.is in
    subst (λ (o : Outcome). PlansAsOutcome s o c.ended.result) (move_is a.history.now.limits s a.by a.direction a.path.now a.choice.now rulings.Nothing rule) (c.ended.ensures.planned s)

pub returns-in-Nothing-clause-may : goal.returns-in-Nothing-clause-may
returns-in-Nothing-clause-may c = c.ended.ensures.may c.args.history.now.limits c.args.history.now.state

pub returns-in-Cancelled-clause-planned : goal.returns-in-Cancelled-clause-planned
returns-in-Cancelled-clause-planned c =
    let a = c.args in
    let s = a.history.now.state in
    let rule = ruled_here s a.by a.direction a.path.now a.choice.now c.in_ok-choice.choice c.stacks-stacks.result.now.state c.locks.result.now.entries c.in_ok-verdict.field-0 c.stacks-stacks.ensures.state c.locks.ensures c.in_ok-choice.ensures c.in_ok-verdict.ensures.ruling ∙ c.in-Cancelled.is in
    subst (λ (o : Outcome). PlansAsOutcome s o c.ended-in-Cancelled.result) (move_is a.history.now.limits s a.by a.direction a.path.now a.choice.now (rulings.Cancelled c.in-Cancelled.id) rule) (c.ended-in-Cancelled.ensures.planned s)

pub returns-in-Cancelled-clause-may : goal.returns-in-Cancelled-clause-may
returns-in-Cancelled-clause-may c = c.ended-in-Cancelled.ensures.may c.args.history.now.limits c.args.history.now.state

pub returns-in-Locked-clause-planned : goal.returns-in-Locked-clause-planned
returns-in-Locked-clause-planned c =
    let a = c.args in
    let s = a.history.now.state in
    let rule = ruled_here s a.by a.direction a.path.now a.choice.now c.in_ok-choice.choice c.stacks-stacks.result.now.state c.locks.result.now.entries c.in_ok-verdict.field-0 c.stacks-stacks.ensures.state c.locks.ensures c.in_ok-choice.ensures c.in_ok-verdict.ensures.ruling ∙ c.in-Locked.is in
    subst (λ (o : Outcome). PlansAsOutcome s o c.ended-in-Locked.result) (move_is a.history.now.limits s a.by a.direction a.path.now a.choice.now (rulings.Locked c.in-Locked.files) rule) (c.ended-in-Locked.ensures.planned s)

pub returns-in-Locked-clause-may : goal.returns-in-Locked-clause-may
returns-in-Locked-clause-may c = c.ended-in-Locked.ensures.may c.args.history.now.limits c.args.history.now.state

pub returns-in-Some-clause-planned : goal.returns-in-Some-clause-planned
returns-in-Some-clause-planned c =
    let a = c.args in
    let s = a.history.now.state in
    let limits = a.history.now.limits in
    let stacks = c.stacks-stacks.ensures.state in
    let rule = ruled_here s a.by a.direction a.path.now a.choice.now c.in_ok-choice.choice c.stacks-stacks.result.now.state c.locks.result.now.entries c.in_ok-verdict.field-0 stacks c.locks.ensures c.in_ok-choice.ensures c.in_ok-verdict.ensures.ruling ∙ c.in-Go.is in
    let found = sym (ap (λ (h : StacksState). record_of h.records c.in-Go.id) stacks) ∙ sym c.element.ensures ∙ ap option_copied c.in-Some.is in
    let asked = c.asked_id.ensures ∙ ap (λ (h : StacksState). option_map_or (λ r. r.id) (closest a.direction h.records a.path.now) 0) stacks in
    subst (λ (o : Outcome). IfOk c.plan_go.result (PlansAsOutcome s o))
    ((λ i. moved_outcome limits s (record { direction = a.direction; id = asked i; split = None }) c.in-Go.id (c.parts.ensures.parts i))
    ∙ gone_whole limits s a.direction (begun_course s a.direction a.path.now).asked c.in-Go.id c.in-Some.element.now found
    ∙ move_is limits s a.by a.direction a.path.now a.choice.now (rulings.Go c.in-Go.id) rule)
    c.plan_go.ensures.planned

pub returns-in_ok-paths-in-Flush-clause-planned : goal.returns-in_ok-paths-in-Flush-clause-planned
returns-in_ok-paths-in-Flush-clause-planned c =
    let a = c.args in
    let s = a.history.now.state in
    let limits = a.history.now.limits in
    let stacks = c.stacks-stacks.ensures.state in
    let rule = ruled_here s a.by a.direction a.path.now a.choice.now c.in_ok-choice.choice c.stacks-stacks.result.now.state c.locks.result.now.entries c.in_ok-verdict.field-0 stacks c.locks.ensures c.in_ok-choice.ensures c.in_ok-verdict.ensures.ruling ∙ c.in-Flush.is in
    let paths = c.as_slice-in-Flush.ensures.value ∙ c.in_ok-paths-in-Flush.ensures ∙ (λ i. filter (λ (q : Path). list_any (is_live_at q) (stacks i).records) (c.as_slice.ensures i)) in
    let asked = c.asked_id.ensures ∙ ap (λ (h : StacksState). option_map_or (λ r. r.id) (closest a.direction h.records a.path.now) 0) stacks in
    subst (λ (o : Outcome). IfOk c.plan_closed.result (PlansAsOutcome s o))
    ((λ i. closed_outcome limits s (record { direction = a.direction; id = asked i; split = None }) (paths i) (ends.Flushed c.in-Flush.cause c.in-Flush.files c.in-Flush.dropped))
    ∙ move_is limits s a.by a.direction a.path.now a.choice.now (rulings.Flush c.in-Flush.cause c.in-Flush.files c.in-Flush.dropped) rule)
    c.plan_closed.ensures.planned
