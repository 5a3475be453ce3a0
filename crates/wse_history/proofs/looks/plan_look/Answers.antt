use Rattle.std.proofs.Common.{length, option_map, ap, subst, ◌∙◌}
use Rattle.std.specs.Option.{option_and_then}
use Rattle.wse_path.specs.Tree.{Entries, content}
use Rattle.wse_path.specs.Versions.{Numbers, version_of}
use Rattle.wse_locks.specs.Locks.{Holders, holder}
use Rattle.wse_element.specs.Record.{Record}
use Rattle.wse_element.specs.State.{StacksState}
use Rattle.wse_element.specs.Stacks.{closest_past, closest_future}
use Rattle.wse_history.specs.declared.answer.Answer.TheVariants.{Look}
use Rattle.wse_history.specs.Looking.{text_in}
use Rattle.wse_history.specs.Outcome.{Outcome, stays}
use Rattle.wse_history.specs.Planning.{PlansAsOutcome}
use Rattle.wse_history.proofs.looks.plan_look.Goals as goal

pub returns-clause-planned : goal.returns-clause-planned
returns-clause-planned c =
    let s = c.args.history.now.state in
    let p = c.args.path.now in
    let there = c.get-content.ensures ∙ ap (λ (fs : Entries). content fs p) c.tree.ensures in
    let bytes = c.len_of-bytes.ensures ∙ ap (option_map length) there in
    let text = c.in_ok-text.ensures ∙ ap (option_and_then text_in) there in
    let version = c.get.ensures ∙ ap (λ (vs : Numbers). version_of vs p) c.versions.ensures in
    let past = c.closest_past.ensures ∙ ap (λ (h : StacksState). option_map (λ (r : Record). r.id) (closest_past h.records p)) c.stacks.ensures.state in
    let future = c.closest_future.ensures ∙ ap (λ (h : StacksState). option_map (λ (r : Record). r.id) (closest_future h.records p)) c.stacks-2.ensures.state in
    let by = c.holder.ensures ∙ ap (λ (es : Holders). holder es p) c.locks.ensures in
    subst (λ (o : Outcome). PlansAsOutcome s o c.stays.result) (λ i. stays (Look (bytes i) (text i) (version i) (past i) (future i) (by i))) (c.stays.ensures.planned s)

pub returns-clause-may : goal.returns-clause-may
returns-clause-may c = c.stays.ensures.may c.args.history.now.limits c.args.history.now.state
