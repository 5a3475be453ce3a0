use Rattle.std.proofs.Common.{ℕ, List, sym, ap, subst, ◌∙◌}
use Rattle.wse_path.specs.Path.{Path}
use Rattle.wse_element.specs.Record.{Record}
use Rattle.wse_element.specs.State.{StacksState}
use Rattle.wse_stacks.specs.declared.prepared.Prepared.{Prepared}
use Rattle.wse_stacks.specs.Draft.{DraftState, first_stop, next_drafts}
use Rattle.wse_stacks.specs.Turns.{AreNoted}
use Rattle.wse_stacks.proofs.DraftLemmas.{stops_where_refused}
use Rattle.wse_stacks.proofs.PreparedLemmas.{Found, is_prepared}
use Rattle.wse_stacks.proofs.prepare.prepare.Goals as goal

pub returns-in-Some-clause-refused : goal.returns-in-Some-clause-refused
returns-in-Some-clause-refused c =
    let h : StacksState = record { records = c.args.records.now; next_id = c.args.next_id; serial = c.args.serial } in
    let effects = c.args.effects.now in
    stops_where_refused h effects ∙ ap (λ (d : DraftState). first_stop d effects) (sym c.in_ok-draft.ensures) ∙ sym c.in_ok-index.ensures.stop ∙ c.in-Some.is

pub returns-clause-applicable : goal.returns-clause-applicable
returns-clause-applicable c =
    let h : StacksState = record { records = c.args.records.now; next_id = c.args.next_id; serial = c.args.serial } in
    let effects = c.args.effects.now in
    stops_where_refused h effects ∙ ap (λ (d : DraftState). first_stop d effects) (sym c.in_ok-draft.ensures) ∙ sym c.in_ok-index.ensures.stop ∙ c.in_default.is

pub returns-clause-prepared : goal.returns-clause-prepared
returns-clause-prepared c =
    let h : StacksState = record { records = c.args.records.now; next_id = c.args.next_id; serial = c.args.serial } in
    let effects = c.args.effects.now in
    let d = c.try_each.new.draft in
    let ns = c.in_ok-noted.noted.entries in
    let old = c.as_slice.result.now in
    let new = c.entries.result.now in
    let one = subst (λ (ps : List Path). AreNoted old new ps ns) c.touched.ensures c.in_ok-noted.ensures in
    let two = subst (λ (rs : List Record). AreNoted old rs d.touched ns) c.entries.ensures one in
    let three = subst (λ (rs : List Record). AreNoted rs d.state.records d.touched ns) c.as_slice.ensures.value two in
    let found : Found h effects d ns = record {
      history = c.requires.history;
      some = c.requires.some;
      goes = ap (λ (x : DraftState). first_stop x effects) (sym c.in_ok-draft.ensures) ∙ sym c.in_ok-index.ensures.stop ∙ c.in_default.is;
      parts = c.in_ok-index.ensures.parts c.in_default.is;
      draft = c.in_ok-index.ensures.after c.in_default.is ∙ ap (λ (x : DraftState). next_drafts x effects) c.in_ok-draft.ensures;
      rises = c.in_ok-noted.noted.rises;
      marks = three;
    } in
    let p : Prepared = record { effects = c.in_ok-effects.effects; records = c.finish-records.result.0; next_id = c.finish-records.result.1; turned = c.in_ok-turned.turned } in
    is_prepared h effects d ns p found c.in_ok-effects.ensures
    (ap (λ (x : List Record × ℕ). x.0) c.finish-records.ensures)
    (ap (λ (x : List Record × ℕ). x.1) c.finish-records.ensures)
    (c.in_ok-turned.ensures ∙ c.as_slice-2.ensures)
