use Rattle.std.proofs.Common.{ℕ, List, Option, sym, subst, ◌∙◌}
use Rattle.wse_element.specs.Record.{Record}
use Rattle.wse_element.specs.State.{StacksState}
use Rattle.wse_element.specs.Linked.{IsLinked}
use Rattle.wse_stacks.specs.Fits.{IsFirstUnfit}
use Rattle.wse_stacks.proofs.FitLemmas.{unfit_unlinked, whole_unlinked}
use Rattle.wse_stacks.proofs.PreparedLemmas.{fresh}
use Rattle.wse_stacks.proofs.stacks.Stacks.from_elements.Goals as goal

pub returns-in-Some-clause-refused : goal.returns-in-Some-clause-refused
returns-in-Some-clause-refused c =
    unfit_unlinked (record { records = c.args.elements; next_id = c.args.next_id; serial = c.args.serial }) c.in-Some.index
    (subst (λ (o : Option ℕ). IsFirstUnfit c.args.next_id c.args.elements o) c.in-Some.is c.in_ok-index.ensures.unlinked)

pub returns-in-Some-clause-unlinked : goal.returns-in-Some-clause-unlinked
returns-in-Some-clause-unlinked c =
    let h : StacksState = record { records = c.args.elements; next_id = c.args.next_id; serial = c.args.serial } in
    whole_unlinked h c.in-Some.index
    (unfit_unlinked h c.in-Some.index (subst (λ (o : Option ℕ). IsFirstUnfit c.args.next_id c.args.elements o) c.in-Some.is c.in_ok-index.ensures.unlinked))

pub invariant_of-result : goal.invariant_of-result
invariant_of-result c =
    let both = c.in_ok-index.ensures.linked c.in_default.is in
    let h : StacksState = record { records = c.link.new.records; next_id = c.args.next_id; serial = c.args.serial } in
    fresh h c.new.result
    (record {
      parts = c.rule.ensures;
      linked = subst (λ (rs : List Record). IsLinked c.args.next_id rs) (sym both.0) both.1;
      bounded = sym c.is_bounded.ensures ∙ c.if-not-is_bounded.false;
    })
    c.new.ensures
