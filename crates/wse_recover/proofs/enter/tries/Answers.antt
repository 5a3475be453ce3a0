use Rattle.std.proofs.Common.{◌≡◌, ℕ, ◌+◌, sym, ap, ◌∙◌}
use Rattle.std.proofs.lemmas.Bool.{false≢true}
use Rattle.wse_element.specs.State.{StacksState}
use Rattle.wse_element.specs.Effects.{versions_after_each}
use Rattle.wse_element.specs.Numbers.{are_versions_bounded}
use Rattle.wse_recover.specs.Held.{held}
use Rattle.wse_recover.specs.Keeps.{all_keep}
use Rattle.wse_recover.proofs.KeepLemmas.{refused_by_two}
use Rattle.wse_recover.proofs.RiseLemmas.{bounded_more}
use Rattle.wse_recover.proofs.enter.tries.Goals as goal

pub returns-then-not-branch-clause-refused : goal.returns-then-not-branch-clause-refused
returns-then-not-branch-clause-refused c = λ _ none.
    c.in_ok-prepares.ensures.refused c.if-not-branch.true ((refused_by_two (held c.args.stacks.now c.args.versions.now) c.args.effects.now).records none)

pub raise_each-requires-clause-bounded : goal.raise_each-requires-clause-bounded
raise_each-requires-clause-bounded c =
    let serial = c.serial.ensures ∙ ap (λ (s : StacksState). s.serial) c.in_ok-prepares.ensures.state in
    ap (λ (n : ℕ). are_versions_bounded (n + 1) c.args.versions.now.entries) serial ∙ bounded_more c.args.stacks.now.state.serial c.args.versions.now.entries c.requires.bounded.versions

pub returns-then-not-branch-2-clause-refused : goal.returns-then-not-branch-2-clause-refused
returns-then-not-branch-2-clause-refused c = λ _ none.
    let serial = c.serial.ensures ∙ ap (λ (s : StacksState). s.serial) c.in_ok-prepares.ensures.state in
    let v = c.args.versions.now.entries in
    let same : all_keep (c.serial.result + 1) v c.as_slice.result.now ≡ all_keep (c.args.stacks.now.state.serial + 1) v c.args.effects.now = (λ i. all_keep (serial i + 1) v (c.as_slice.ensures i)) in
    absurd (false≢true (sym c.if-not-branch-2.true ∙ c.in_ok-raise_each.ensures.is ∙ same ∙ (refused_by_two (held c.args.stacks.now c.args.versions.now) c.args.effects.now).versions none))

pub returns-clause-may : goal.returns-clause-may
returns-clause-may c = λ _.
    let serial = c.serial.ensures ∙ ap (λ (s : StacksState). s.serial) c.in_ok-prepares.ensures.state in
    let v = c.args.versions.now.entries in
    let same : all_keep (c.serial.result + 1) v c.as_slice.result.now ≡ all_keep (c.args.stacks.now.state.serial + 1) v c.args.effects.now = (λ i. all_keep (serial i + 1) v (c.as_slice.ensures i)) in
    (refused_by_two (held c.args.stacks.now c.args.versions.now) c.args.effects.now).both (c.in_ok-prepares.ensures.applicable c.if-not-branch.false)
    (sym same ∙ sym c.in_ok-raise_each.ensures.is ∙ c.if-not-branch-2.false)

pub returns-clause-raised : goal.returns-clause-raised
returns-clause-raised c = λ _.
    let serial = c.serial.ensures ∙ ap (λ (s : StacksState). s.serial) c.in_ok-prepares.ensures.state in
    let v = c.raise_each.new.versions.entries in
    record {
      after = c.in_ok-raise_each.ensures.after c.if-not-branch-2.false ∙ ap (versions_after_each c.args.versions.now.entries) c.as_slice.ensures;
      bounded = ap (λ (n : ℕ). are_versions_bounded (n + 1) v) (sym serial) ∙ c.in_ok-raise_each.ensures.bounded c.if-not-branch-2.false;
      known = c.in_ok-raise_each.ensures.known c.if-not-branch-2.false;
    }
