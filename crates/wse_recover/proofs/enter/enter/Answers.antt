use Rattle.std.proofs.Common.{◌≡◌, ℕ, ◌+◌, ap, ◌∙◌}
use Rattle.wse_element.specs.State.{StacksState}
use Rattle.wse_element.specs.Effects.{begun}
use Rattle.wse_element.specs.Numbers.{are_versions_bounded}
use Rattle.wse_recover.proofs.RiseLemmas.{serial_stays}
use Rattle.wse_recover.proofs.enter.enter.Goals as goal

pub returns-clause-bounded : goal.returns-clause-bounded
returns-clause-bounded c =
    let raised = c.in_ok-tries.ensures.raised c.if-not-branch.false in
    let now = c.tries.new.stacks.state in
    let serial : c.apply.new.self.state.serial ≡ c.args.stacks.now.state.serial + 1 =
    ap (λ (s : StacksState). s.serial) c.apply.ensures.state ∙ serial_stays (begun now) c.args.effects ∙ ap (λ (s : StacksState). s.serial + 1) c.in_ok-tries.ensures.state in
    record {
      versions = ap (λ (n : ℕ). are_versions_bounded n c.tries.new.versions.entries) serial ∙ raised.bounded;
      known = raised.known;
    }
