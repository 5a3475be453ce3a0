use Rattle.std.proofs.Common.{◌≡◌, List, sym, ap, subst, ◌∙◌}
use Rattle.wse_element.specs.declared.effect.Effect.{Effect}
use Rattle.wse_element.specs.Record.{Record}
use Rattle.wse_element.specs.Effects.{after_each, contents_set}
use Rattle.wse_recover.specs.Sets.{meant, IsPlain}
use Rattle.wse_recover.proofs.SetsLemmas.{again, meant_set, named_next, all_taken, if_ok_then}
use Rattle.wse_recover.proofs.sets.set_behind.Goals as goal

pub loop-at-init : goal.loop-at-init
loop-at-init c = ap (meant c.args.before.now c.args.effect.now) c.in_ok-elements.ensures ∙ again c.args.before.now c.args.effect.now c.args.stacks.now.state.records

pub loop-at-preserved : goal.loop-at-preserved
loop-at-preserved c =
    let e = c.index-before-at.result in
    named_next c.args.stacks.now.state c.args.before.now c.args.effect.now c.loop-at.elements.items c.in_ok-elements-2.elements.items c.loop-at.at e c.loop-at-test.true c.index-before-at.is
    (subst IsPlain (sym c.index-before-at.is) (c.requires.plain c.loop-at.at e c.loop-at-test.true)) c.loop-at.invariant c.in_ok-elements-2.ensures

pub returns-clause-sets : goal.returns-clause-sets
returns-clause-sets c =
    let before = c.args.before.now in
    let effect = c.args.effect.now in
    let all = (after_each c.args.stacks.now.state before).records in
    let same = c.loop-at.invariant ∙ ap (λ (es : List Effect). meant before effect (after_each c.args.stacks.now.state es).records) (all_taken before c.loop-at.at c.loop-at-test.false) in
    if_ok_then c.contents_set.result (λ sets. sets ≡ contents_set c.as_slice.result.now effect) (λ sets. sets ≡ contents_set all effect)
    (λ sets is. is ∙ ap (λ (rs : List Record). contents_set rs effect) c.as_slice.ensures.value ∙ meant_set before effect c.loop-at.elements.items all same) c.contents_set.ensures.sets
