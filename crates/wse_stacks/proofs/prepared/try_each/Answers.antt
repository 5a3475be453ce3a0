use Rattle.std.proofs.Common.{◌≡◌, ◌+◌, ◌^◌, ◌<◌, true, drop, ℕ, sym, ap, subst, ◌∙◌}
use Rattle.std.specs.Prelude.{option_map}
use Rattle.wse_element.specs.Effects.{after}
use Rattle.wse_stacks.specs.Draft.{DraftState, next_draft, is_next, first_stop}
use Rattle.wse_stacks.proofs.DraftLemmas.{drafts_more, stop_more, parts_more, bounded_next, id_bounds}
use Rattle.wse_stacks.proofs.prepared.try_each.Goals as goal

pub loop-at-preserved : goal.loop-at-preserved
loop-at-preserved c =
    let inv = c.loop-at.invariant in
    let d = c.args.draft.now in
    let now = c.loop-at.draft in
    let effects = c.args.effects.now in
    let i = c.loop-at.at in
    let e = c.index-effects-at.result in
    let next : is_next now e ≡ true = sym c.in_ok-try_next.ensures.next ∙ c.if-not-branch.false in
    let new = c.in_ok-try_next.ensures.after c.if-not-branch.false in
    record {
      draft = new ∙ ap (λ (x : DraftState). next_draft x e) inv.draft ∙ sym (drafts_more d effects i e c.loop-at-test.true c.index-effects-at.is);
      stop = stop_more now effects i e (first_stop d effects) c.loop-at-test.true c.index-effects-at.is inv.stop next ∙ ap (λ (x : DraftState). option_map (λ (n : ℕ). (i + 1) + n) (first_stop x (drop (i + 1) effects))) (sym new);
      parts = parts_more effects i e c.loop-at-test.true c.index-effects-at.is inv.parts (c.in_ok-try_next.ensures.parts c.if-not-branch.false);
      small = subst (λ (x : DraftState). x.state.next_id < 2 ^ 63) (sym new) (id_bounds (after now.state e) (bounded_next now e next)).small;
    }
