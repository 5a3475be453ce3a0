use Rattle.std.proofs.Common.{◌≡◌, ◌++◌, ◌∷◌, [], List, length, true, false, sym, ap, ◌∙◌, append_assoc}
use Rattle.wse_element.specs.Record.{Record}
use Rattle.wse_stacks.specs.Fits.{fits}
use Rattle.wse_stacks.proofs.FitLemmas.{linked_push, linked_none, unfit_here}
use Rattle.wse_stacks.proofs.link.link.Goals as goal

pub loop-element-preserved : goal.loop-element-preserved
loop-element-preserved c =
    let inv = c.loop-element.invariant in
    let front = c.loop-element.yielded in
    let element = c.in-Some.element in
    let next = c.args.next_id in
    let fit : fits next front element ≡ true = ap (λ (rs : List Record). fits next rs element) (sym inv.records) ∙ sym c.fits.ensures ∙ c.if-not-fits.false in
    record {
      all = inv.all ∙ ap (λ (l : List Record). front ++ l) c.in-Some.ensures.steps.0 ∙ sym (append_assoc front (element ∷ []) c.next.new.self.rest.items);
      records = c.in_ok-linked.ensures ∙ ap (λ (rs : List Record). rs ++ element ∷ []) inv.records;
      linked = linked_push next front element inv.linked fit;
    }

pub loop-element-init : goal.loop-element-init
loop-element-init c = record {
  all = sym (c.into_iter-element-iterator.ensures.into_iter_gives.0 ∙ c.into_vec-element-items.ensures);
  records = c.new-linked.ensures;
  linked = linked_none c.args.next_id;
}

pub returns-then-not-fits-clause-unlinked : goal.returns-then-not-fits-clause-unlinked
returns-then-not-fits-clause-unlinked c =
    let inv = c.loop-element.invariant in
    let front = c.loop-element.yielded in
    let element = c.in-Some.element in
    let next = c.args.next_id in
    let unfit : fits next front element ≡ false = ap (λ (rs : List Record). fits next rs element) (sym inv.records) ∙ sym c.fits.ensures ∙ c.if-not-fits.true in
    unfit_here next c.args.elements front element c.next.new.self.rest.items c.len.result
    (inv.all ∙ ap (λ (l : List Record). front ++ l) c.in-Some.ensures.steps.0)
    (c.len.ensures ∙ ap (λ (rs : List Record). length rs) inv.records)
    inv.linked unfit
