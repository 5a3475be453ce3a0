use Rattle.std.proofs.Common.{length, drop, List, sym, subst}
use Rattle.wse_element.specs.Record.{RecordPart, AreParts}
use Rattle.wse_element.specs.Losses.{part_lost_at}
use Rattle.wse_element.proofs.StepLemmas.{written_back}
use Rattle.wse_element.proofs.KeptLemmas.{parts_lost}
use Rattle.wse_element.proofs.element.Element.lose_at.Goals as goal

pub invariant_of-self : goal.invariant_of-self
invariant_of-self c =
    let parts = c.self.inside.parts in
    let new = c.lose_each.new.parts in
    let f = part_lost_at c.args.path.now c.args.state in
    subst (λ (ps : List RecordPart). AreParts ps) (sym (written_back f parts.len parts.items c.deref_mut.result.now new (drop (length new) parts.items) c.lose_each.ensures c.deref_mut.ensures.value (sym c.deref_mut.ensures.len)))
    (parts_lost c.args.path.now c.args.state parts.items c.self.invariant)
