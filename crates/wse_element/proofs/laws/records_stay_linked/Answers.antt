use Rattle.wse_element.proofs.EffectLemmas.{linked_after}
use Rattle.wse_element.proofs.KeptLemmas.{parts_after}
use Rattle.wse_element.proofs.laws.records_stay_linked.Goals as goal

pub returns : goal.returns
returns c = record { linked = linked_after; parts = λ h effect. parts_after h.records effect }
