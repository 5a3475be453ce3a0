-- What a part in a state may hold.
use Rattle.std.proofs.Common.{◌≡◌, true, Some, None, refl}
use Rattle.wse_path.specs.Changes.{is_same}
use Rattle.wse_element.specs.declared.state.PartState.{PartState}
use Rattle.wse_element.specs.declared.state.PartState.TheVariants.{Live, Closed, Incompatible}
use Rattle.wse_element.specs.declared.body.Body.TheVariants.{Whole}
use Rattle.wse_element.specs.Content.{Content, no_contents}
use Rattle.wse_element.specs.Record.{IsBodyOf}
use Rattle.wse_element.proofs.PartLemmas.{differs}
use Rattle.wse_codec.specs.Reading.{may_hold}

emptied : (was is : Content) → may_hold Closed was is ≡ true → Whole was is ≡ no_contents
unfolding may_hold
emptied None None e = refl
emptied None (Some b) e = absurd cc
emptied (Some a) is e = absurd cc

pub may_hold_rule : (state : PartState) (was is : Content) → may_hold state was is ≡ true → IsBodyOf state (Whole was is)
unfolding may_hold
may_hold_rule Live was is e = (differs was is (is_same was is) refl).0 e
may_hold_rule Closed was is e = emptied was is e
may_hold_rule Incompatible was is e = emptied was is e
