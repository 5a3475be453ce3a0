use Rattle.std.proofs.Common.{◌++◌, ◌∙◌}
use Rattle.std.specs.Option.{option_to_list}
use Rattle.wse_edits.proofs.SpliceLemmas.{over_places-more}
use Rattle.wse_edits.proofs.slowly.edited_slowly.Goals as goal

pub loop-place-preserved : goal.loop-place-preserved
loop-place-preserved c =
    c.in_ok-put_byte.ensures
    ∙ (λ i. c.in_ok-put_in.ensures i ++ option_to_list (c.kept_byte.ensures i))
    ∙ over_places-more c.args.text.now c.args.enc c.args.edits.now c.loop-place.place _ c.loop-place.invariant
