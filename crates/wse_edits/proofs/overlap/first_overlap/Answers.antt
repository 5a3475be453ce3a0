use Rattle.std.proofs.Common.{sym, ◌∙◌, arith, ◌<◌, length}
use Rattle.wse_edits.proofs.FittingLemmas.{one_in_front, overlap_of-all_fit, overlap_of-fit_below}
use Rattle.wse_edits.proofs.overlap.first_overlap.Goals as goal

pub returns-then-second-ranges : goal.returns-then-second-ranges
returns-then-second-ranges c = sym (overlap_of-all_fit c.args.ranges.now c.in_ok-second.second (omega arith) c.in_ok-second.ensures.fit)

pub returns-in-Some : goal.returns-in-Some
returns-in-Some c =
    let within : c.in_ok-second.second < length c.args.ranges.now = let up = c.in_ok-second.ensures.within in omega arith in
    sym (overlap_of-fit_below c.args.ranges.now c.in-Some.first c.in_ok-second.second within c.in_ok-second.ensures.fit (sym c.first_overlapping.ensures ∙ c.in-Some.is))

pub returns-in-None : goal.returns-in-None
returns-in-None c =
    let within : c.in_ok-second.second < length c.args.ranges.now = let up = c.in_ok-second.ensures.within in omega arith in
    absurd (one_in_front c.args.ranges.now c.in_ok-second.second within c.in_ok-second.ensures.fit (c.in_ok-second.ensures.no_more within) (sym c.first_overlapping.ensures ∙ c.in-None.is))
