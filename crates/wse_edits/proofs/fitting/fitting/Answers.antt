use Rattle.std.proofs.Common.{◌+◌, List, subst, sym}
use Rattle.wse_edits.specs.declared.fitting.NumberedRange.{NumberedRange}
use Rattle.wse_edits.specs.Fitting.{FollowBelow}
use Rattle.wse_edits.proofs.FittingLemmas.{AreSorted-made, FitBelow-from_follow, follow_from_FitBelow}
use Rattle.wse_edits.proofs.fitting.fitting.Goals as goal

pub returns-clause-fit : goal.returns-clause-fit
returns-clause-fit c =
    let front = c.longest_front.result in
    let sort = c.in_ok-sort_by_start.ensures in
    let sorting = AreSorted-made c.args.ranges.now c.in_ok-sorted.sorted.items c.sort_by_start.new.ranges.items c.in_ok-sorted.ensures sort.permutation sort.sorted sort.stable c.requires in
    FitBelow-from_follow sorting front c.longest_front.ensures.within (subst (FollowBelow front) c.deref.ensures.value c.longest_front.ensures.follow)

pub returns-clause-no_more : goal.returns-clause-no_more
returns-clause-no_more c =
    let front = c.longest_front.result in
    let sort = c.in_ok-sort_by_start.ensures in
    let sorting = AreSorted-made c.args.ranges.now c.in_ok-sorted.sorted.items c.sort_by_start.new.ranges.items c.in_ok-sorted.ensures sort.permutation sort.sorted sort.stable c.requires in
    λ less fit. c.longest_front.ensures.no_more less (subst (λ (xs : List NumberedRange). FollowBelow (front + 1) xs) (sym c.deref.ensures.value) (follow_from_FitBelow sorting (front + 1) fit))
