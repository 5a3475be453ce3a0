use Rattle.std.proofs.Common.{◌≤◌, All, IfSome, Option, sym, ap, subst, ◌∙◌, length}
use Rattle.std.specs.List.{AllAdjacentBelow}
use Rattle.std.specs.Option.{option_or}
use Rattle.std.specs.List.Sorted.{IsPermutation, IsSortedByKey, IsStableByKey}
use Rattle.std.specs.Ordering.{nat_cmp}
use Rattle.wse_splice.specs.declared.splice.Splice.{Splice}
use Rattle.wse_splice.specs.Splice.{Fits, LieBetweenCharacters, spliced}
use Rattle.wse_edits.specs.Edited.{splices_of}
use Rattle.wse_edits.specs.Range.{Rises}
use Rattle.wse_edits.specs.Refusal.{overlap_of}
use Rattle.wse_edits.specs.declared.range.TextRange.{TextRange}
use Rattle.wse_edits.proofs.OverlapLemmas.{Fits-from_none, none_from_neighbours}
use Rattle.wse_edits.proofs.RangeLemmas.{All-rise}
use Rattle.wse_edits.proofs.SpliceLemmas.{IsSorting-made, LieBetweenCharacters-sorted, spliced-sorted}
use Rattle.wse_edits.proofs.edits.resolve.Goals as goal

pub refuse_overlap-requires-clause-rise : goal.refuse_overlap-requires-clause-rise
refuse_overlap-requires-clause-rise c =
    subst (All (λ (range : Option TextRange). IfSome range Rises)) (sym c.deref-2.ensures.value) (All-rise c.args.text.now c.in_ok-ranges.ranges.items c.in_ok-ranges.ensures.within)

pub refuse_overlap-requires-clause-neighbours : goal.refuse_overlap-requires-clause-neighbours
refuse_overlap-requires-clause-neighbours c =
    let text = c.args.text.now in
    let enc = c.args.enc in
    let edits = c.args.edits.now in
    let ys = c.sort_by_start.new.splices.items in
    let sort = c.in_ok-sort_by_start.ensures in
    let sorting = IsSorting-made text enc edits c.deref.result.now c.in_ok-ranges.ranges.items _ ys c.deref.ensures.value c.in_ok-ranges.ensures.value c.in_ok-ranges.ensures.within c.in_ok-splices.ensures sort.permutation sort.sorted sort.stable in
    λ ordered.
    ap overlap_of (c.deref-2.ensures.value ∙ c.in_ok-ranges.ensures.value)
    ∙ none_from_neighbours text enc edits ys sorting (subst (λ ss. AllAdjacentBelow (λ (s t : Splice). s.end ≤ t.start) ss (length ss)) c.deref-3.ensures.value ordered)

pub returns : goal.returns
returns c =
    let text = c.args.text.now in
    let enc = c.args.enc in
    let edits = c.args.edits.now in
    let ys = c.sort_by_start.new.splices.items in
    let sort = c.in_ok-sort_by_start.ensures in
    let sorting = IsSorting-made text enc edits c.deref.result.now c.in_ok-ranges.ranges.items _ ys c.deref.ensures.value c.in_ok-ranges.ensures.value c.in_ok-ranges.ensures.within c.in_ok-splices.ensures sort.permutation sort.sorted sort.stable in
    let none = sym (ap overlap_of (c.deref-2.ensures.value ∙ c.in_ok-ranges.ensures.value)) ∙ c.in_ok-refuse_overlap.ensures.ok in
    let same = c.new.ensures in
    record {
      fits = subst (λ ss. Fits ss (length text)) (sym same) (Fits-from_none text enc edits ys sorting none);
      boundaries = subst (LieBetweenCharacters text) (sym same) (LieBetweenCharacters-sorted text enc edits c.in_ok-ranges.ranges.items ys c.in_ok-ranges.ensures.value c.in_ok-ranges.ensures.within sorting.permutation);
      text_after = ap (spliced text) same ∙ spliced-sorted text enc edits ys sorting;
      permutation = subst (IsPermutation (splices_of text enc edits)) (sym same) sorting.permutation;
      sorted = subst (IsSortedByKey (λ s. s.start) nat_cmp) (sym same) sorting.sorted;
      stable = subst (IsStableByKey (λ s. s.start) nat_cmp (splices_of text enc edits)) (sym same) sorting.stable;
      ok = (λ i. option_or (c.in_ok-ranges.ensures.ok i) (none i));
      err = tt;
    }
