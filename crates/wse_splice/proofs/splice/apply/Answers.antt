use Rattle.std.proofs.Common.{rules, ◌∙◌, All, sym, subst}
use Rattle.std.specs.Str.{IsUtf8}
use Rattle.std.proofs.lemmas.List.{take_all}
use Rattle.std.proofs.lemmas.List.Elements.{All-more, All-nil}
use Rattle.wse_splice.specs.declared.splice.Splice.{Splice}
use Rattle.wse_splice.proofs.SpliceLemmas.{IsMadeUpTo-start, IsMadeUpTo-step, IsMadeUpTo-bounds, IsMadeUpTo-end, FitsFrom-within}
use Rattle.wse_splice.proofs.Utf8Lemmas.{IsUtf8-spliced}
use Rattle.wse_splice.proofs.splice.apply.Goals as goal

pub loop-splice-init : goal.loop-splice-init
loop-splice-init c = record {
  made = rw c.new-after.ensures.items (IsMadeUpTo-start c.args.text.now c.args.splices.now c.requires);
  texts = All-nil (λ (s : Splice). IsUtf8 s.text);
}

pub slice_bounds-extend_from_slice-count : goal.slice_bounds-extend_from_slice-count
slice_bounds-extend_from_slice-count c =
    let bounds = IsMadeUpTo-bounds _ _ _ _ _ _ c.loop-splice.invariant.made c.loop-splice-test.true c.splice-item.is in
    search rules

pub slice_bounds-extend_from_slice-start : goal.slice_bounds-extend_from_slice-start
slice_bounds-extend_from_slice-start c =
    let bounds = IsMadeUpTo-bounds _ _ _ _ _ _ c.loop-splice.invariant.made c.loop-splice-test.true c.splice-item.is in
    search rules

pub loop-splice-preserved : goal.loop-splice-preserved
loop-splice-preserved c = record {
  made =
      rw (c.in_ok-extend_from_slice-2.ensures.items, c.in_ok-extend_from_slice.ensures.items, c.as_bytes.ensures.value, c.as_str.ensures)
      (IsMadeUpTo-step _ _ _ _ _ _ c.loop-splice.invariant.made c.loop-splice-test.true c.splice-item.is);
  texts = All-more (λ (s : Splice). IsUtf8 s.text) c.args.splices.now c.loop-splice.splice-index c.splice-item.result c.loop-splice-test.true c.loop-splice.invariant.texts (subst (λ (s : Splice). IsUtf8 s.text) c.splice-item.is (subst IsUtf8 c.as_str.ensures c.as_str.utf8));
}

pub slice_bounds-extend_from_slice-count-2 : goal.slice_bounds-extend_from_slice-count-2
slice_bounds-extend_from_slice-count-2 c =
    let within = FitsFrom-within _ _ _ c.loop-splice.invariant.made.fits in
    search rules

pub slice_bounds-extend_from_slice-start-2 : goal.slice_bounds-extend_from_slice-start-2
slice_bounds-extend_from_slice-start-2 c =
    let within = FitsFrom-within _ _ _ c.loop-splice.invariant.made.fits in
    search rules

pub returns : goal.returns
returns c =
    let after = c.new.ensures ∙ c.in_ok-extend_from_slice-3.ensures.items ∙ IsMadeUpTo-end _ _ _ _ _ c.loop-splice.invariant.made c.loop-splice-test.false in
    record {
      value = after;
      utf8 = λ utf8 between. subst IsUtf8 (sym after) (IsUtf8-spliced c.args.text.now c.args.splices.now c.requires utf8 between (subst (All (λ (s : Splice). IsUtf8 s.text)) (take_all c.loop-splice.splice-index c.args.splices.now c.loop-splice-test.false) c.loop-splice.invariant.texts));
    }
