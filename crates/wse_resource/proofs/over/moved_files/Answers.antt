use Rattle.std.proofs.Common.{◌<◌, List, [], ◌∷◌, ◌++◌, length, get_or, option_copied, is_some, inl, inr, sym, ap, subst, ◌∙◌}
use Rattle.std.proofs.lemmas.Result.{err_from_is_err_and}
use Rattle.wse_path.specs.Path.{Path}
use Rattle.wse_resource.specs.Table.{unless_past_limit}
use Rattle.wse_resource.specs.Table.Outcome.{Refused}
use Rattle.wse_resource.specs.Course.{is_past_limit}
use Rattle.wse_resource.proofs.MovesLemmas.{none_next, first_is}
use Rattle.wse_resource.proofs.SlowLemmas.{some_there}
use Rattle.wse_resource.proofs.OverLemmas.{source_present, moved_more}
use Rattle.wse_resource.proofs.over.moved_files.Goals as goal

pub returns-in_err-target-clause-refused : goal.returns-in_err-target-clause-refused
returns-in_err-target-clause-refused g c =
    let same = c.as_slice-source-items.ensures ∙ c.in_ok-sources.ensures in
    let i = c.loop-source.source-index in
    let d = c.source-item.result in
    let p = err_from_is_err_and c.from_residual-in_err-target.result c.from_residual-in_err-target.ensures.1 in
    rw (p.1, p.2) (elim c.in_err-target.ensures.refused [
      | inl memory ↦ inl memory
      | inr past ↦ inr (ap unless_past_limit (first_is (is_past_limit c.args.from.now c.args.to.now) _ i d (subst (λ (l : List Path). i < length l) same c.loop-source-test.true) (c.source-item.is ∙ ap (λ (l : List Path). get_or l i d) same) c.loop-source.invariant.fits past.0) ∙ ap Refused (sym past.1))
    ])

pub unwrap-requires : goal.unwrap-requires
unwrap-requires g c =
    let same = c.as_slice-source-items.ensures ∙ c.in_ok-sources.ensures in
    let i = c.loop-source.source-index in
    let d = c.source-item.result in
    some_there c.get.result
    (ap is_some c.get.ensures
    ∙ source_present c.args.overlay.now.files c.args.from.now i d c.args.overlay.now.is_tree.rises (subst (λ (l : List Path). i < length l) same c.loop-source-test.true) (c.source-item.is ∙ ap (λ (l : List Path). get_or l i d) same))

pub loop-source-preserved : goal.loop-source-preserved
loop-source-preserved g c =
    let files = c.args.overlay.now.files in
    let from = c.args.from.now in
    let to = c.args.to.now in
    let same = c.as_slice-source-items.ensures ∙ c.in_ok-sources.ensures in
    let i = c.loop-source.source-index in
    let d = c.source-item.result in
    let l = subst (λ (l : List Path). i < length l) same c.loop-source-test.true in
    let read = c.source-item.is ∙ ap (λ (l : List Path). get_or l i d) same in
    let is = sym c.get.ensures ∙ ap option_copied c.unwrap.ensures in
    record {
      moved =
          c.in_ok-push_copy.ensures
          ∙ (λ j. c.loop-source.invariant.moved j ++ (c.in_ok-target.ensures.path j, c.unwrap.result.now) ∷ [])
          ∙ sym (moved_more files from to i d c.unwrap.result.now c.args.overlay.now.is_tree.rises l read is);
      fits = none_next (is_past_limit from to) _ i d l read c.loop-source.invariant.fits c.in_ok-target.ensures.fits;
    }
