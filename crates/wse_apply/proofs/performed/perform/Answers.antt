use Rattle.std.proofs.Common.{List, ap, ◌∙◌}
use Rattle.wse_path.specs.declared.change.Change.{Change}
use Rattle.wse_path.specs.declared.edit.Operation.{Operation}
use Rattle.wse_path.specs.Changes.{changes_between}
use Rattle.wse_apply.specs.Course.{failure_of, reached}
use Rattle.wse_apply.specs.Kept.{all_edit_texts, rule_after, bumps_by}
use Rattle.wse_apply.specs.Skips.{skips_from}
use Rattle.wse_apply.proofs.PerformedLemmas.{small_start, performed_is}
use Rattle.wse_apply.proofs.WantLemmas.{told_clean}
use Rattle.wse_apply.proofs.performed.perform.Goals as goal

pub run-requires : goal.run-requires
run-requires c = small_start c.new-setting.result _ c.of.result c.args.tree.now.files c.new-overlay.result.files c.new-setting.ensures c.new-overlay.ensures.files c.of.ensures c.requires.within c.requires.fits

pub returns-clause-done : goal.returns-clause-done
returns-clause-done c =
    let setting = c.new-setting.result in
    let files = c.args.tree.now.files in
    let edit = c.args.edit.now in
    let start = c.new-overlay.ensures.files in
    let given = c.as_slice-operations.ensures in
    let rule = c.rule_after-rule.result in
    performed_is setting _ files edit c.in_ok-failed.failed rule c.in_ok-changes.changes c.kept.result c.in_ok-bumps.bumps c.in_ok-skipped.skipped c.new-setting.ensures (record {
      failed_is = c.in_ok-failed.ensures.failed ∙ (λ i. failure_of setting (start i) (given i));
      rule_is = c.rule_after-rule.ensures ∙ ap (λ (os : List Operation). rule_after c.in_ok-failed.failed edit.failure (all_edit_texts os)) given;
      changes_are =
          c.in_ok-changes.ensures
          ∙ (λ i. changes_between ((c.run.ensures.base ∙ c.new-overlay.ensures.base) i) ((c.in_ok-failed.ensures.reached ∙ (λ j. reached setting (start j) (given j))) i));
      stays_are = c.kept.ensures;
      bumps_are = c.in_ok-bumps.ensures ∙ ap (λ (l : List Change). bumps_by rule.rise l) c.as_slice.ensures;
      skipped_are = c.in_ok-skipped.ensures ∙ ap (λ (os : List Operation). skips_from 0 os) given;
    })

pub returns-clause-reason : goal.returns-clause-reason
returns-clause-reason c =
    told_clean c.new-setting.result c.new-overlay.result.files c.as_slice-operations.result.now c.in_ok-failed.failed c.in_ok-failed.ensures.failed
