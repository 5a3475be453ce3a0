-- A whole edit: what it changes, which versions rise, what failed, and what was left out.
use Rattle.std.specs.Prelude.{ℕ}
use Rattle.wse_path.specs.Tree.{Entries}
use Rattle.wse_path.specs.Versions.{Numbers}
use Rattle.wse_path.specs.Changes.{changes_between}
use Rattle.wse_path.specs.declared.limits.Limits.{Limits}
use Rattle.wse_path.specs.declared.edit.Edit.{Edit}
use Rattle.wse_locks.specs.Locks.{Holders}
use Rattle.wse_apply.specs.Setting.{SettingState}
use Rattle.wse_apply.specs.Course.{failure_of, reached}
use Rattle.wse_apply.specs.Kept.{all_edit_texts, rule_after, kept, bumps_by}
use Rattle.wse_apply.specs.Skips.{skips_from}
use Rattle.wse_apply.specs.declared.kept.Rule.{Rule}
use Rattle.wse_apply.specs.declared.performed.Performed.{Performed}

-- What becomes of the edit, by what its operations do.
abbrev pub rule_for : SettingState → Entries → Edit → Rule
rule_for setting files edit =
    rule_after (failure_of setting files edit.operations) edit.failure (all_edit_texts edit.operations)

-- The changes are the paths where the files that are kept differ from those before. The versions rise of the paths where
-- the files that were reached differ.
abbrev pub performed_in : SettingState → Entries → Edit → Performed
performed_in setting files edit =
    let last = reached setting files edit.operations in
    let rule = rule_for setting files edit in
    record {
      changes = changes_between files (kept rule files last);
      bumps = bumps_by rule.rise (changes_between files last);
      failed = failure_of setting files edit.operations;
      skipped = skips_from 0 edit.operations;
    }

-- The edit of the participant, performed over the files with their versions, under the locks and the limits.
abbrev pub performed : Entries → Numbers → Holders → Limits → ℕ → Edit → Performed
performed files versions locks limits by edit =
    performed_in
    (record { versions = versions; locks = locks; limits = limits; by = by; encoding = edit.encoding })
    files edit
