-- A whole edit, by what its steps do.
use Rattle.std.proofs.Common.{◌≡◌, ℕ, Bool, true, false, List, [], Option, None, refl, sym, ap, subst, ◌∙◌}
use Rattle.std.specs.Prelude.{if◌then◌else◌}
use Rattle.wse_path.specs.Limits.{standard}
use Rattle.wse_path.specs.Tree.{Entries}
use Rattle.wse_path.specs.Changes.{changes_between}
use Rattle.wse_path.specs.declared.change.Change.{Change}
use Rattle.wse_path.specs.declared.change.Numbered.{Numbered}
use Rattle.wse_path.specs.declared.edit.Edit.{Edit}
use Rattle.wse_path.proofs.GatheredLemmas.{no_changes}
use Rattle.wse_apply.specs.Limit.{limit_hit, are_within}
use Rattle.wse_apply.specs.Setting.{SettingState}
use Rattle.wse_apply.specs.Sizes.{sizes_of}
use Rattle.wse_apply.specs.Course.{failure_of, reached}
use Rattle.wse_apply.specs.Kept.{all_edit_texts, rule_after, kept, bumps_by}
use Rattle.wse_apply.specs.Skips.{skips_from}
use Rattle.wse_apply.specs.Draft.{AreSmall}
use Rattle.wse_apply.specs.Performed.{rule_for, performed_in}
use Rattle.wse_apply.specs.declared.kept.Rule.{Rule}
use Rattle.wse_apply.specs.declared.performed.Performed.{Performed}
use Rattle.wse_apply.specs.declared.reason.Reason.{Reason}
use Rattle.wse_apply.specs.declared.sizes.Sizes.{Sizes}
use Rattle.wse_apply.specs.declared.skips.Skip.{Skip}

pub small_start : (setting given : SettingState) (sizes : Sizes) (files now : Entries) → setting ≡ given → now ≡ files → sizes ≡ sizes_of files → are_within given.limits standard ≡ true → limit_hit given.limits files ≡ None → AreSmall setting sizes now
small_start setting given sizes files now e f size within fits =
    subst (λ (s : SettingState). AreSmall s sizes now) (sym e)
    (subst (λ (es : Entries). AreSmall given sizes es) (sym f) (record { limits = within; fits = fits; sizes_are = size }))

kept_changes : (keeps : Bool) (files last : Entries) → (if keeps then changes_between files last else []) ≡ changes_between files (if keeps then last else files)
kept_changes true files last = refl
kept_changes false files last = sym (no_changes files)

pub record Steps (setting : SettingState) (files : Entries) (edit : Edit) (failed : Option (ℕ × Reason)) (rule : Rule) (changes stays : List Change) (bumps : List Numbered) (skipped : List Skip) : Type 0 where
  pub failed_is : failed ≡ failure_of setting files edit.operations
  pub rule_is : rule ≡ rule_after failed edit.failure (all_edit_texts edit.operations)
  pub changes_are : changes ≡ changes_between files (reached setting files edit.operations)
  pub stays_are : stays ≡ (if rule.keeps then changes else [])
  pub bumps_are : bumps ≡ bumps_by rule.rise changes
  pub skipped_are : skipped ≡ skips_from 0 edit.operations

pub performed_is : (setting given : SettingState) (files : Entries) (edit : Edit) (failed : Option (ℕ × Reason)) (rule : Rule) (changes stays : List Change) (bumps : List Numbered) (skipped : List Skip) → setting ≡ given → Steps setting files edit failed rule changes stays bumps skipped
    → ◌≡◌ {A = Performed} (record { changes = stays; bumps = bumps; failed = failed; skipped = skipped }) (performed_in given files edit)
performed_is setting given files edit failed rule changes stays bumps skipped e s =
    let last = reached setting files edit.operations in
    let rule_is : rule ≡ rule_for setting files edit = s.rule_is ∙ ap (λ o. rule_after o edit.failure (all_edit_texts edit.operations)) s.failed_is in
    let stays_are : stays ≡ changes_between files (kept (rule_for setting files edit) files last) =
    s.stays_are ∙ ap (λ (r : Rule). if r.keeps then changes else []) rule_is ∙ ap (λ (l : List Change). if (rule_for setting files edit).keeps then l else []) s.changes_are ∙ kept_changes (rule_for setting files edit).keeps files last in
    let bumps_are : bumps ≡ bumps_by (rule_for setting files edit).rise (changes_between files last) = s.bumps_are ∙ ap (λ (r : Rule). bumps_by r.rise changes) rule_is ∙ ap (λ (l : List Change). bumps_by (rule_for setting files edit).rise l) s.changes_are in
    (λ i. record { changes = stays_are i; bumps = bumps_are i; failed = s.failed_is i; skipped = s.skipped_are i })
    ∙ ap (λ (x : SettingState). performed_in x files edit) e
