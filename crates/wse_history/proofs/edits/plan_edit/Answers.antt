use Rattle.std.proofs.Common.{◌∙◌, sym, subst}
use Rattle.wse_apply.specs.Setting.{SettingState}
use Rattle.wse_apply.specs.Performed.{performed}
use Rattle.wse_history.specs.Done.{IsDoneWithin}
use Rattle.wse_history.proofs.ReachedLemmas.{is_done}
use Rattle.wse_history.proofs.edits.plan_edit.Goals as goal

pub plan_done-requires : goal.plan_done-requires
plan_done-requires c =
    let limits = c.args.history.now.limits in
    let s = c.args.history.now.state in
    let edit = c.args.edit.now in
    let history = c.limits-limits.ensures.kept in
    let setting : SettingState = record { versions = s.versions; locks = s.locks; limits = limits; by = c.args.by; encoding = edit.encoding } in
    subst (IsDoneWithin limits s.files)
    (sym (c.in_ok-done.ensures.done ∙ (λ i. performed (c.tree.ensures i) (c.versions.ensures i) (c.locks.ensures i) (c.limits-limits.ensures.limits i) c.args.by edit)))
    (is_done setting s.files edit history.linked.tree history.fits)
