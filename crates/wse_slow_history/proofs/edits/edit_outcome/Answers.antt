use Rattle.std.proofs.Common.{sym, subst}
use Rattle.wse_apply.specs.Setting.{SettingState}
use Rattle.wse_apply.specs.declared.performed.Performed.{Performed}
use Rattle.wse_history.specs.Done.{IsDone}
use Rattle.wse_history.proofs.ReachedLemmas.{is_done}
use Rattle.wse_slow_history.specs.Slow.{state_of}
use Rattle.wse_slow_history.proofs.edits.edit_outcome.Goals as goal

pub performed_outcome-requires : goal.performed_outcome-requires
performed_outcome-requires c =
    let limits = c.args.limits.now in
    let s = state_of c.args.state.now in
    let edit = c.args.edit.now in
    let setting : SettingState = record { versions = s.versions; locks = s.locks; limits = limits; by = c.args.by; encoding = edit.encoding } in
    subst (λ (done : Performed). IsDone s.files done) (sym c.in_ok-done.ensures) (is_done setting s.files edit c.requires.linked.tree c.requires.fits).is
