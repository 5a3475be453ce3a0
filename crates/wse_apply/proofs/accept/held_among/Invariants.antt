use Rattle.std.proofs.Common.{◌≡◌, ◌++◌, drop}
use Rattle.wse_apply.specs.Stop.{held_among}
use Rattle.wse_apply.proofs.accept.held_among.Given as goal

abbrev pub invariant-loop-change : goal.invariant-loop-change
invariant-loop-change l =
    l.files.items ++ held_among l.setting.locks l.setting.by (drop l.change-index l.changes) ≡ held_among l.setting.locks l.setting.by l.changes
