use Rattle.std.proofs.Common.{◌≡◌, drop}
use Rattle.std.specs.List.{list_all}
use Rattle.wse_apply.specs.Unchanged.{leaves}
use Rattle.wse_apply.proofs.unchanged.all_leave.Given as goal

abbrev pub invariant-loop-splice : goal.invariant-loop-splice
invariant-loop-splice l = list_all (leaves l.text) (drop l.splice-index l.splices) ≡ list_all (leaves l.text) l.splices
