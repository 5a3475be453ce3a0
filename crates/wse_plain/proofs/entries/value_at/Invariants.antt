use Rattle.std.proofs.Common.{◌≡◌, drop}
use Rattle.std.specs.FinMap.{find}
use Rattle.wse_path.specs.Order.{path_cmp}
use Rattle.wse_plain.proofs.entries.value_at.Given as goal

abbrev pub invariant-loop-entry : goal.invariant-loop-entry
invariant-loop-entry g l = find path_cmp l.path l.entries ≡ find path_cmp l.path (drop l.entry-index l.entries)
