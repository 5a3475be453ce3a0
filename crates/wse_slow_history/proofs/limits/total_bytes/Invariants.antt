use Rattle.std.proofs.Common.{◌≡◌, take}
use Rattle.wse_path.specs.Tree.{total_bytes}
use Rattle.wse_slow_history.proofs.limits.total_bytes.Given as goal

abbrev pub invariant-loop-file : goal.invariant-loop-file
invariant-loop-file l = l.total ≡ total_bytes (take l.file-index l.files)
