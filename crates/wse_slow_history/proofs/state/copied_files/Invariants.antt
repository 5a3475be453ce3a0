use Rattle.std.proofs.Common.{◌≡◌, take}
use Rattle.wse_slow_history.proofs.state.copied_files.Given as goal

abbrev pub invariant-loop-file : goal.invariant-loop-file
invariant-loop-file l = l.copy.items ≡ take l.file-index l.files
