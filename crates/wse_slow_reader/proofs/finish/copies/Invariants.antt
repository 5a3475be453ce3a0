use Rattle.std.proofs.Common.{◌≡◌, take}
use Rattle.wse_slow_reader.proofs.finish.copies.Given as goal

abbrev pub invariant-loop-file : goal.invariant-loop-file
invariant-loop-file l = l.all.items ≡ take l.file-index l.files
