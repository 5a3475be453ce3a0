use Rattle.std.proofs.Common.{◌≡◌}
use Rattle.wse_path.specs.Tree.{set_files}
use Rattle.wse_plain.proofs.entries.set_files.Given as goal

abbrev pub invariant-loop-path : goal.invariant-loop-path
invariant-loop-path l = l.all.items ≡ set_files l.yielded l.initial.all.items
