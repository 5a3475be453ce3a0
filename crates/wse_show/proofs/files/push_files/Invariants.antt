use Rattle.std.proofs.Common.{◌≡◌, ◌++◌, take, flat_map}
use Rattle.wse_show.specs.Files.{file_line}
use Rattle.wse_show.proofs.files.push_files.Given as goal

abbrev pub invariant-loop-entry : goal.invariant-loop-entry
invariant-loop-entry l = l.text.items ≡ l.initial.text.items ++ flat_map (file_line l.tree.files) (take l.entry-index l.entry-items)
