use Rattle.std.proofs.Common.{◌≡◌, take}
use Rattle.wse_path.specs.Tree.{put_all}
use Rattle.wse_apply.proofs.difference.put_files.Given as goal

abbrev pub invariant-loop-index : goal.invariant-loop-index
invariant-loop-index l = l.files.entries ≡ put_all (take l.index l.tree.files) l.initial.files.entries
