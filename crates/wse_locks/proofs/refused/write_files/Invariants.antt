use Rattle.std.proofs.Common.{◌+◌, take, codes}
use Rattle.std.specs.List.{join_by}
use Rattle.std.specs.Fmt.{HasWritten, IsPlainFormatter}
use Rattle.wse_path.specs.Path.{text_of}
use Rattle.wse_locks.proofs.refused.write_files.Given as goal

abbrev pub invariant-loop-file : goal.invariant-loop-file
invariant-loop-file g l =
    IsPlainFormatter l.fn.f → HasWritten g.W.Write.write_str_gives l.fn.f (join_by text_of (codes ", ") (take (l.file-index + 1) l.files)) l.f
