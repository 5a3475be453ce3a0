use Rattle.std.proofs.Common.{◌+◌, take}
use Rattle.std.specs.Fmt.{HasWritten, IsPlainFormatter}
use Rattle.wse_path.specs.Path.{bytes_of, text_of}
use Rattle.wse_path.proofs.path_text.write_joined.Given as goal

abbrev pub invariant-loop-segment : goal.invariant-loop-segment
invariant-loop-segment g l =
    IsPlainFormatter l.fn.f → HasWritten g.W.Write.write_str_gives l.fn.f (text_of (bytes_of (take (l.segment-index + 1) l.segments))) l.f
