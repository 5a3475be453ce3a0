use Rattle.std.proofs.Common.{◌≡◌, take, string_bytes}
use Rattle.wse_path.specs.Path.{bytes_of, text_of}
use Rattle.wse_path.proofs.path.RelPath.text.Given as goal

abbrev pub invariant-loop-index : goal.invariant-loop-index
invariant-loop-index l = string_bytes l.text ≡ text_of (bytes_of (take l.index l.segment-items))
