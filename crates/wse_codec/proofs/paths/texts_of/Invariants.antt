use Rattle.std.proofs.Common.{◌≡◌, IsUtf8, take}
use Rattle.std.specs.List.{All}
use Rattle.wse_path.specs.Path.{bytes_of}
use Rattle.wse_codec.specs.Gives.{bytes_in}
use Rattle.wse_codec.proofs.paths.texts_of.Given as goal

abbrev pub invariant-loop-segment : goal.invariant-loop-segment
invariant-loop-segment l =
    (bytes_of l.texts.items ≡ bytes_in (take l.segment-index l.segments)) × All (λ s. IsUtf8 s.items) (take l.segment-index l.segments)
