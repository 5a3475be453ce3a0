use Rattle.std.proofs.Common.{◌≡◌, IsUtf8, take}
use Rattle.std.specs.List.{All}
use Rattle.wse_path.specs.Path.{bytes_of}
use Rattle.wse_uri.specs.Segments.{bytes_in}
use Rattle.wse_uri.proofs.reading.texts.Given as goal

abbrev pub invariant-loop-index : goal.invariant-loop-index
invariant-loop-index l =
    (bytes_of l.texts.items ≡ bytes_in (take l.index l.segments)) × All (λ s. IsUtf8 s.items) (take l.index l.segments)
