use Rattle.std.proofs.Common.{◌≡◌, List, ◌++◌, drop}
use Rattle.wse_path.specs.Path.{bytes_of as segments_of, text_of}
use Rattle.wse_io.specs.Stream.{Piece, Adds, bytes_of}
use Rattle.wsedit.proofs.PathLemmas.{behind}
use Rattle.wsedit.proofs.telling.emit_joined.Given as goal

abbrev pub invariant-loop-segment : goal.invariant-loop-segment
invariant-loop-segment g l = record {
  told : (told : List Piece) × Adds (g.E.Sink.pieces l.fn.errs) (g.E.Sink.pieces l.errs) told
      × (bytes_of told ++ behind (drop l.segment-index l.rest) ≡ text_of (segments_of l.fn.segments));
  faults : g.E.Sink.faults l.errs ≡ g.E.Sink.faults l.fn.errs;
}
