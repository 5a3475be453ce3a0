use Rattle.std.proofs.Common.{length, ◌-◌, ◌≡◌, ◌≤◌, List, take}
use Rattle.wse_io.specs.Stream.{Piece, Adds, bytes_of, AllAt}
use Rattle.wse_io.proofs.sink.emit_all.Given as goal

abbrev pub invariant-loop-at : goal.invariant-loop-at
invariant-loop-at g l = record {
  within : l.at ≤ length l.bytes;
  faults : g.K.Sink.faults l.sink ≡ g.K.Sink.faults l.initial.sink;
  added : (added : List Piece) × Adds (g.K.Sink.pieces l.initial.sink) (g.K.Sink.pieces l.sink) added × AllAt (g.D.Disk.moment_of l.disk) added × (bytes_of added ≡ take l.at l.bytes);
}

abbrev pub decreases-loop-at : goal.decreases-loop-at
decreases-loop-at g l = length l.bytes - l.at
