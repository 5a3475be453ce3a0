use Rattle.std.proofs.Common.{◌≡◌, ◌≤◌, ◌+◌, ◌-◌, List, ℕ, length}
use Rattle.wse_path.specs.Causes.{Rose}
use Rattle.wse_io.specs.Stream.{Piece}
use Rattle.wse_io.specs.declared.lines.Ahead.TheVariants.{Failed}
use Rattle.wse_io.specs.declared.lines.LineFault.TheVariants.{Read}
use Rattle.wse_stream.specs.Longest.{longest_line}
use Rattle.wse_stream.specs.Scene.{disk_at}
use Rattle.wse_stream.proofs.Reading.{Reads}
use Rattle.wse_stream.proofs.Answering.{Answers}
use Rattle.wse_server.proofs.serving.serve.Given as goal

abbrev pub invariant-loop-line : goal.invariant-loop-line
invariant-loop-line g l = record {
  max_line : l.lines.max_line ≡ longest_line;
  max_input : l.lines.max_input ≡ l.max_input;
  within : l.lines.taken ≤ l.max_input + 1;
  source : g.S.Source.faults l.source ≡ g.S.Source.faults l.initial.source;
  fault : l.lines.ahead ≡ Failed Read → Rose (g.S.Source.faults l.initial.source) (g.S.Source.faults l.source);
  sink : g.K.Sink.faults l.out ≡ g.K.Sink.faults l.initial.out;
  disk : g.D.Disk.faults (g.R.Server.disk_of l.server) ≡ g.D.Disk.faults (g.R.Server.disk_of l.initial.server);
  same : g.R.Server.setting_of l.server ≡ g.R.Server.setting_of l.initial.server;
  so_far : (taken : List ℕ) × (done : List (List ℕ)) × (added : List Piece)
      × Reads (g.S.Source.left l.initial.source) (g.S.Source.left l.source) l.lines taken done
      × Answers (g.R.Server.machine (g.R.Server.setting_of l.initial.server)) (g.K.Sink.pieces l.initial.out) (g.K.Sink.pieces l.out)
      (disk_at g.D.Disk.moment_of g.D.Disk.told (g.R.Server.disk_of l.initial.server)) (disk_at g.D.Disk.moment_of g.D.Disk.told (g.R.Server.disk_of l.server))
      (g.R.Server.state_of l.initial.server) (g.R.Server.state_of l.server) l.n done added;
}

abbrev pub decreases-loop-line : goal.decreases-loop-line
decreases-loop-line g l = (l.max_input + 1 - l.lines.taken) + length l.lines.held
