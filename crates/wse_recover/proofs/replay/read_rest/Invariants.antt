use Rattle.std.proofs.Common.{◌≡◌, ◌≤◌, ◌<◌, ◌-◌, ◌^◌}
use Rattle.wse_log.specs.Scan.{IsAtPiece}
use Rattle.wse_recover.specs.Held.{held, AreNumbersBounded}
use Rattle.wse_recover.specs.Loop.{GoesTo}
use Rattle.wse_recover.specs.Unsettled.{MayBeFinished}
use Rattle.wse_recover.proofs.replay.read_rest.Given as goal

abbrev pub invariant-loop-last : goal.invariant-loop-last
invariant-loop-last g l = record {
  told : g.D.Disk.told l.disk ≡ g.D.Disk.told l.initial.disk;
  later : g.D.Disk.moment_of l.initial.disk ≤ g.D.Disk.moment_of l.disk;
  count : g.D.Disk.faults l.disk ≡ g.D.Disk.faults l.initial.disk;
  piece : IsAtPiece (g.D.Disk.told l.disk) l.area l.at;
  behind : 0 < l.at;
  small : l.at < 2 ^ 63;
  bounded : AreNumbersBounded (held l.stacks l.versions);
  goes : GoesTo (g.D.Disk.told l.initial.disk) l.area l.initial.place (held l.initial.stacks l.initial.versions) l.at (held l.stacks l.versions) l.last;
  come : MayBeFinished l.last;
}

abbrev pub decreases-loop-last : goal.decreases-loop-last
decreases-loop-last g l = 2 ^ 63 - l.at
