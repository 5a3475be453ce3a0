use Rattle.std.proofs.Common.{◌≡◌, ◌≤◌, ◌-◌, ◌^◌}
use Rattle.wse_recover.proofs.MeasureLemmas.{BytesLeft}
use Rattle.wse_recover.proofs.measure.measure.Given as goal

abbrev pub invariant-loop-path : goal.invariant-loop-path
invariant-loop-path g l = record {
  same : g.D.Disk.told l.disk ≡ g.D.Disk.told l.initial.disk;
  later : g.D.Disk.moment_of l.initial.disk ≤ g.D.Disk.moment_of l.disk;
  faults : g.D.Disk.faults l.disk ≡ g.D.Disk.faults l.initial.disk;
  fits : l.total ≤ 2 ^ 64 - 1;
  left : BytesLeft (g.D.Disk.told l.initial.disk) l.limits l.total l.path-index;
}
