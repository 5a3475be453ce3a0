use Rattle.std.proofs.Common.{◌≡◌, ◌≤◌, take, Option}
use Rattle.wse_disk.specs.Standing.{Standing}
use Rattle.wse_disk.specs.Changes.{HasStored, AreUnderway, HasChangedOnly, storing}
use Rattle.wse_disk.proofs.changes.store_all.Given as goal

abbrev pub invariant-loop-change : goal.invariant-loop-change
invariant-loop-change g l = record {
  done : HasStored (take l.change-index l.changes) (g.D.Disk.told l.initial.disk) (g.D.Disk.told l.disk);
  writing : (start : Option Standing) → AreUnderway (storing l.changes) start (g.D.Disk.told l.initial.disk) → AreUnderway (storing l.changes) start (g.D.Disk.told l.disk);
  kept : (start : Option Standing) → HasChangedOnly l.changes start (g.D.Disk.told l.initial.disk) → HasChangedOnly l.changes start (g.D.Disk.told l.disk);
  later : g.D.Disk.moment_of l.initial.disk ≤ g.D.Disk.moment_of l.disk;
  faults : g.D.Disk.faults l.disk ≡ g.D.Disk.faults l.initial.disk;
}
