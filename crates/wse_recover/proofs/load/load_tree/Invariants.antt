use Rattle.std.proofs.Common.{◌≡◌, ◌≤◌, ◌++◌, length}
use Rattle.wse_disk.specs.Calls.{ReadsNames}
use Rattle.wse_recover.proofs.LoadLemmas.{HasLoaded}
use Rattle.wse_recover.proofs.load.load_tree.Given as goal

abbrev pub invariant-loop-path : goal.invariant-loop-path
invariant-loop-path g l = record {
  same : g.D.Disk.told l.disk ≡ g.D.Disk.told l.initial.disk;
  later : g.D.Disk.moment_of l.initial.disk ≤ g.D.Disk.moment_of l.disk;
  faults : g.D.Disk.faults l.disk ≡ g.D.Disk.faults l.initial.disk;
  paths : ReadsNames (g.D.Disk.told l.initial.disk) (l.yielded ++ l.path-iterator.rest.items);
  loaded : HasLoaded (g.D.Disk.told l.initial.disk) (length l.yielded) l.tree.files;
}
