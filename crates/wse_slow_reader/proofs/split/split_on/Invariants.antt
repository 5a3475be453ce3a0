use Rattle.std.proofs.Common.{◌≡◌, ◌≢◌, ◌≤◌, ◌-◌, [], length}
use Rattle.wse_log.specs.Grammar.{AreInOrder, BeginsWith, front}
use Rattle.wse_slow_reader.proofs.split.split_on.Given as goal

abbrev pub invariant-loop-records : goal.invariant-loop-records
invariant-loop-records l = record {
  some : l.records.items ≢ [];
  order : AreInOrder l.records.items;
  begins : BeginsWith l.area l.records.items;
  gate : l.gate ≡ length (front l.records.items);
  room : l.gate ≤ length l.area;
}

abbrev pub decreases-loop-records : goal.decreases-loop-records
decreases-loop-records l = length l.area - l.gate
