use Rattle.std.proofs.Common.{◌≡◌, ◌≤◌, length, drop, false}
use Rattle.std.specs.List.{list_any}
use Rattle.wse_disk.specs.Runs.{is_done_sync}
use Rattle.wse_disk.proofs.call.count_synced.Given as goal

abbrev pub invariant-loop-count : goal.invariant-loop-count
invariant-loop-count l = record {
  within : l.count ≤ length l.calls;
  behind : list_any is_done_sync (drop l.count l.calls) ≡ false;
}

abbrev pub decreases-loop-count : goal.decreases-loop-count
decreases-loop-count l = l.count
