use Rattle.std.proofs.Common.{◌≡◌, ◌≤◌, length, take}
use Rattle.wse_disk.specs.Replay.{drafted}
use Rattle.wse_disk.specs.Chosen.{left_from}
use Rattle.wse_disk.specs.Runs.{writes_of}
use Rattle.wse_disk.proofs.draft.Draft.leave_all.Given as goal

abbrev pub invariant-loop-call : goal.invariant-loop-call
invariant-loop-call l = record {
  done : drafted l.self ≡ left_from l.choice 0 (drafted l.initial.self) (writes_of (take l.call-index l.calls));
  count : l.index ≡ length (writes_of (take l.call-index l.calls));
  few : l.index ≤ l.call-index;
}
