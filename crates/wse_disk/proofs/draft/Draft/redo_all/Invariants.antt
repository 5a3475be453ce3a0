use Rattle.std.proofs.Common.{◌≡◌, take}
use Rattle.wse_disk.specs.Replay.{drafted}
use Rattle.wse_disk.specs.Runs.{redone_all}
use Rattle.wse_disk.proofs.draft.Draft.redo_all.Given as goal

abbrev pub invariant-loop-call : goal.invariant-loop-call
invariant-loop-call l = drafted l.self ≡ redone_all (drafted l.initial.self) (take l.call-index l.calls)
