use Rattle.std.proofs.Common.{◌≡◌, ◌++◌, take}
use Rattle.wse_edits.specs.Edited.{put_in}
use Rattle.wse_edits.proofs.slowly.put_in.Given as goal

abbrev pub invariant-loop-edit : goal.invariant-loop-edit
invariant-loop-edit l = l.after.items ≡ l.initial.after.items ++ put_in l.text l.enc (take l.edit-index l.edits) l.place
