use Rattle.std.proofs.Common.{◌≡◌, take, flat_map}
use Rattle.wse_path.specs.Changes.{change_at}
use Rattle.wse_apply.proofs.difference.difference.Given as goal

abbrev pub invariant-loop-entry : goal.invariant-loop-entry
invariant-loop-entry l = l.changes.items ≡ flat_map (λ e. change_at l.old.files l.new.files e.0) (take l.entry-index l.entry-items)
