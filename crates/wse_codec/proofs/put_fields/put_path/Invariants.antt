use Rattle.std.proofs.Common.{◌≡◌, ◌++◌, take}
use Rattle.std.specs.List.{flat_map}
use Rattle.wse_codec.specs.Spelling.{segment_bytes}
use Rattle.wse_codec.proofs.put_fields.put_path.Given as goal

abbrev pub invariant-loop-at : goal.invariant-loop-at
invariant-loop-at l = l.out.items ≡ l.initial.out.items ++ flat_map segment_bytes (take l.at l.path)
