use Rattle.std.proofs.Common.{◌≡◌, map, take}
use Rattle.serde_json.specs.View.{view}
use Rattle.wse_reply.specs.Values.{skip_data}
use Rattle.wse_reply.proofs.values.skips_value.Given as goal

abbrev pub invariant-loop-skip : goal.invariant-loop-skip
invariant-loop-skip l = map view l.values.items ≡ map skip_data (take l.skip-index l.skips)
