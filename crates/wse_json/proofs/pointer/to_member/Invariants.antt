use Rattle.std.proofs.Common.{◌≡◌, ◌∷◌, string_bytes}
use Rattle.std.specs.List.{flat_map}
use Rattle.wse_json.specs.Shapes.{escaped}
use Rattle.wse_json.proofs.pointer.to_member.Given as goal

abbrev pub invariant-loop-character : goal.invariant-loop-character
invariant-loop-character l = string_bytes l.step ≡ 47 ∷ flat_map escaped l.yielded
