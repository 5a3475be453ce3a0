use Rattle.std.proofs.Common.{◌≡◌, ◌*◌, ◌≤◌, length, take, sum_by, string_bytes}
use Rattle.wse_path.proofs.path.text_bytes.Given as goal

abbrev pub invariant-loop-s : goal.invariant-loop-s
invariant-loop-s l = (l.sum ≡ sum_by (λ s. length (string_bytes s)) (take l.s-index l.segments)) × (l.sum ≤ 255 * l.s-index)
