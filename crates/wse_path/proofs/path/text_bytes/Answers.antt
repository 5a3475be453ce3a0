use Rattle.std.proofs.Common.{length, sym, ◌∙◌, ap, sum_by, string_bytes, take_all, arith, ◌-◌, ◌+◌}
use Rattle.wse_path.proofs.PathLemmas.{length-text_of}
use Rattle.wse_path.proofs.path.text_bytes.Goals as goal

pub returns : goal.returns
returns c = ap (λ n. n + (length c.args.segments.now - 1)) (c.loop-s.invariant.0 ∙ ap (λ ss. sum_by (λ s. length (string_bytes s)) ss) (take_all c.loop-s.s-index c.args.segments.now (omega arith))) ∙ sym (length-text_of c.args.segments.now)
