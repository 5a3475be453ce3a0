use Rattle.std.proofs.Common.{◌≡◌, ◌++◌, ◌∷◌, [], ap, ◌∙◌}
use Rattle.std.proofs.lemmas.Result.{err_from_is_err_and}
use Rattle.std.proofs.lemmas.List.{map_push}
use Rattle.wse_codec.specs.Reading.{segment_at}
use Rattle.wse_codec.specs.Gives.{bytes_in}
use Rattle.wse_codec.proofs.LoopLemmas.{goes_on, ends, is_done}
use Rattle.wse_codec.proofs.paths.take_segments.Goals as goal

pub returns-in_err-segment : goal.returns-in_err-segment
returns-in_err-segment c =
    let p = err_from_is_err_and c.from_residual.result c.from_residual.ensures.1 in
    rw (p.1, p.2) (ends (λ last. segment_at) c.in_err-segment.field-0.0 (bytes_in c.loop.segments.items) c.args.count c.loop.counter c.loop.rest.now c.args.bytes.now c.loop-test.true c.in_err-segment.ensures c.loop.invariant)

pub loop-preserved : goal.loop-preserved
loop-preserved c =
    let e : bytes_in c.push.new.self.items ≡ bytes_in c.loop.segments.items ++ c.in_ok-segment.segment.now ∷ [] =
    rw c.in_ok-push.ensures.items (map_push (λ s. s.items) c.loop.segments.items c.in_ok-from_slice.field-0 ∙ ap (λ b. bytes_in c.loop.segments.items ++ b ∷ []) c.in_ok-from_slice.ensures.items) in
    rw e (goes_on (λ last. segment_at) (bytes_in c.loop.segments.items) c.args.count c.loop.counter c.loop.rest.now c.in_ok-segment.segment.now c.in_ok-segment.after.now c.args.bytes.now c.loop-test.true c.in_ok-segment.ensures c.loop.invariant)

pub returns : goal.returns
returns c = is_done (λ last. segment_at) (bytes_in c.loop.segments.items) c.args.count c.loop.counter c.loop.rest.now c.args.bytes.now c.loop-test.false c.loop.invariant
