use Rattle.std.proofs.Common.{[], ◌++◌, take, drop, length, ◌-◌, Ok, refl, sym, ap, ◌∙◌, arith}
use Rattle.std.proofs.lemmas.List.{take-append-drop, take_rest}
use Rattle.std.proofs.Math.Seq.{take-add}
use Rattle.wse_io.specs.Stream.{piece_by, bytes_of}
use Rattle.wse_io.specs.declared.sink.WriteFailed.{WriteFailed}
use Rattle.wse_io.proofs.StreamLemmas.{adds_none, adds_more, adds_then_none, all_at-nil, all_at-append, one_piece, bytes_of-nil, bytes_of-append}
use Rattle.wse_io.proofs.sink.emit_all.Goals as goal

pub loop-at-init : goal.loop-at-init
loop-at-init g c = record { within = omega arith; faults = refl; added = ([], adds_none _ _ refl, all_at-nil _, bytes_of-nil) }

pub returns-in-Err-clause-added : goal.returns-in-Err-clause-added
returns-in-Err-clause-added g c =
    let so_far = c.loop-at.invariant.added in
    let bytes = c.args.bytes.now in
    let at = c.loop-at.at in
    (so_far.0, adds_then_none _ _ _ so_far.0 so_far.1 c.in-Err.ensures.added, so_far.2, (drop at bytes, sym (ap (λ r. r ++ drop at bytes) so_far.3 ∙ take-append-drop at bytes)), tt)

pub loop-at-preserved : goal.loop-at-preserved
loop-at-preserved g c =
    let so_far = c.loop-at.invariant.added in
    let bytes = c.args.bytes.now in
    let at = c.loop-at.at in
    let n = c.in-Ok.count in
    let rest = take (length bytes - at) (drop at bytes) in
    let moment = g.D.Disk.moment_of c.args.disk.now in
    let piece = piece_by {E = WriteFailed} (Ok n) rest moment in
    let one = one_piece WriteFailed n rest moment in
    record {
      within = omega (arith, c.in-Ok.ensures.count);
      faults = c.in-Ok.ensures.cause.kept ∙ c.loop-at.invariant.faults;
      added = (
        so_far.0 ++ piece,
        adds_more _ _ _ so_far.0 piece so_far.1 c.in-Ok.ensures.added,
        all_at-append moment so_far.0 piece so_far.2 one.0,
        bytes_of-append so_far.0 piece ∙ ap (λ r. r ++ bytes_of piece) so_far.3 ∙ ap (λ r. take at bytes ++ r) (one.1 ∙ ap (take n) (take_rest bytes at)) ∙ sym (take-add at n bytes),
      );
    }
