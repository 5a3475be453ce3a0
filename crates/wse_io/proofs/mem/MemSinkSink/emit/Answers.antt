use Rattle.std.proofs.Common.{◌∷◌, ◌++◌, [], List, Some, not, is_ok, take, sym, ap, ◌∙◌}
use Rattle.wse_io.specs.Stream.{Piece}
use Rattle.wse_io.specs.Mem.{MemSinkState}
use Rattle.wse_io.specs.declared.sink.WriteFailed.{WriteFailed}
use Rattle.wse_io.proofs.MemLemmas.{pieces_put, piece_by-some}
use Rattle.wse_io.proofs.mem.MemSinkSink.emit.Goals as goal

pub returns-clause-added : goal.returns-clause-added
returns-clause-added g c =
    let inside = c.self.inside in
    let put = c.put_piece in
    let n = c.min-count.result in
    let piece = take n c.args.bytes.now in
    let emitted = pieces_put inside.marks.items put.new.marks.items inside.bytes.items put.new.bytes.items piece c.moment.result (is_ok put.result) c.self.invariant.1
    (c.is_err.ensures.negation ∙ ap not c.if-is_err.false) put.ensures.bytes put.ensures.marks in
    let told = piece_by-some WriteFailed n c.args.bytes.now (g.D.Disk.moment_of c.args.disk.now) c.if-count-eq0.false in
    ap (λ (pieces : List Piece). Some pieces)
    (emitted
    ∙ ap (λ (s : MemSinkState). s.pieces ++ (record { bytes = piece; moment = c.moment.result }) ∷ []) c.self.view_is
    ∙ ap (λ moment. c.args.self.now.pieces ++ (record { bytes = piece; moment = moment }) ∷ []) c.moment.ensures
    ∙ ap (λ added. c.args.self.now.pieces ++ added) (sym told))
