use Rattle.std.proofs.Common.{sym, ap, ◌∙◌}
use Rattle.wse_io.specs.Stream.{bytes_of}
use Rattle.wse_io.specs.Mem.{MemSinkState}
use Rattle.wse_io.proofs.MemLemmas.{pieces_all}
use Rattle.wse_io.proofs.mem.MemSink.bytes.Goals as goal

pub returns : goal.returns
returns c =
    let inside = c.self.inside in
    c.deref.ensures.value ∙ sym (pieces_all inside.marks.items inside.bytes.items c.self.invariant.1) ∙ ap (λ (s : MemSinkState). bytes_of s.pieces) c.self.view_is
