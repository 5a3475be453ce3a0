use Rattle.std.proofs.Common.{map, sym, ap, ◌∙◌}
use Rattle.wse_io.specs.Mem.{MemSinkState, mark_of}
use Rattle.wse_io.proofs.MemLemmas.{marks_all}
use Rattle.wse_io.proofs.mem.MemSink.marks.Goals as goal

pub returns : goal.returns
returns c =
    let inside = c.self.inside in
    c.deref.ensures.value ∙ sym (marks_all inside.marks.items inside.bytes.items c.self.invariant.1) ∙ ap (λ (s : MemSinkState). map mark_of s.pieces) c.self.view_is
