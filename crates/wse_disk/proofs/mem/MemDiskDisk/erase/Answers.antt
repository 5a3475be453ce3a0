use Rattle.std.proofs.Common.{Bool, refl, ◌∙◌, ap}
use Rattle.wse_disk.specs.Reading.Write.{Erases}
use Rattle.wse_disk.specs.declared.call.Call.TheVariants.{Erase}
use Rattle.wse_disk.specs.CallCounts.{next_fails}
use Rattle.wse_disk.specs.MemState.{MemState}
use Rattle.wse_disk.proofs.SoundLemmas.{done_write, done_later, done_notes}
use Rattle.wse_disk.proofs.mem.MemDiskDisk.erase.Goals as goal

pub returns-clause-writes : goal.returns-clause-writes
returns-clause-writes c = done_write (λ (f : Bool). Erase c.args.path.now f) c.args.self.now c.note_erase-noted.new.self c.finish.new.self c.note_erase-noted.result c.finish.result c.fails_next-failed.result c.is_err.result (c.fails_next-failed.ensures ∙ ap (λ (d : MemState). next_fails d.counts) c.self.view_is) c.is_err.ensures.value c.note_erase-noted.ensures.noted c.note_erase-noted.ensures.none c.note_erase-noted.ensures.first c.note_erase-noted.ensures.counts c.finish.ensures.failed c.finish.ensures.counts c.finish.ensures.first c.finish.ensures.calls (Erases c.args.path.now) (λ s f. refl) tt

pub returns-clause-later : goal.returns-clause-later
returns-clause-later c = done_later (λ (f : Bool). Erase c.args.path.now f) c.args.self.now c.note_erase-noted.new.self c.finish.new.self c.note_erase-noted.result c.finish.result c.fails_next-failed.result c.is_err.result (c.fails_next-failed.ensures ∙ ap (λ (d : MemState). next_fails d.counts) c.self.view_is) c.is_err.ensures.value c.note_erase-noted.ensures.noted c.note_erase-noted.ensures.none c.note_erase-noted.ensures.first c.note_erase-noted.ensures.counts c.finish.ensures.failed c.finish.ensures.counts c.finish.ensures.first c.finish.ensures.calls

pub returns-clause-noted : goal.returns-clause-noted
returns-clause-noted c = (c.is_err.result, done_notes (λ (f : Bool). Erase c.args.path.now f) c.args.self.now c.note_erase-noted.new.self c.finish.new.self c.note_erase-noted.result c.finish.result c.fails_next-failed.result c.is_err.result (c.fails_next-failed.ensures ∙ ap (λ (d : MemState). next_fails d.counts) c.self.view_is) c.is_err.ensures.value c.note_erase-noted.ensures.noted c.note_erase-noted.ensures.none c.note_erase-noted.ensures.first c.note_erase-noted.ensures.counts c.finish.ensures.failed c.finish.ensures.counts c.finish.ensures.first c.finish.ensures.calls)
