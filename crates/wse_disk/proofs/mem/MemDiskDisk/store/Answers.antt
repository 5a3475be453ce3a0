use Rattle.std.proofs.Common.{Bool, refl, ◌∙◌, ap}
use Rattle.wse_disk.specs.Reading.Write.{Stores}
use Rattle.wse_disk.specs.declared.call.Call.TheVariants.{Store}
use Rattle.wse_disk.specs.CallCounts.{next_fails}
use Rattle.wse_disk.specs.MemState.{MemState}
use Rattle.wse_disk.proofs.SoundLemmas.{done_write, done_later, done_notes}
use Rattle.wse_disk.proofs.mem.MemDiskDisk.store.Goals as goal

pub returns-clause-writes : goal.returns-clause-writes
returns-clause-writes c = done_write (λ (f : Bool). Store c.args.path.now c.args.bytes.now f) c.args.self.now c.note_store-noted.new.self c.finish.new.self c.note_store-noted.result c.finish.result c.fails_next-failed.result c.is_err.result (c.fails_next-failed.ensures ∙ ap (λ (d : MemState). next_fails d.counts) c.self.view_is) c.is_err.ensures.value c.note_store-noted.ensures.noted c.note_store-noted.ensures.none c.note_store-noted.ensures.first c.note_store-noted.ensures.counts c.finish.ensures.failed c.finish.ensures.counts c.finish.ensures.first c.finish.ensures.calls (Stores c.args.path.now c.args.bytes.now) (λ s f. refl) c.requires

pub returns-clause-later : goal.returns-clause-later
returns-clause-later c = done_later (λ (f : Bool). Store c.args.path.now c.args.bytes.now f) c.args.self.now c.note_store-noted.new.self c.finish.new.self c.note_store-noted.result c.finish.result c.fails_next-failed.result c.is_err.result (c.fails_next-failed.ensures ∙ ap (λ (d : MemState). next_fails d.counts) c.self.view_is) c.is_err.ensures.value c.note_store-noted.ensures.noted c.note_store-noted.ensures.none c.note_store-noted.ensures.first c.note_store-noted.ensures.counts c.finish.ensures.failed c.finish.ensures.counts c.finish.ensures.first c.finish.ensures.calls

pub returns-clause-noted : goal.returns-clause-noted
returns-clause-noted c = (c.is_err.result, done_notes (λ (f : Bool). Store c.args.path.now c.args.bytes.now f) c.args.self.now c.note_store-noted.new.self c.finish.new.self c.note_store-noted.result c.finish.result c.fails_next-failed.result c.is_err.result (c.fails_next-failed.ensures ∙ ap (λ (d : MemState). next_fails d.counts) c.self.view_is) c.is_err.ensures.value c.note_store-noted.ensures.noted c.note_store-noted.ensures.none c.note_store-noted.ensures.first c.note_store-noted.ensures.counts c.finish.ensures.failed c.finish.ensures.counts c.finish.ensures.first c.finish.ensures.calls)
