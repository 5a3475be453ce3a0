use Rattle.std.proofs.Common.{Bool, ◌∙◌, ap}
use Rattle.wse_disk.specs.declared.call.Call.TheVariants.{Sync}
use Rattle.wse_disk.specs.CallCounts.{next_fails}
use Rattle.wse_disk.specs.MemState.{MemState}
use Rattle.wse_disk.proofs.SoundLemmas.{done_later, done_notes, done_sync}
use Rattle.wse_disk.proofs.mem.MemDiskDisk.sync.Goals as goal

pub returns-clause-syncs : goal.returns-clause-syncs
returns-clause-syncs c = done_sync c.args.self.now c.note_sync-noted.new.self c.finish.new.self c.note_sync-noted.result c.finish.result c.fails_next-failed.result c.is_err.result (c.fails_next-failed.ensures ∙ ap (λ (d : MemState). next_fails d.counts) c.self.view_is) c.is_err.ensures.value c.note_sync-noted.ensures.noted c.note_sync-noted.ensures.none c.note_sync-noted.ensures.first c.note_sync-noted.ensures.counts c.finish.ensures.failed c.finish.ensures.counts c.finish.ensures.first c.finish.ensures.calls

pub returns-clause-later : goal.returns-clause-later
returns-clause-later c = done_later (λ (f : Bool). Sync f) c.args.self.now c.note_sync-noted.new.self c.finish.new.self c.note_sync-noted.result c.finish.result c.fails_next-failed.result c.is_err.result (c.fails_next-failed.ensures ∙ ap (λ (d : MemState). next_fails d.counts) c.self.view_is) c.is_err.ensures.value c.note_sync-noted.ensures.noted c.note_sync-noted.ensures.none c.note_sync-noted.ensures.first c.note_sync-noted.ensures.counts c.finish.ensures.failed c.finish.ensures.counts c.finish.ensures.first c.finish.ensures.calls

pub returns-clause-noted : goal.returns-clause-noted
returns-clause-noted c = (c.is_err.result, done_notes (λ (f : Bool). Sync f) c.args.self.now c.note_sync-noted.new.self c.finish.new.self c.note_sync-noted.result c.finish.result c.fails_next-failed.result c.is_err.result (c.fails_next-failed.ensures ∙ ap (λ (d : MemState). next_fails d.counts) c.self.view_is) c.is_err.ensures.value c.note_sync-noted.ensures.noted c.note_sync-noted.ensures.none c.note_sync-noted.ensures.first c.note_sync-noted.ensures.counts c.finish.ensures.failed c.finish.ensures.counts c.finish.ensures.first c.finish.ensures.calls)
