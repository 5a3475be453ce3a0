use Rattle.std.proofs.Common.{◌∙◌, ap}
use Rattle.wse_disk.specs.MemState.{MemState}
use Rattle.wse_disk.proofs.SoundLemmas.{sync_call}
use Rattle.wse_disk.proofs.mem.MemDisk.note_sync.Goals as goal

pub invariant_of-self-inside-2 : goal.invariant_of-self-inside-2
invariant_of-self-inside-2 c =
    let s = c.self.inside in
    let k = c.keep_first in
    let kept = sync_call s.first k.new.first s.files.files k.new.files.files s.areas s.calls.items c.sync_noted.new.calls.items s.files.changes k.new.files.changes k.new.files.changes
    s.sound c.self.invariant k.ensures.files k.ensures.first k.ensures.none k.ensures.made
    c.sync_noted.result c.args.failed c.in_ok-keep_first.ensures.kept c.sync_noted.ensures.noted c.sync_noted.ensures.same_calls in
    (kept.sound, tt)

pub invariant_of-self-2 : goal.invariant_of-self-2
invariant_of-self-2 c =
    let s = c.self.inside in
    let k = c.keep_first in
    let kept = sync_call s.first k.new.first s.files.files k.new.files.files s.areas s.calls.items c.sync_noted.new.calls.items s.files.changes k.new.files.changes k.new.files.changes
    s.sound c.self.invariant k.ensures.files k.ensures.first k.ensures.none k.ensures.made
    c.sync_noted.result c.args.failed c.in_ok-keep_first.ensures.kept c.sync_noted.ensures.noted c.sync_noted.ensures.same_calls in
    kept.held

pub returns-clause-first : goal.returns-clause-first
returns-clause-first c =
    let s = c.self.inside in
    let k = c.keep_first in
    let kept = sync_call s.first k.new.first s.files.files k.new.files.files s.areas s.calls.items c.sync_noted.new.calls.items s.files.changes k.new.files.changes k.new.files.changes
    s.sound c.self.invariant k.ensures.files k.ensures.first k.ensures.none k.ensures.made
    c.sync_noted.result c.args.failed c.in_ok-keep_first.ensures.kept c.sync_noted.ensures.noted c.sync_noted.ensures.same_calls in
    kept.same ∙ ap (λ (d : MemState). d.first) c.self.view_is
