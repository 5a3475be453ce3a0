use Rattle.std.proofs.Common.{refl, ◌∙◌, ap}
use Rattle.wse_path.specs.Tree.{remove_file}
use Rattle.wse_disk.specs.Reading.Write.{Erases}
use Rattle.wse_disk.specs.MemState.{MemState}
use Rattle.wse_disk.specs.declared.call.Call.TheVariants.{Erase}
use Rattle.wse_disk.proofs.SoundLemmas.{file_call}
use Rattle.wse_disk.proofs.mem.MemDisk.note_erase.Goals as goal

pub invariant_of-self-inside-2 : goal.invariant_of-self-inside-2
invariant_of-self-inside-2 c =
    let s = c.self.inside in
    let k = c.keep_first in
    let kept = file_call s.first k.new.first s.files.files k.new.files.files s.areas s.calls.items c.erase_noted.new.calls.items s.files.changes k.new.files.changes c.erase_noted.new.files.changes
    s.sound c.self.invariant k.ensures.files k.ensures.first k.ensures.none k.ensures.made
    c.erase_noted.result (Erase c.args.path.now c.args.failed) (Erases c.args.path.now) c.args.failed (remove_file k.new.files.files c.args.path.now) c.erase_noted.new.files.files (λ t. refl) c.in_ok-keep_first.ensures.kept
    tt refl c.erase_noted.ensures.erased c.erase_noted.ensures.same c.erase_noted.ensures.noted c.erase_noted.ensures.same_calls in
    (kept.sound, tt)

pub invariant_of-self-2 : goal.invariant_of-self-2
invariant_of-self-2 c =
    let s = c.self.inside in
    let k = c.keep_first in
    let kept = file_call s.first k.new.first s.files.files k.new.files.files s.areas s.calls.items c.erase_noted.new.calls.items s.files.changes k.new.files.changes c.erase_noted.new.files.changes
    s.sound c.self.invariant k.ensures.files k.ensures.first k.ensures.none k.ensures.made
    c.erase_noted.result (Erase c.args.path.now c.args.failed) (Erases c.args.path.now) c.args.failed (remove_file k.new.files.files c.args.path.now) c.erase_noted.new.files.files (λ t. refl) c.in_ok-keep_first.ensures.kept
    tt refl c.erase_noted.ensures.erased c.erase_noted.ensures.same c.erase_noted.ensures.noted c.erase_noted.ensures.same_calls in
    kept.held

pub returns-clause-first : goal.returns-clause-first
returns-clause-first c =
    let s = c.self.inside in
    let k = c.keep_first in
    let kept = file_call s.first k.new.first s.files.files k.new.files.files s.areas s.calls.items c.erase_noted.new.calls.items s.files.changes k.new.files.changes c.erase_noted.new.files.changes
    s.sound c.self.invariant k.ensures.files k.ensures.first k.ensures.none k.ensures.made
    c.erase_noted.result (Erase c.args.path.now c.args.failed) (Erases c.args.path.now) c.args.failed (remove_file k.new.files.files c.args.path.now) c.erase_noted.new.files.files (λ t. refl) c.in_ok-keep_first.ensures.kept
    tt refl c.erase_noted.ensures.erased c.erase_noted.ensures.same c.erase_noted.ensures.noted c.erase_noted.ensures.same_calls in
    kept.same ∙ ap (λ (d : MemState). d.first) c.self.view_is
