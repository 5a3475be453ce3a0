use Rattle.std.proofs.Common.{refl, sym, ◌∙◌, ap, subst}
use Rattle.wse_path.specs.Tree.{put_file, HasRoom}
use Rattle.wse_disk.specs.Reading.{Reading}
use Rattle.wse_disk.specs.Reading.Write.{Stores}
use Rattle.wse_disk.specs.MemState.{MemState, reading}
use Rattle.wse_disk.specs.declared.call.Call.TheVariants.{Store}
use Rattle.wse_disk.proofs.SoundLemmas.{file_call}
use Rattle.wse_disk.proofs.mem.MemDisk.note_store.Goals as goal

pub invariant_of-self-inside-2 : goal.invariant_of-self-inside-2
invariant_of-self-inside-2 c =
    let s = c.self.inside in
    let k = c.keep_first in
    let kept = file_call s.first k.new.first s.files.files k.new.files.files s.areas s.calls.items c.store_noted.new.calls.items s.files.changes k.new.files.changes c.store_noted.new.files.changes
    s.sound c.self.invariant k.ensures.files k.ensures.first k.ensures.none k.ensures.made
    c.store_noted.result (Store c.args.path.now c.args.bytes.now c.args.failed) (Stores c.args.path.now c.args.bytes.now) c.args.failed (put_file k.new.files.files c.args.path.now c.args.bytes.now) c.store_noted.new.files.files (λ t. refl) c.in_ok-keep_first.ensures.kept
    (subst (λ (r : Reading). HasRoom r.files c.args.path.now) (sym (c.self.invariant.same ∙ ap reading c.self.view_is)) c.requires)
    refl c.store_noted.ensures.stored c.store_noted.ensures.same c.store_noted.ensures.noted c.store_noted.ensures.same_calls in
    (kept.sound, tt)

pub invariant_of-self-2 : goal.invariant_of-self-2
invariant_of-self-2 c =
    let s = c.self.inside in
    let k = c.keep_first in
    let kept = file_call s.first k.new.first s.files.files k.new.files.files s.areas s.calls.items c.store_noted.new.calls.items s.files.changes k.new.files.changes c.store_noted.new.files.changes
    s.sound c.self.invariant k.ensures.files k.ensures.first k.ensures.none k.ensures.made
    c.store_noted.result (Store c.args.path.now c.args.bytes.now c.args.failed) (Stores c.args.path.now c.args.bytes.now) c.args.failed (put_file k.new.files.files c.args.path.now c.args.bytes.now) c.store_noted.new.files.files (λ t. refl) c.in_ok-keep_first.ensures.kept
    (subst (λ (r : Reading). HasRoom r.files c.args.path.now) (sym (c.self.invariant.same ∙ ap reading c.self.view_is)) c.requires)
    refl c.store_noted.ensures.stored c.store_noted.ensures.same c.store_noted.ensures.noted c.store_noted.ensures.same_calls in
    kept.held

pub returns-clause-first : goal.returns-clause-first
returns-clause-first c =
    let s = c.self.inside in
    let k = c.keep_first in
    let kept = file_call s.first k.new.first s.files.files k.new.files.files s.areas s.calls.items c.store_noted.new.calls.items s.files.changes k.new.files.changes c.store_noted.new.files.changes
    s.sound c.self.invariant k.ensures.files k.ensures.first k.ensures.none k.ensures.made
    c.store_noted.result (Store c.args.path.now c.args.bytes.now c.args.failed) (Stores c.args.path.now c.args.bytes.now) c.args.failed (put_file k.new.files.files c.args.path.now c.args.bytes.now) c.store_noted.new.files.files (λ t. refl) c.in_ok-keep_first.ensures.kept
    (subst (λ (r : Reading). HasRoom r.files c.args.path.now) (sym (c.self.invariant.same ∙ ap reading c.self.view_is)) c.requires)
    refl c.store_noted.ensures.stored c.store_noted.ensures.same c.store_noted.ensures.noted c.store_noted.ensures.same_calls in
    kept.same ∙ ap (λ (d : MemState). d.first) c.self.view_is
