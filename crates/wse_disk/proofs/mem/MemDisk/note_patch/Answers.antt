use Rattle.std.proofs.Common.{refl, sym, ◌∙◌, ap, subst, length, ◌≤◌}
use Rattle.wse_disk.specs.Reading.{Reading, area_of}
use Rattle.wse_disk.specs.Reading.Write.{Patches}
use Rattle.wse_disk.specs.MemState.{MemState, reading}
use Rattle.wse_disk.specs.declared.call.Call.TheVariants.{Patch}
use Rattle.wse_disk.proofs.SoundLemmas.{area_call}
use Rattle.wse_disk.proofs.mem.MemDisk.note_patch.Goals as goal

pub invariant_of-self-inside-2 : goal.invariant_of-self-inside-2
invariant_of-self-inside-2 c =
    let s = c.self.inside in
    let k = c.keep_first in
    let kept = area_call s.first k.new.first s.files.files k.new.files.files s.areas s.calls.items c.patch_noted.new.calls.items s.files.changes k.new.files.changes k.new.files.changes
    s.sound c.self.invariant k.ensures.files k.ensures.first k.ensures.none k.ensures.made
    c.patch_noted.result (Patch c.args.area c.args.at c.args.bytes.now c.args.failed) (Patches c.args.area c.args.at c.args.bytes.now) c.args.failed c.patch_noted.new.areas (λ t. refl) c.in_ok-keep_first.ensures.kept
    (subst (λ (r : Reading). c.args.at ≤ length (area_of c.args.area r)) (sym (c.self.invariant.same ∙ ap reading c.self.view_is)) c.requires)
    c.patch_noted.ensures.patched c.patch_noted.ensures.same c.patch_noted.ensures.noted c.patch_noted.ensures.same_calls in
    (kept.sound, tt)

pub invariant_of-self-2 : goal.invariant_of-self-2
invariant_of-self-2 c =
    let s = c.self.inside in
    let k = c.keep_first in
    let kept = area_call s.first k.new.first s.files.files k.new.files.files s.areas s.calls.items c.patch_noted.new.calls.items s.files.changes k.new.files.changes k.new.files.changes
    s.sound c.self.invariant k.ensures.files k.ensures.first k.ensures.none k.ensures.made
    c.patch_noted.result (Patch c.args.area c.args.at c.args.bytes.now c.args.failed) (Patches c.args.area c.args.at c.args.bytes.now) c.args.failed c.patch_noted.new.areas (λ t. refl) c.in_ok-keep_first.ensures.kept
    (subst (λ (r : Reading). c.args.at ≤ length (area_of c.args.area r)) (sym (c.self.invariant.same ∙ ap reading c.self.view_is)) c.requires)
    c.patch_noted.ensures.patched c.patch_noted.ensures.same c.patch_noted.ensures.noted c.patch_noted.ensures.same_calls in
    kept.held

pub returns-clause-first : goal.returns-clause-first
returns-clause-first c =
    let s = c.self.inside in
    let k = c.keep_first in
    let kept = area_call s.first k.new.first s.files.files k.new.files.files s.areas s.calls.items c.patch_noted.new.calls.items s.files.changes k.new.files.changes k.new.files.changes
    s.sound c.self.invariant k.ensures.files k.ensures.first k.ensures.none k.ensures.made
    c.patch_noted.result (Patch c.args.area c.args.at c.args.bytes.now c.args.failed) (Patches c.args.area c.args.at c.args.bytes.now) c.args.failed c.patch_noted.new.areas (λ t. refl) c.in_ok-keep_first.ensures.kept
    (subst (λ (r : Reading). c.args.at ≤ length (area_of c.args.area r)) (sym (c.self.invariant.same ∙ ap reading c.self.view_is)) c.requires)
    c.patch_noted.ensures.patched c.patch_noted.ensures.same c.patch_noted.ensures.noted c.patch_noted.ensures.same_calls in
    kept.same ∙ ap (λ (d : MemState). d.first) c.self.view_is
