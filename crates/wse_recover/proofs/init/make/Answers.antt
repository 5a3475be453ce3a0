use Rattle.std.proofs.Common.{◌<◌, ℕ, List, length, Option, None, sym, subst}
use Rattle.std.proofs.lemmas.Result.{err_from_is_err_and}
use Rattle.wse_disk.specs.declared.area.Area.TheVariants.{LogA}
use Rattle.wse_disk.specs.Standing.{Standing}
use Rattle.wse_disk.specs.Reading.Write.{Patches}
use Rattle.wse_disk.specs.Calls.{HasApplied}
use Rattle.wse_recover.specs.Init.{RefusesMaking}
use Rattle.wse_recover.proofs.InitLemmas.{has_made, hit_before, refuses, first_patchable, switch_patchable}
use Rattle.wse_recover.proofs.init.make.Goals as goal

pub write_synced-requires : goal.write_synced-requires
write_synced-requires g c =
    first_patchable (g.D.Disk.told c.first_journal.new.disk) c.as_slice.result.now
    (subst (λ (bytes : List ℕ). 0 < length bytes) (sym c.as_slice.ensures.value) c.in_ok-journal.ensures.some)

pub write_synced-requires-2 : goal.write_synced-requires-2
write_synced-requires-2 g c = switch_patchable (g.D.Disk.told c.write_synced.new.disk)

pub returns-in_err-journal-clause-refused : goal.returns-in_err-journal-clause-refused
returns-in_err-journal-clause-refused g c =
    let old = g.D.Disk.told c.args.disk.now in
    let why = c.in_err-journal.field-0.0 in
    let p = err_from_is_err_and c.from_residual-in_err-journal.result c.from_residual-in_err-journal.ensures.1 in
    rw (p.1, p.2) (subst (λ (t : Option Standing). RefusesMaking old t c.args.limits.now why) (sym c.in_err-journal.ensures.same)
    (refuses old (g.D.Disk.told c.sync.new.self) c.args.limits.now why (g.met.D.Disk.reads_an_image c.args.disk.now) c.in_ok-sync.ensures.syncs c.in_err-journal.ensures.refused))

pub returns-clause-made : goal.returns-clause-made
returns-clause-made g c =
    let start = g.D.Disk.told c.sync.new.self in
    let mid = g.D.Disk.told c.write_synced.new.disk in
    let log = subst (λ (t : Option Standing). HasApplied (Patches LogA 0 c.as_slice.result.now) t mid) c.in_ok-journal.ensures.same c.in_ok-write_synced.ensures.written in
    has_made (g.D.Disk.told c.args.disk.now) start mid (g.D.Disk.told c.write_synced-2.new.disk) c.in_ok-journal.journal.items c.in_ok-sync.ensures.syncs c.in_ok-journal.ensures.spelled
    (subst (λ (bytes : List ℕ). HasApplied (Patches LogA 0 bytes) start mid) c.as_slice.ensures.value log) c.in_ok-write_synced-2.ensures.written

pub returns-clause-fits : goal.returns-clause-fits
returns-clause-fits g c = hit_before (g.D.Disk.told c.args.disk.now) (g.D.Disk.told c.sync.new.self) c.args.limits.now None c.in_ok-sync.ensures.syncs c.in_ok-journal.ensures.fits
