use Rattle.std.proofs.Common.{length, sym, subst}
use Rattle.wse_disk.specs.Reading.Write.{Patches}
use Rattle.wse_disk.specs.Image.{IsTorn}
use Rattle.wse_disk.specs.Told.{reading_of}
use Rattle.wse_disk.proofs.Moments.{one_call, joined, wrote_goes, synced_goes}
use Rattle.wse_disk.proofs.ImageLemmas.{torn_itself, torn_after, synced_images, synced_rests}
use Rattle.wse_disk.proofs.steps.write_synced.Goals as goal

pub returns-clause-rests : goal.returns-clause-rests
returns-clause-rests g c = synced_rests _ _ c.sync.result (g.met.D.Disk.reads_an_image c.area_write.new.self) (c.sync.ensures.syncs)

pub returns-in_err-area_write-clause-during : goal.returns-in_err-area_write-clause-during
returns-in_err-area_write-clause-during g c rests =
    let a = c.args.area in
    let n = length c.args.bytes.now in
    let old = g.D.Disk.told c.args.disk.now in
    let new = g.D.Disk.told c.area_write.new.self in
    let w = Patches a c.args.at c.args.bytes.now in
    let P = IsTorn a c.args.at n (reading_of old) in
    one_call old new P (wrote_goes w old new c.area_write.result c.area_write.ensures.writes)
    (λ image may. subst P (sym (rests image may)) (torn_itself a c.args.at n (reading_of old)))
    (torn_after a c.args.at c.args.bytes.now old new c.area_write.result (g.met.D.Disk.reads_an_image c.args.disk.now) rests c.area_write.ensures.writes)

pub returns-clause-during : goal.returns-clause-during
returns-clause-during g c rests =
    let a = c.args.area in
    let n = length c.args.bytes.now in
    let old = g.D.Disk.told c.args.disk.now in
    let mid = g.D.Disk.told c.area_write.new.self in
    let new = g.D.Disk.told c.sync.new.self in
    let w = Patches a c.args.at c.args.bytes.now in
    let P = IsTorn a c.args.at n (reading_of old) in
    let in_mid = torn_after a c.args.at c.args.bytes.now old mid c.area_write.result (g.met.D.Disk.reads_an_image c.args.disk.now) rests c.area_write.ensures.writes in
    joined old mid new P
    (one_call old mid P (wrote_goes w old mid c.area_write.result c.area_write.ensures.writes)
    (λ image may. subst P (sym (rests image may)) (torn_itself a c.args.at n (reading_of old))) in_mid)
    (one_call mid new P (synced_goes mid new c.sync.result c.sync.ensures.syncs) in_mid
    (λ image may. in_mid image (synced_images mid new c.sync.result (g.met.D.Disk.reads_an_image c.area_write.new.self) c.sync.ensures.syncs image may)))
