use Rattle.std.proofs.Common.{inl}
use Rattle.wse_disk.specs.Changes.{ChangesOnly, ErasesFirst, erasing}
use Rattle.wse_disk.specs.Told.{reading_of}
use Rattle.wse_disk.proofs.WritingLemmas.{leads_on, both_done}
use Rattle.wse_disk.proofs.Moments.{weaker}
use Rattle.wse_disk.proofs.OrderLemmas.{erasing_only, both_parts, in_order}
use Rattle.wse_disk.proofs.changes.make_synced.Goals as goal

pub store_synced-requires : goal.store_synced-requires
store_synced-requires g c = leads_on c.args.changes.now (g.D.Disk.told c.args.disk.now) (g.D.Disk.told c.erase_synced.new.disk) c.requires c.in_ok-erase_synced.ensures.erased

pub returns-clause-changed : goal.returns-clause-changed
returns-clause-changed g c = both_done c.args.changes.now (g.D.Disk.told c.args.disk.now) (g.D.Disk.told c.erase_synced.new.disk) (g.D.Disk.told c.store_synced.new.disk) c.store_synced.result c.in_ok-erase_synced.ensures.erased c.store_synced.ensures.stored

pub returns-clause-during : goal.returns-clause-during
returns-clause-during g c = λ synced.
    both_parts c.args.changes.now (g.D.Disk.told c.args.disk.now) (g.D.Disk.told c.erase_synced.new.disk) (g.D.Disk.told c.store_synced.new.disk) c.requires c.in_ok-erase_synced.ensures.erased (c.erase_synced.ensures.during synced) (c.store_synced.ensures.during (c.in_ok-erase_synced.ensures.synced synced))

pub returns-clause-order : goal.returns-clause-order
returns-clause-order g c = λ synced.
    in_order c.args.changes.now (g.D.Disk.told c.args.disk.now) (g.D.Disk.told c.erase_synced.new.disk) (g.D.Disk.told c.store_synced.new.disk) c.in_ok-erase_synced.ensures.erased (c.erase_synced.ensures.during synced) (c.store_synced.ensures.during (c.in_ok-erase_synced.ensures.synced synced))

pub returns-in_err-erase_synced-clause-during : goal.returns-in_err-erase_synced-clause-during
returns-in_err-erase_synced-clause-during g c = λ synced.
    let old = g.D.Disk.told c.args.disk.now in
    weaker old (g.D.Disk.told c.erase_synced.new.disk) (ChangesOnly (erasing c.args.changes.now) (reading_of old)) (ChangesOnly c.args.changes.now (reading_of old)) (erasing_only c.args.changes.now (reading_of old)) (c.erase_synced.ensures.during synced)

pub returns-in_err-erase_synced-clause-order : goal.returns-in_err-erase_synced-clause-order
returns-in_err-erase_synced-clause-order g c = λ synced.
    let old = g.D.Disk.told c.args.disk.now in
    weaker old (g.D.Disk.told c.erase_synced.new.disk) (ChangesOnly (erasing c.args.changes.now) (reading_of old)) (ErasesFirst c.args.changes.now (reading_of old)) (λ image only. inl only) (c.erase_synced.ensures.during synced)
