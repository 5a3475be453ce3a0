use Rattle.std.proofs.Common.{sym, ◌∙◌}
use Rattle.wse_disk.specs.Changes.{storing}
use Rattle.wse_disk.proofs.WritingLemmas.{begins, then_synced, read_synced_ok, none_stored, nothing_done}
use Rattle.wse_disk.proofs.ImageLemmas.{is_synced}
use Rattle.wse_disk.proofs.changes.store_synced.Goals as goal

pub returns-then-not-put-clause-stored : goal.returns-then-not-put-clause-stored
returns-then-not-put-clause-stored g c = none_stored c.args.changes.now (g.D.Disk.told c.args.disk.now) (sym c.put.ensures ∙ c.if-not-put.true)

pub returns-then-not-put-clause-during : goal.returns-then-not-put-clause-during
returns-then-not-put-clause-during g c = λ synced. nothing_done (storing c.args.changes.now) (g.D.Disk.told c.args.disk.now) synced

pub returns-in_err-store_all-clause-during : goal.returns-in_err-store_all-clause-during
returns-in_err-store_all-clause-during g c = λ synced. (c.store_all.ensures.writing (g.D.Disk.told c.args.disk.now) (begins (storing c.args.changes.now) (g.D.Disk.told c.args.disk.now) synced)).leaves

pub returns-clause-stored : goal.returns-clause-stored
returns-clause-stored g c = read_synced_ok _ (g.D.Disk.told c.args.disk.now) (g.D.Disk.told c.store_all.new.disk) (g.D.Disk.told c.sync.new.self) c.sync.result c.in_ok-store_all.ensures.stored c.sync.ensures.syncs

pub returns-clause-synced : goal.returns-clause-synced
returns-clause-synced g c = λ synced. is_synced (g.D.Disk.told c.store_all.new.disk) (g.D.Disk.told c.sync.new.self) c.sync.result c.sync.ensures.syncs

pub returns-clause-during : goal.returns-clause-during
returns-clause-during g c = λ synced.
    then_synced (storing c.args.changes.now) (g.D.Disk.told c.args.disk.now) (g.D.Disk.told c.store_all.new.disk) (g.D.Disk.told c.sync.new.self) c.sync.result (g.met.D.Disk.reads_an_image c.store_all.new.disk) c.sync.ensures.syncs
    (c.store_all.ensures.writing (g.D.Disk.told c.args.disk.now) (begins (storing c.args.changes.now) (g.D.Disk.told c.args.disk.now) synced))
