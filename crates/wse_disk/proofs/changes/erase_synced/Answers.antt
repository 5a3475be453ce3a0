use Rattle.std.proofs.Common.{sym, ◌∙◌}
use Rattle.wse_disk.specs.Changes.{erasing}
use Rattle.wse_disk.proofs.WritingLemmas.{begins, then_synced, read_synced_ok, none_erased, nothing_done}
use Rattle.wse_disk.proofs.ImageLemmas.{is_synced}
use Rattle.wse_disk.proofs.changes.erase_synced.Goals as goal

pub returns-then-not-take_away-clause-erased : goal.returns-then-not-take_away-clause-erased
returns-then-not-take_away-clause-erased g c = none_erased c.args.changes.now (g.D.Disk.told c.args.disk.now) (sym c.take_away.ensures ∙ c.if-not-take_away.true)

pub returns-then-not-take_away-clause-during : goal.returns-then-not-take_away-clause-during
returns-then-not-take_away-clause-during g c = λ synced. nothing_done (erasing c.args.changes.now) (g.D.Disk.told c.args.disk.now) synced

pub returns-in_err-erase_all-clause-during : goal.returns-in_err-erase_all-clause-during
returns-in_err-erase_all-clause-during g c = λ synced. (c.erase_all.ensures.writing (g.D.Disk.told c.args.disk.now) (begins (erasing c.args.changes.now) (g.D.Disk.told c.args.disk.now) synced)).leaves

pub returns-clause-erased : goal.returns-clause-erased
returns-clause-erased g c = read_synced_ok _ (g.D.Disk.told c.args.disk.now) (g.D.Disk.told c.erase_all.new.disk) (g.D.Disk.told c.sync.new.self) c.sync.result c.in_ok-erase_all.ensures.erased c.sync.ensures.syncs

pub returns-clause-synced : goal.returns-clause-synced
returns-clause-synced g c = λ synced. is_synced (g.D.Disk.told c.erase_all.new.disk) (g.D.Disk.told c.sync.new.self) c.sync.result c.sync.ensures.syncs

pub returns-clause-during : goal.returns-clause-during
returns-clause-during g c = λ synced.
    then_synced (erasing c.args.changes.now) (g.D.Disk.told c.args.disk.now) (g.D.Disk.told c.erase_all.new.disk) (g.D.Disk.told c.sync.new.self) c.sync.result (g.met.D.Disk.reads_an_image c.erase_all.new.disk) c.sync.ensures.syncs
    (c.erase_all.ensures.writing (g.D.Disk.told c.args.disk.now) (begins (erasing c.args.changes.now) (g.D.Disk.told c.args.disk.now) synced))
