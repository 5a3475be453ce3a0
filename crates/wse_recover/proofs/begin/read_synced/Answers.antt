use Rattle.std.proofs.Common.{Option, sym, subst}
use Rattle.wse_disk.specs.Standing.{Standing}
use Rattle.wse_recover.specs.Untouched.{IsUntouched}
use Rattle.wse_recover.proofs.OpeningLemmas.{sync_untouched, journal_in, refused_in}
use Rattle.wse_recover.proofs.begin.read_synced.Goals as goal

pub returns-in_err-sync-clause-untouched : goal.returns-in_err-sync-clause-untouched
returns-in_err-sync-clause-untouched g c =
    sync_untouched (g.D.Disk.told c.args.disk.now) (g.D.Disk.told c.sync.new.self) c.sync.result (g.met.D.Disk.reads_an_image c.args.disk.now) c.sync.ensures.syncs

pub returns-clause-journal : goal.returns-clause-journal
returns-clause-journal g c =
    journal_in (g.D.Disk.told c.sync.new.self) (g.D.Disk.told c.read_journal.new.disk) c.read_journal.result c.read_journal.ensures.same c.read_journal.ensures.chosen c.read_journal.ensures.gives

pub returns-clause-refused : goal.returns-clause-refused
returns-clause-refused g c =
    let untouched = sync_untouched (g.D.Disk.told c.args.disk.now) (g.D.Disk.told c.sync.new.self) c.sync.result (g.met.D.Disk.reads_an_image c.args.disk.now) c.sync.ensures.syncs in
    refused_in (g.D.Disk.told c.args.disk.now) (g.D.Disk.told c.sync.new.self) c.read_journal.result untouched.reading c.read_journal.ensures.gives

pub returns-clause-untouched : goal.returns-clause-untouched
returns-clause-untouched g c =
    subst (λ (t : Option Standing). IsUntouched (g.D.Disk.told c.args.disk.now) t) (sym c.read_journal.ensures.same)
    (sync_untouched (g.D.Disk.told c.args.disk.now) (g.D.Disk.told c.sync.new.self) c.sync.result (g.met.D.Disk.reads_an_image c.args.disk.now) c.sync.ensures.syncs)
