use Rattle.wse_disk.proofs.WritingLemmas.{leads_on}
use Rattle.wse_disk.proofs.changes.change_synced.Goals as goal

pub store_all-requires : goal.store_all-requires
store_all-requires g c = leads_on c.args.changes.now (g.D.Disk.told c.args.disk.now) (g.D.Disk.told c.erase_all.new.disk) c.requires c.in_ok-erase_all.ensures.erased
