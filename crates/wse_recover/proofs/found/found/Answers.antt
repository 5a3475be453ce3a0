use Rattle.wse_recover.proofs.OpenedLemmas.{first_then}
use Rattle.wse_recover.specs.Open.{disk_of_open}
use Rattle.wse_recover.proofs.found.found.Goals as goal

pub returns-in-Ok-clause-during : goal.returns-in-Ok-clause-during
returns-in-Ok-clause-during g c = λ s stands.
    let told = g.D.Disk.told in
    first_then (told c.args.disk) (told c.read_synced.new.disk) (told (disk_of_open c.found_by.result)) s c.read_synced.ensures.untouched stands c.found_by.ensures.during
