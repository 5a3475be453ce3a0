use Rattle.wse_disk.proofs.Moments.{nothing_new, keeps_left, wrote_goes, synced_goes}
use Rattle.wse_disk.proofs.laws.images_go_on.Goals as goal

pub returns-clause-write : goal.returns-clause-write
returns-clause-write c = λ w old new result wrote moment image le left. nothing_new old new (wrote_goes w old new result wrote) moment image le left

pub returns-clause-sync : goal.returns-clause-sync
returns-clause-sync c = λ old new result synced moment image le left. nothing_new old new (synced_goes old new result synced) moment image le left

pub returns-clause-kept_by_write : goal.returns-clause-kept_by_write
returns-clause-kept_by_write c = λ w old new result wrote moment image le left. keeps_left old new (wrote_goes w old new result wrote) moment image le left

pub returns-clause-kept_by_sync : goal.returns-clause-kept_by_sync
returns-clause-kept_by_sync c = λ old new result synced moment image le left. keeps_left old new (synced_goes old new result synced) moment image le left
