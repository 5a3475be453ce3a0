-- Files while a record is finished.
use Rattle.wse_txn.proofs.SetLemmas.{set_alike, unchanged_where_unset}
use Rattle.wse_recover.specs.Laws.{FinishingStands}

pub finish : FinishingStands
finish sets files image tree differs =
    set_alike sets image files differs.tree.rises tree.rises (λ q none. differs.others q (unchanged_where_unset sets files q none))
