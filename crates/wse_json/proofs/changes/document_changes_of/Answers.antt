use Rattle.wse_json.specs.Operations.{document_changes_of}
use Rattle.wse_json.proofs.WalkLemmas.{after-nil}
use Rattle.wse_json.proofs.changes.document_changes_of.Goals as goal

pub loop-index-init : goal.loop-index-init
unfolding document_changes_of
loop-index-init c = rw c.new-all.ensures.items (after-nil _)
