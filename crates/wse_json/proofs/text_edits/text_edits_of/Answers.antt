use Rattle.wse_json.specs.TextEdits.{text_edits_of}
use Rattle.wse_json.proofs.WalkLemmas.{after-nil}
use Rattle.wse_json.proofs.text_edits.text_edits_of.Goals as goal

pub loop-index-init : goal.loop-index-init
unfolding text_edits_of
loop-index-init c = rw c.new-all.ensures.items (after-nil _)
