use Rattle.wse_json.specs.Commands.{texts_of}
use Rattle.wse_json.proofs.WalkLemmas.{after-nil}
use Rattle.wse_json.proofs.command.texts_of.Goals as goal

pub loop-index-init : goal.loop-index-init
unfolding texts_of
loop-index-init c = rw c.new-all.ensures.items (after-nil _)
