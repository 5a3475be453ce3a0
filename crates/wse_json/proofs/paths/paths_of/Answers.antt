use Rattle.wse_json.specs.Commands.{paths_of}
use Rattle.wse_json.proofs.WalkLemmas.{after-nil}
use Rattle.wse_json.proofs.paths.paths_of.Goals as goal

pub loop-index-init : goal.loop-index-init
unfolding paths_of
loop-index-init c = rw c.new-all.ensures.items (after-nil _)
