use Rattle.std.proofs.Common.{sym, subst}
use Rattle.wse_element.specs.Record.{AreParts}
use Rattle.wse_history.proofs.PlanLemmas.{parts_are}
use Rattle.wse_slow_history.proofs.effects.made.Goals as goal

pub new-requires : goal.new-requires
new-requires c = subst AreParts (sym c.in_ok-parts.ensures) (parts_are c.args.changes.now c.requires.some c.requires.rise)
