use Rattle.std.proofs.Common.{rules, Some, ◌≡◌, ℕ, List, ◌∷◌, ◌++◌}
use Rattle.wse_edits.specs.Words.{refused_text}
use Rattle.wse_edits.proofs.refused.EditsRefusedDisplay.fmt.Goals as goal

pub returns-in-Inside-clause-writes : goal.returns-in-Inside-clause-writes
returns-in-Inside-clause-writes g c = rw c.in-Inside.is c.write.ensures.writes
