use Rattle.wse_recover.proofs.AdoptingLemmas.{KnowsFirst}
use Rattle.wse_recover.proofs.adopting.known_with.Given as goal

abbrev pub invariant-loop-path : goal.invariant-loop-path
invariant-loop-path l = KnowsFirst l.versions.entries l.paths l.path-index l.known
