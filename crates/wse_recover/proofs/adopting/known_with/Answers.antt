use Rattle.wse_recover.proofs.AdoptingLemmas.{knows_more, knows_all, KnowsFirst}
use Rattle.std.proofs.Common.{ℕ, ◌+◌, sym, subst}
use Rattle.wse_recover.proofs.adopting.known_with.Goals as goal

pub loop-path-preserved : goal.loop-path-preserved
loop-path-preserved c =
    let i = c.loop-path.path-index in
    subst (λ (n : ℕ). KnowsFirst c.args.versions.now.entries c.args.paths.now (i + 1) n) (sym c.saturating_add-known.ensures)
    (knows_more c.args.versions.now c.args.paths.now i c.loop-path.known c.new_known.result c.path-item.result c.requires.rises c.loop-path-test.true c.path-item.is c.loop-path.invariant c.new_known.ensures)

pub returns : goal.returns
returns c = knows_all c.args.versions.now.entries c.args.paths.now c.loop-path.path-index c.loop-path.known c.requires.rises c.loop-path-test.false c.loop-path.invariant
