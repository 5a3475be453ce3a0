use Rattle.std.proofs.Common.{[], sym, subst}
use Rattle.wse_locks.specs.Locks.{Holders}
use Rattle.wse_history.specs.History.{state_in, IsHistory}
use Rattle.wse_history.proofs.ShapeLemmas.{none_is_zero}
use Rattle.wse_history.proofs.history.History.new.Goals as goal

pub invariant_of-result : goal.invariant_of-result
invariant_of-result c =
    let a = c.args in
    let history : IsHistory (state_in a.stacks.state a.versions.entries a.tree.files []) a.limits = record {
      linked = c.requires.linked;
      parts = c.requires.parts;
      told = none_is_zero a.versions.entries c.requires.linked.kept.some;
      within = c.requires.within;
      fits = c.requires.fits;
    } in
    (subst (λ (locks : Holders). IsHistory (state_in a.stacks.state a.versions.entries a.tree.files locks) a.limits) (sym c.new.ensures) history, tt)
