use Rattle.std.proofs.Common.{false, sym, subst}
use Rattle.wse_path.specs.declared.limits.Limits.{Limits}
use Rattle.wse_run.specs.Complete.{IsOpenable}
use Rattle.wsedit.proofs.program.run.Goals as goal

pub returns-clause-complete : goal.returns-clause-complete
returns-clause-complete g c = λ tree store root adopt max_input asked s told is calm.
    c.run_within.ensures.complete tree store root adopt max_input asked s told (subst (λ (l : Limits). IsOpenable adopt l s.reading) (sym c.standard.ensures) is) calm

pub returns-clause-shows : goal.returns-clause-shows
returns-clause-shows g c = λ tree store asked s told is out calm.
    c.run_within.ensures.shows tree store asked s told (subst (λ (l : Limits). IsOpenable false l s.reading) (sym c.standard.ensures) is) out calm
