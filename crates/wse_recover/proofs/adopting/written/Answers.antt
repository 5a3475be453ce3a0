use Rattle.std.proofs.Common.{ap, ◌∙◌}
use Rattle.wse_recover.specs.Comparing.{idle_in}
use Rattle.wse_recover.proofs.ComparingLemmas.{nothing_written}
use Rattle.wse_recover.proofs.adopting.written.Goals as goal

pub returns-clause-during : goal.returns-clause-during
returns-clause-during g c = λ s at may.
    let told = g.D.Disk.told in
    let same = c.into_disk.ensures ∙ ap (λ w. w.disk) c.idle_in.ensures ∙ ap (λ w. (idle_in w).disk) c.in-Err.ensures.back in
    nothing_written (told c.args.idle.disk) (told c.into_disk.result) c.args.idle.area c.args.idle.gate s _ c.requires.rests (ap told same) at
