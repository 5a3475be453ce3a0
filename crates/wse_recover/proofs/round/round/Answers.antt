use Rattle.std.proofs.Common.{List, ℕ, Ok, subst}
use Rattle.wse_log.specs.declared.step.Step.{Step}
use Rattle.wse_log.specs.Scan.{GivesInOrder}
use Rattle.wse_recover.specs.Held.{held}
use Rattle.wse_recover.specs.Round.{Enters}
use Rattle.wse_recover.proofs.RoundLemmas.{round_entered}
use Rattle.wse_recover.proofs.round.round.Goals as goal

pub returns-in_ok-last-in-Entry-clause-gives : goal.returns-in_ok-last-in-Entry-clause-gives
returns-in_ok-last-in-Entry-clause-gives g c =
    let told = g.D.Disk.told c.args.disk.now in
    let old = held c.args.stacks.now c.args.versions.now in
    let new = held c.enter_body.new.stacks c.enter_body.new.versions in
    round_entered told c.args.area c.args.place old new c.in-Entry.body c.in-Entry.gate c.in-Entry.settled c.in-Entry.next c.in_ok-last-in-Entry.last
    (subst (λ (step : Step). GivesInOrder told c.args.area c.args.place (Ok step)) c.in-Entry.is c.in-Ok.ensures.in_order)
    (subst (λ (b : List ℕ). Enters c.in-Entry.settled old b new c.in_ok-last-in-Entry.last) c.as_slice.ensures c.in_ok-last-in-Entry.ensures.entered)
