use Rattle.std.proofs.lemmas.Result.{err_from_is_err_and}
use Rattle.std.proofs.Common.{◌∙◌, Option, Ok, Err, subst, arith}
use Rattle.wse_disk.specs.Standing.{Standing}
use Rattle.wse_log.specs.Scan.{IsAtPiece}
use Rattle.wse_recover.specs.declared.fault.Round.{Round}
use Rattle.wse_recover.specs.declared.fault.Round.TheVariants as variants
use Rattle.wse_recover.specs.Held.{held}
use Rattle.wse_recover.specs.Round.{GivesRound, Rises, RoundMayBeFinished, place_behind}
use Rattle.wse_recover.proofs.LoopLemmas.{goes_more, goes_end, goes_wrong}
use Rattle.wse_recover.proofs.replay.read_rest.Goals as goal

pub returns-in_err-gate-clause-gives : goal.returns-in_err-gate-clause-gives
returns-in_err-gate-clause-gives g c =
    let inv = c.loop-last.invariant in
    let now = held c.loop-last.stacks c.loop-last.versions in
    let new = held c.round.new.stacks c.round.new.versions in
    let p = err_from_is_err_and c.from_residual.result c.from_residual.ensures.1 in
    rw (p.1, p.2) (goes_wrong c.args.area c.args.place (held c.args.stacks.now c.args.versions.now) c.loop-last.at c.loop-last.last now new (g.D.Disk.told c.args.disk.now) c.in_err-gate.field-0.0
    (subst (λ (t : Option Standing). GivesRound t c.args.area c.loop-last.at now new (Err c.in_err-gate.field-0.0)) inv.told c.in_err-gate.ensures.gives)
    inv.goes)

pub returns-in-Ended-clause-gives : goal.returns-in-Ended-clause-gives
returns-in-Ended-clause-gives g c =
    let inv = c.loop-last.invariant in
    let now = held c.loop-last.stacks c.loop-last.versions in
    let new = held c.round.new.stacks c.round.new.versions in
    let gives = subst (λ (r : Round). GivesRound (g.D.Disk.told c.loop-last.disk) c.args.area c.loop-last.at now new (Ok r)) c.in-Ended.is c.in_ok-gate.ensures.gives in
    goes_end c.args.area c.args.place (held c.args.stacks.now c.args.versions.now) c.loop-last.at c.loop-last.last now new (g.D.Disk.told c.args.disk.now) c.in-Ended.gate
    (subst (λ (t : Option Standing). GivesRound t c.args.area c.loop-last.at now new (Ok (variants.Ended c.in-Ended.gate))) inv.told gives)
    inv.goes

pub loop-last-preserved : goal.loop-last-preserved
loop-last-preserved g c =
    let inv = c.loop-last.invariant in
    let now = held c.loop-last.stacks c.loop-last.versions in
    let new = held c.round.new.stacks c.round.new.versions in
    let kept = c.in-Entered.kept in
    let next = c.in-Entered.next in
    let gives = subst (λ (r : Round). GivesRound (g.D.Disk.told c.loop-last.disk) c.args.area c.loop-last.at now new (Ok r)) c.in-Entered.is c.in_ok-gate.ensures.gives in
    let rises = subst (λ (r : Round). Rises c.loop-last.at r) c.in-Entered.is c.in_ok-gate.ensures.rises in
    record {
      told = c.round.ensures.same ∙ inv.told;
      later = omega (arith, inv.later, c.round.ensures.later);
      count = c.in_ok-gate.ensures.kept (λ k. cc) ∙ inv.count;
      piece = subst (λ (r : Round). IsAtPiece (g.D.Disk.told c.round.new.disk) c.args.area (place_behind r)) c.in-Entered.is c.in_ok-gate.ensures.goes_on;
      behind = omega (arith, rises.0, inv.behind);
      small = rises.1;
      bounded = c.in_ok-gate.ensures.bounded;
      goes = goes_more c.args.area c.args.place (held c.args.stacks.now c.args.versions.now) c.loop-last.at c.loop-last.last now new (g.D.Disk.told c.args.disk.now) kept next
          (subst (λ (t : Option Standing). GivesRound t c.args.area c.loop-last.at now new (Ok (variants.Entered kept next))) inv.told gives)
          inv.goes;
      come = subst RoundMayBeFinished c.in-Entered.is c.in_ok-gate.ensures.come;
    }
