use Rattle.std.proofs.Common.{ℕ, List, Ok, Err, sym, subst}
use Rattle.wse_log.specs.declared.step.Step.{Step}
use Rattle.wse_log.specs.declared.step.Step.TheVariants.{Entry}
use Rattle.wse_log.specs.Scan.{GivesInOrder}
use Rattle.wse_recover.specs.FirstRecord.{GivesFirstRead}
use Rattle.wse_recover.specs.declared.fault.ReplayFault.{ReplayFault}
use Rattle.wse_recover.proofs.FirstRecordLemmas.{first_begun, first_wrong, first_end}
use Rattle.wse_recover.proofs.first_record.read_first.Goals as goal

pub returns-in-Err-clause-gives : goal.returns-in-Err-clause-gives
returns-in-Err-clause-gives g c =
    let told = g.D.Disk.told c.args.disk.now in
    subst (λ (f : ReplayFault). GivesFirstRead told c.args.area (Err f)) (sym c.of_scan.ensures) (first_wrong told c.args.area c.in-Err.fault c.in-Err.ensures.in_order)

pub returns-in-End-clause-gives : goal.returns-in-End-clause-gives
returns-in-End-clause-gives g c =
    let told = g.D.Disk.told c.args.disk.now in
    first_end told c.args.area c.in-End.gate (subst (λ (step : Step). GivesInOrder told c.args.area 0 (Ok step)) c.in-End.is c.in-Ok.ensures.in_order)

pub returns-in-Entry-clause-gives : goal.returns-in-Entry-clause-gives
returns-in-Entry-clause-gives g c =
    let told = g.D.Disk.told c.args.disk.now in
    let e = c.in-Entry in
    first_begun told c.args.area c.as_slice.result.now e.gate e.settled e.next c.begin.result
    (subst (λ (b : List ℕ). GivesInOrder told c.args.area 0 (Ok (Entry b e.gate e.settled e.next))) (sym c.as_slice.ensures)
    (subst (λ (step : Step). GivesInOrder told c.args.area 0 (Ok step)) c.in-Entry.is c.in-Ok.ensures.in_order))
    c.begin.ensures.begun c.begin.ensures.next c.begin.ensures.refused
