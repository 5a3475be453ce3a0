use Rattle.std.proofs.Common.{◌-◌, [], ◌∷◌, arith}
use Rattle.wse_disk.specs.Reading.Write.{Patches}
use Rattle.wse_disk.specs.Image.{IsTorn}
use Rattle.wse_disk.specs.Told.{reading_of}
use Rattle.wse_disk.specs.Calls.{HasApplied}
use Rattle.wse_disk.proofs.Moments.{weaker}
use Rattle.wse_log.specs.Grammar.{settled_byte}
use Rattle.wse_txn.specs.Journal.{HasSettledJournal}
use Rattle.wse_txn.specs.Images.{IsClosing, IsClosed}
use Rattle.wse_txn.proofs.Results.{ok_then}
use Rattle.wse_txn.proofs.Writing.{closing_image, record_settled}
use Rattle.wse_txn.proofs.ToldSteps.{told_by_journal, written_told, mark_patchable, has_settled}
use Rattle.wse_txn.proofs.steps.settle_record.Goals as goal

pub write_synced-requires : goal.write_synced-requires
write_synced-requires g c = mark_patchable (g.D.Disk.told c.args.disk.now) c.args.area c.args.gate (settled_byte ∷ []) c.requires.gate (omega arith)

pub returns-clause-during : goal.returns-clause-during
returns-clause-during g c rests records body is =
    let a = c.args.area in
    let gate = c.args.gate in
    let old = g.D.Disk.told c.args.disk.now in
    weaker old (g.D.Disk.told c.write_synced.new.disk) (IsTorn a (gate - 1) 1 (reading_of old)) (IsClosing a records gate body (reading_of old))
    (closing_image a records gate body (reading_of old) is) (c.write_synced.ensures.during rests)

pub returns-clause-closed : goal.returns-clause-closed
returns-clause-closed g c records body is =
    let a = c.args.area in
    let gate = c.args.gate in
    let old = g.D.Disk.told c.args.disk.now in
    let new = g.D.Disk.told c.write_synced.new.disk in
    let w = Patches a (gate - 1) (settled_byte ∷ []) in
    ok_then c.write_synced.result (HasApplied w old new) (IsClosed a records gate body (reading_of old) (reading_of new))
    (λ wrote. record_settled a records gate body (reading_of old) is (reading_of new) (written_told w old new (told_by_journal a old _ gate is.journal) wrote)) c.write_synced.ensures.written

pub returns-clause-journal : goal.returns-clause-journal
returns-clause-journal g c body has =
    let a = c.args.area in
    let gate = c.args.gate in
    let old = g.D.Disk.told c.args.disk.now in
    let new = g.D.Disk.told c.write_synced.new.disk in
    ok_then c.write_synced.result (HasApplied (Patches a (gate - 1) (settled_byte ∷ [])) old new) (HasSettledJournal new a gate)
    (has_settled a gate body old new has) c.write_synced.ensures.written
