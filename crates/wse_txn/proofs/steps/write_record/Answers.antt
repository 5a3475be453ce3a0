use Rattle.std.proofs.Common.{ℕ, ◌+◌, List, [], ◌∷◌, length, subst}
use Rattle.wse_disk.specs.Reading.Write.{Patches}
use Rattle.wse_disk.specs.Image.{IsTorn}
use Rattle.wse_disk.specs.Told.{reading_of}
use Rattle.wse_disk.specs.Calls.{HasApplied}
use Rattle.wse_disk.proofs.Moments.{joined, weaker}
use Rattle.wse_log.specs.Grammar.{open_gate}
use Rattle.wse_log.specs.Writing.{staging}
use Rattle.wse_txn.specs.Images.{IsSealing, IsSealed}
use Rattle.wse_txn.specs.Steps.{HasSealed}
use Rattle.wse_txn.proofs.Results.{ok_then}
use Rattle.wse_txn.proofs.Writing.{first_image, second_image, record_written}
use Rattle.wse_txn.proofs.ToldSteps.{told_by_journal, written_told, told_on, has_sealed}
use Rattle.wse_txn.proofs.steps.write_record.Goals as goal

pub returns-in_err-write_synced-clause-during : goal.returns-in_err-write_synced-clause-during
returns-in_err-write_synced-clause-during g c rests records body is staged =
    let a = c.args.area in
    let old = g.D.Disk.told c.args.disk.now in
    let n = length c.args.staged.now in
    weaker old (g.D.Disk.told c.write_synced.new.disk) (IsTorn a (c.args.gate + 1) n (reading_of old)) (IsSealing a records c.args.gate body (reading_of old))
    (first_image a records c.args.gate body (reading_of old) is n) (c.write_synced.ensures.during rests)

pub returns-clause-during : goal.returns-clause-during
returns-clause-during g c rests records body is staged =
    let a = c.args.area in
    let gate = c.args.gate in
    let n = length c.args.staged.now in
    let old = g.D.Disk.told c.args.disk.now in
    let mid = g.D.Disk.told c.write_synced.new.disk in
    let new = g.D.Disk.told c.write_synced-2.new.disk in
    let P = IsSealing a records gate body (reading_of old) in
    let wrote = subst (λ (bytes : List ℕ). HasApplied (Patches a (gate + 1) bytes) old mid) staged.spelled c.in_ok-write_synced.ensures.written in
    let is_mid = written_told (Patches a (gate + 1) (staging body)) old mid (told_by_journal a old records gate is.journal) wrote in
    joined old mid new P
    (weaker old mid (IsTorn a (gate + 1) n (reading_of old)) P (first_image a records gate body (reading_of old) is n) (c.write_synced.ensures.during rests))
    (weaker mid new (IsTorn a gate 1 (reading_of mid)) P (second_image a records gate body (reading_of old) is staged.short (reading_of mid) is_mid) (c.write_synced-2.ensures.during c.in_ok-write_synced.ensures.rests))

pub returns-clause-sealed : goal.returns-clause-sealed
returns-clause-sealed g c records body is staged =
    let a = c.args.area in
    let gate = c.args.gate in
    let old = g.D.Disk.told c.args.disk.now in
    let mid = g.D.Disk.told c.write_synced.new.disk in
    let new = g.D.Disk.told c.write_synced-2.new.disk in
    let w = Patches a (gate + 1) (staging body) in
    let some = told_by_journal a old records gate is.journal in
    let wrote = subst (λ (bytes : List ℕ). HasApplied (Patches a (gate + 1) bytes) old mid) staged.spelled c.in_ok-write_synced.ensures.written in
    ok_then c.write_synced-2.result (HasApplied (Patches a gate (open_gate ∷ [])) mid new) (IsSealed a records gate body (reading_of old) (reading_of new))
    (λ next. record_written a records gate body (reading_of old) is staged.short (reading_of mid) (written_told w old mid some wrote) (reading_of new)
    (written_told (Patches a gate (open_gate ∷ [])) mid new (told_on w old mid some wrote) next))
    c.write_synced-2.ensures.written

pub returns-clause-journal : goal.returns-clause-journal
returns-clause-journal g c body has staged =
    let a = c.args.area in
    let gate = c.args.gate in
    let old = g.D.Disk.told c.args.disk.now in
    let mid = g.D.Disk.told c.write_synced.new.disk in
    let new = g.D.Disk.told c.write_synced-2.new.disk in
    let wrote = subst (λ (bytes : List ℕ). HasApplied (Patches a (gate + 1) bytes) old mid) staged.spelled c.in_ok-write_synced.ensures.written in
    ok_then c.write_synced-2.result (HasApplied (Patches a gate (open_gate ∷ [])) mid new) (HasSealed a gate body old new)
    (has_sealed a gate body old mid new staged.short has wrote) c.write_synced-2.ensures.written
