use Rattle.std.proofs.Common.{◌+◌, List, ℕ, sym, ◌∙◌, subst, arith}
use Rattle.std.specs.Prelude.{Option, Ok}
use Rattle.wse_disk.specs.Standing.{Standing}
use Rattle.wse_disk.specs.Calls.{ReadsPart}
use Rattle.wse_log.specs.Reads.{ReadsByte}
use Rattle.wse_log.specs.Found.{ReadsRecord}
use Rattle.wse_log.proofs.Finds.{finds_too_short, finds_record}
use Rattle.wse_log.proofs.record.record_at.Goals as goal

pub returns-then-room-lt4-clause-reads : goal.returns-then-room-lt4-clause-reads
returns-then-room-lt4-clause-reads g c = finds_too_short (g.D.Disk.told c.args.disk.now) c.args.area c.args.len c.args.gate c.requires.length c.requires.within c.if-room-lt4.true

pub returns-clause-reads : goal.returns-clause-reads
returns-clause-reads g c =
    let told = g.D.Disk.told c.args.disk.now in
    let area = c.args.area in
    let gate = c.args.gate in
    let count = c.in_ok-count.count in
    let part = subst (λ (t : Option Standing). ReadsPart t area (gate + 5) count c.in_ok-body.body.items) c.in_ok-count.ensures.same c.in_ok-body.ensures.reads in
    let byte = subst (λ (t : Option Standing). ReadsByte t area (gate + 5 + count) c.in_ok-mark.mark) (c.in_ok-body.ensures.same ∙ c.in_ok-count.ensures.same) (subst (λ (n : ℕ). ReadsByte (g.D.Disk.told c.bytes_at.new.disk) area (gate + 5 + n) c.in_ok-mark.mark) c.from-2.ensures c.in_ok-mark.ensures.reads) in
    subst (λ (body : List ℕ). ReadsRecord told area gate (Ok (record { body = body; mark = c.in_ok-mark.mark }))) (sym c.new.ensures)
    (finds_record told area c.args.len gate count c.in_ok-mark.mark c.in_ok-body.body.items c.requires.length c.in_ok-count.ensures.reads part c.in_ok-body.ensures.count byte (omega arith))
