use Rattle.std.proofs.Common.{◌≡◌, ◌-◌, sym, ◌∙◌, ap, subst}
use Rattle.std.specs.Prelude.{Bool, Option, Result, Ok, Err}
use Rattle.std.proofs.lemmas.Result.{err_from_is_err_and}
use Rattle.wse_disk.specs.Standing.{Standing}
use Rattle.wse_log.specs.declared.step.Step.{Step}
use Rattle.wse_log.specs.declared.step.ScanFault.{ScanFault}
use Rattle.wse_log.specs.Found.{ReadsGate, ReadsMark, ReadsRecord}
use Rattle.wse_log.specs.Scan.{GivesPiece}
use Rattle.wse_log.proofs.Finds.{gives_missing, gives_end, gives_unsettled, gives_cut, gives_entry}
use Rattle.wse_log.proofs.piece.scan_later.Goals as goal

pub returns-in_err-is_open-clause-piece : goal.returns-in_err-is_open-clause-piece
returns-in_err-is_open-clause-piece g c =
    let told = g.D.Disk.told c.args.disk.now in
    let p = err_from_is_err_and c.from_residual.result c.from_residual.ensures.1 in
    let is : c.from_residual.result ≡ Err c.in_err-is_open.field-0.0 = p.1 ∙ ap (λ (e : ScanFault). Err e) p.2 in
    subst (λ (r : Result Step ScanFault). GivesPiece told c.args.area c.args.gate r) (sym is)
    (gives_missing c.args.area c.args.len c.args.gate c.requires.later told c.in_err-is_open.field-0.0 c.in_err-is_open.ensures.reads)

pub returns-then-not-branch-clause-piece : goal.returns-then-not-branch-clause-piece
returns-then-not-branch-clause-piece g c =
    let told = g.D.Disk.told c.args.disk.now in
    let closed = subst (λ (b : Bool). ReadsGate told c.args.area c.args.gate (Ok b)) c.if-not-branch.true c.in_ok-is_open.ensures.reads in
    gives_end c.args.area c.args.len c.args.gate c.requires.later told c.requires.length c.in_ok-is_open.ensures.within closed

pub returns-in_err-check_settled-clause-piece : goal.returns-in_err-check_settled-clause-piece
returns-in_err-check_settled-clause-piece g c =
    let told = g.D.Disk.told c.args.disk.now in
    let p = err_from_is_err_and c.from_residual-in_err-check_settled.result c.from_residual-in_err-check_settled.ensures.1 in
    let is : c.from_residual-in_err-check_settled.result ≡ Err c.in_err-check_settled.field-0.0 = p.1 ∙ ap (λ (e : ScanFault). Err e) p.2 in
    let opened = subst (λ (b : Bool). ReadsGate told c.args.area c.args.gate (Ok b)) c.if-not-branch.false c.in_ok-is_open.ensures.reads in
    let mark = subst (λ (t : Option Standing). ReadsMark {T = Unit {0}} t c.args.area (c.args.gate - 1) (Err c.in_err-check_settled.field-0.0)) c.in_ok-is_open.ensures.same c.in_err-check_settled.ensures.reads in
    subst (λ (r : Result Step ScanFault). GivesPiece told c.args.area c.args.gate r) (sym is)
    (gives_unsettled c.args.area c.args.len c.args.gate c.requires.later told c.in_err-check_settled.field-0.0 c.requires.length c.in_ok-is_open.ensures.within opened mark)

pub returns-in_err-found-clause-piece : goal.returns-in_err-found-clause-piece
returns-in_err-found-clause-piece g c =
    let told = g.D.Disk.told c.args.disk.now in
    let p = err_from_is_err_and c.from_residual-in_err-found.result c.from_residual-in_err-found.ensures.1 in
    let is : c.from_residual-in_err-found.result ≡ Err c.in_err-found.field-0.0 = p.1 ∙ ap (λ (e : ScanFault). Err e) p.2 in
    let opened = subst (λ (b : Bool). ReadsGate told c.args.area c.args.gate (Ok b)) c.if-not-branch.false c.in_ok-is_open.ensures.reads in
    let mark = subst (λ (t : Option Standing). ReadsMark t c.args.area (c.args.gate - 1) (Ok (tt {0}))) c.in_ok-is_open.ensures.same c.in_ok-check_settled.ensures.reads in
    let reads = subst (λ (t : Option Standing). ReadsRecord t c.args.area c.args.gate (Err c.in_err-found.field-0.0)) (c.in_ok-check_settled.ensures.same ∙ c.in_ok-is_open.ensures.same) c.in_err-found.ensures.reads in
    subst (λ (r : Result Step ScanFault). GivesPiece told c.args.area c.args.gate r) (sym is)
    (gives_cut c.args.area c.args.len c.args.gate c.requires.later told (tt {0}) c.in_err-found.field-0.0 c.requires.length c.in_ok-is_open.ensures.within opened mark reads)

pub returns-clause-piece : goal.returns-clause-piece
returns-clause-piece g c =
    let told = g.D.Disk.told c.args.disk.now in
    let opened = subst (λ (b : Bool). ReadsGate told c.args.area c.args.gate (Ok b)) c.if-not-branch.false c.in_ok-is_open.ensures.reads in
    let mark = subst (λ (t : Option Standing). ReadsMark t c.args.area (c.args.gate - 1) (Ok (tt {0}))) c.in_ok-is_open.ensures.same c.in_ok-check_settled.ensures.reads in
    let reads = subst (λ (t : Option Standing). ReadsRecord t c.args.area c.args.gate (Ok c.in_ok-found.found)) (c.in_ok-check_settled.ensures.same ∙ c.in_ok-is_open.ensures.same) c.in_ok-found.ensures.reads in
    subst (λ (step : Step). GivesPiece told c.args.area c.args.gate (Ok step)) (sym c.entry.ensures)
    (gives_entry c.args.area c.args.len c.args.gate c.requires.later told (tt {0}) c.in_ok-found.found c.requires.length c.in_ok-is_open.ensures.within opened mark reads c.in_ok-found.ensures.short)
