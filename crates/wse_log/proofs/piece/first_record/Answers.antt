use Rattle.std.proofs.Common.{◌≡◌, ◌+◌, ℕ, sym, ◌∙◌, ap, subst}
use Rattle.std.specs.Prelude.{Bool, Option, Result, Ok, Err}
use Rattle.std.proofs.lemmas.Bool.{eqb-true, eqb-false}
use Rattle.std.proofs.lemmas.Result.{err_from_is_err_and}
use Rattle.wse_disk.specs.Standing.{Standing}
use Rattle.wse_log.specs.declared.step.Step.{Step}
use Rattle.wse_log.specs.declared.step.ScanFault.{ScanFault}
use Rattle.wse_log.specs.Found.{ReadsGate, ReadsRecord}
use Rattle.wse_log.specs.Grammar.{settled_byte}
use Rattle.wse_log.specs.Scan.{GivesPiece}
use Rattle.wse_log.proofs.Finds.{gives_missing_first, gives_never_opened, gives_first_cut, gives_first_unsettled, gives_first}
use Rattle.wse_log.proofs.piece.first_record.Goals as goal

pub returns-in_err-is_open-clause-piece : goal.returns-in_err-is_open-clause-piece
returns-in_err-is_open-clause-piece g c =
    let told = g.D.Disk.told c.args.disk.now in
    let p = err_from_is_err_and c.from_residual.result c.from_residual.ensures.1 in
    let is : c.from_residual.result ≡ Err c.in_err-is_open.field-0.0 = p.1 ∙ ap (λ (e : ScanFault). Err e) p.2 in
    subst (λ (r : Result Step ScanFault). GivesPiece told c.args.area 0 r) (sym is)
    (gives_missing_first c.args.area c.args.len told c.in_err-is_open.field-0.0 c.requires.header c.in_err-is_open.ensures.reads)

pub returns-then-not-branch-clause-piece : goal.returns-then-not-branch-clause-piece
returns-then-not-branch-clause-piece g c =
    let told = g.D.Disk.told c.args.disk.now in
    let closed = subst (λ (b : Bool). ReadsGate told c.args.area 8 (Ok b)) c.if-not-branch.true c.in_ok-is_open.ensures.reads in
    gives_never_opened c.args.area c.args.len told c.requires.header c.requires.length c.in_ok-is_open.ensures.within closed

pub returns-in_err-found-clause-piece : goal.returns-in_err-found-clause-piece
returns-in_err-found-clause-piece g c =
    let told = g.D.Disk.told c.args.disk.now in
    let p = err_from_is_err_and c.from_residual-in_err-found.result c.from_residual-in_err-found.ensures.1 in
    let is : c.from_residual-in_err-found.result ≡ Err c.in_err-found.field-0.0 = p.1 ∙ ap (λ (e : ScanFault). Err e) p.2 in
    let opened = subst (λ (b : Bool). ReadsGate told c.args.area 8 (Ok b)) c.if-not-branch.false c.in_ok-is_open.ensures.reads in
    let reads = subst (λ (t : Option Standing). ReadsRecord t c.args.area 8 (Err c.in_err-found.field-0.0)) c.in_ok-is_open.ensures.same c.in_err-found.ensures.reads in
    subst (λ (r : Result Step ScanFault). GivesPiece told c.args.area 0 r) (sym is)
    (gives_first_cut c.args.area c.args.len told c.in_err-found.field-0.0 c.requires.header c.requires.length c.in_ok-is_open.ensures.within opened reads)

pub returns-then-not-is_settled-clause-piece : goal.returns-then-not-is_settled-clause-piece
returns-then-not-is_settled-clause-piece g c =
    let told = g.D.Disk.told c.args.disk.now in
    let opened = subst (λ (b : Bool). ReadsGate told c.args.area 8 (Ok b)) c.if-not-branch.false c.in_ok-is_open.ensures.reads in
    let reads = subst (λ (t : Option Standing). ReadsRecord t c.args.area 8 (Ok c.in_ok-found.found)) c.in_ok-is_open.ensures.same c.in_ok-found.ensures.reads in
    gives_first_unsettled c.args.area c.args.len told c.in_ok-found.found (13 + c.len.result) c.requires.header c.requires.length c.in_ok-is_open.ensures.within opened reads c.in_ok-found.ensures.short (eqb-false c.in_ok-found.found.mark settled_byte (sym c.is_settled.ensures ∙ c.if-not-is_settled.true)) (ap (λ (n : ℕ). 13 + n) c.len.ensures)

pub returns-clause-piece : goal.returns-clause-piece
returns-clause-piece g c =
    let told = g.D.Disk.told c.args.disk.now in
    let opened = subst (λ (b : Bool). ReadsGate told c.args.area 8 (Ok b)) c.if-not-branch.false c.in_ok-is_open.ensures.reads in
    let reads = subst (λ (t : Option Standing). ReadsRecord t c.args.area 8 (Ok c.in_ok-found.found)) c.in_ok-is_open.ensures.same c.in_ok-found.ensures.reads in
    subst (λ (step : Step). GivesPiece told c.args.area 0 (Ok step)) (sym c.entry.ensures)
    (gives_first c.args.area c.args.len told c.in_ok-found.found c.requires.header c.requires.length c.in_ok-is_open.ensures.within opened reads c.in_ok-found.ensures.short (eqb-true c.in_ok-found.found.mark settled_byte (sym c.is_settled.ensures ∙ c.if-not-is_settled.false)))
