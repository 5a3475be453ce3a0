use Rattle.std.proofs.Common.{ℕ, sym, ◌∙◌, subst}
use Rattle.std.specs.Prelude.{Option}
use Rattle.wse_disk.specs.Standing.{Standing}
use Rattle.wse_log.specs.Scan.{GivesPiece}
use Rattle.wse_log.proofs.InOrder.{gives_in_order, goes_on_where_ok}
use Rattle.wse_log.proofs.piece.scan.Goals as goal

pub returns-then-at-eq0-clause-in_order : goal.returns-then-at-eq0-clause-in_order
returns-then-at-eq0-clause-in_order g c =
    let told = g.D.Disk.told c.args.disk.now in
    let piece = subst (λ (n : ℕ). GivesPiece told c.args.area n c.scan_first.result) (sym c.if-at-eq0.true) (subst (λ (t : Option Standing). GivesPiece t c.args.area 0 c.scan_first.result) c.in_ok-len.ensures.same c.scan_first.ensures.piece) in
    gives_in_order told c.args.area c.args.at c.scan_first.result piece

pub returns-then-at-eq0-clause-goes_on : goal.returns-then-at-eq0-clause-goes_on
returns-then-at-eq0-clause-goes_on g c =
    let told = g.D.Disk.told c.args.disk.now in
    let piece = subst (λ (n : ℕ). GivesPiece told c.args.area n c.scan_first.result) (sym c.if-at-eq0.true) (subst (λ (t : Option Standing). GivesPiece t c.args.area 0 c.scan_first.result) c.in_ok-len.ensures.same c.scan_first.ensures.piece) in
    goes_on_where_ok told (g.D.Disk.told c.scan_first.new.disk) c.args.area c.args.at c.scan_first.result (c.scan_first.ensures.same ∙ c.in_ok-len.ensures.same) c.requires piece

pub returns-else-at-eq0-clause-in_order : goal.returns-else-at-eq0-clause-in_order
returns-else-at-eq0-clause-in_order g c =
    let told = g.D.Disk.told c.args.disk.now in
    let piece = subst (λ (t : Option Standing). GivesPiece t c.args.area c.args.at c.scan_later.result) c.in_ok-len.ensures.same c.scan_later.ensures.piece in
    gives_in_order told c.args.area c.args.at c.scan_later.result piece

pub returns-else-at-eq0-clause-goes_on : goal.returns-else-at-eq0-clause-goes_on
returns-else-at-eq0-clause-goes_on g c =
    let told = g.D.Disk.told c.args.disk.now in
    let piece = subst (λ (t : Option Standing). GivesPiece t c.args.area c.args.at c.scan_later.result) c.in_ok-len.ensures.same c.scan_later.ensures.piece in
    goes_on_where_ok told (g.D.Disk.told c.scan_later.new.disk) c.args.area c.args.at c.scan_later.result (c.scan_later.ensures.same ∙ c.in_ok-len.ensures.same) c.requires piece
