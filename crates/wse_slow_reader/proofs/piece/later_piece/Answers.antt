use Rattle.std.proofs.Common.{◌+◌, ◌++◌, ◌≡◌, ℕ, List, drop, sym, subst, arith}
use Rattle.wse_log.specs.Grammar.{JournalRecord, HasShortBody, BeginWithNoRecord, behind_gate}
use Rattle.wse_slow_reader.specs.declared.piece.Piece.{Piece}
use Rattle.wse_slow_reader.specs.Split.{IsPieceBehind}
use Rattle.wse_slow_reader.proofs.OptionLemmas.{some_of, none_of}
use Rattle.wse_slow_reader.proofs.SplitLemmas.{unsettled_behind, cut_behind, holds_behind}
use Rattle.wse_slow_reader.proofs.piece.later_piece.Goals as goal

pub returns-then-area-gate-ne-SETTLED-clause-piece : goal.returns-then-area-gate-ne-SETTLED-clause-piece
returns-then-area-gate-ne-SETTLED-clause-piece c = λ before begins some at.
    subst (λ (p : Piece). IsPieceBehind c.args.area.now before p) (sym c.broken-then-area-gate-ne-SETTLED.ensures)
    (unsettled_behind c.args.area.now before begins some c.args.gate at c.if-area-gate.false c.if-area-gate-2.false c.if-area-gate-ne-SETTLED.true)

pub returns-in-Some-clause-piece : goal.returns-in-Some-clause-piece
returns-in-Some-clause-piece c =
    let area = c.args.area.now in
    let gate = c.args.gate in
    let next = c.in-Some.next in
    let whole = some_of (λ (r : JournalRecord). (more : List ℕ) × (drop (gate + 1) area ≡ behind_gate r ++ more)) c.in_ok-next.field-0 next c.in-Some.is c.in_ok-next.ensures.some in
    let short = some_of HasShortBody c.in_ok-next.field-0 next c.in-Some.is c.in_ok-next.ensures.short in
    λ before begins some at. holds_behind area before begins some gate at next whole.0 c.if-area-gate.false c.if-area-gate-2.false c.if-area-gate-ne-SETTLED.false whole.1 short

pub returns-in-None-clause-piece : goal.returns-in-None-clause-piece
returns-in-None-clause-piece c =
    let area = c.args.area.now in
    let cut = none_of (BeginWithNoRecord (drop (c.args.gate + 1) area)) c.in_ok-next.field-0 c.in-None.is c.in_ok-next.ensures.none in
    λ before begins some at.
    subst (λ (p : Piece). IsPieceBehind area before p) (sym c.broken-in-None.ensures)
    (cut_behind area before begins some c.args.gate at c.if-area-gate.false c.if-area-gate-2.false c.if-area-gate-ne-SETTLED.false cut)
