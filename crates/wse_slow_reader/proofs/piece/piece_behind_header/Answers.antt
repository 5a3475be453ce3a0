use Rattle.std.proofs.Common.{[], ◌+◌, ◌++◌, ◌≡◌, ℕ, List, length, drop, sym, subst, ◌∙◌, arith}
use Rattle.std.proofs.lemmas.Bool.{eqb-true, eqb-false}
use Rattle.wse_log.specs.Grammar.{JournalRecord, HasShortBody, BeginWithNoRecord, BreaksAt, behind_gate, settled_byte}
use Rattle.wse_log.proofs.Pieces.{first_missing, first_closed, first_cut, first_unsettled}
use Rattle.wse_slow_reader.specs.declared.piece.Piece.{Piece}
use Rattle.wse_slow_reader.specs.Split.{IsPieceBehind}
use Rattle.wse_slow_reader.proofs.OptionLemmas.{some_of, none_of}
use Rattle.wse_slow_reader.proofs.SplitLemmas.{holds_first}
use Rattle.wse_slow_reader.proofs.piece.piece_behind_header.Goals as goal

pub returns-then-area-le8-clause-piece : goal.returns-then-area-le8-clause-piece
returns-then-area-le8-clause-piece c =
    subst (λ (p : Piece). IsPieceBehind c.args.area.now [] p) (sym c.broken.ensures) (first_missing c.args.area.now c.requires.0 c.requires.1 c.if-area-le8.true)

pub returns-then-area-clause-piece : goal.returns-then-area-clause-piece
returns-then-area-clause-piece c =
    subst (λ (p : Piece). IsPieceBehind c.args.area.now [] p) (sym c.broken-then-area.ensures) (first_closed c.args.area.now c.requires.0 c.requires.1 c.if-area-le8.false c.if-area.true)

pub returns-in-None-clause-piece : goal.returns-in-None-clause-piece
returns-in-None-clause-piece c =
    let area = c.args.area.now in
    let cut = none_of (BeginWithNoRecord (drop 9 area)) c.in_ok-record_behind.field-0 c.in-None.is c.in_ok-record_behind.ensures.none in
    subst (λ (p : Piece). IsPieceBehind area [] p) (sym c.broken-in-None.ensures) (first_cut area c.requires.0 c.requires.1 c.if-area-le8.false c.if-area.false cut)

pub returns-then-not-is_settled-clause-piece : goal.returns-then-not-is_settled-clause-piece
returns-then-not-is_settled-clause-piece c =
    let area = c.args.area.now in
    let first = c.in-Some.first in
    let whole = some_of (λ (r : JournalRecord). (more : List ℕ) × (drop 9 area ≡ behind_gate r ++ more)) c.in_ok-record_behind.field-0 first c.in-Some.is c.in_ok-record_behind.ensures.some in
    let short = some_of HasShortBody c.in_ok-record_behind.field-0 first c.in-Some.is c.in_ok-record_behind.ensures.short in
    let unsettled = eqb-false first.mark settled_byte (sym c.is_settled.ensures ∙ c.if-not-is_settled.true) in
    subst (λ (p : Piece). IsPieceBehind area [] p) (sym c.broken-then-not-is_settled.ensures)
    (subst (λ (bytes : List ℕ). BreaksAt area [] (13 + length bytes)) (sym c.body.ensures)
    (first_unsettled area c.requires.0 c.requires.1 first whole.0 c.if-area-le8.false c.if-area.false whole.1 short unsettled))

pub returns-else-not-is_settled-clause-piece : goal.returns-else-not-is_settled-clause-piece
returns-else-not-is_settled-clause-piece c =
    let area = c.args.area.now in
    let first = c.in-Some.first in
    let whole = some_of (λ (r : JournalRecord). (more : List ℕ) × (drop 9 area ≡ behind_gate r ++ more)) c.in_ok-record_behind.field-0 first c.in-Some.is c.in_ok-record_behind.ensures.some in
    let short = some_of HasShortBody c.in_ok-record_behind.field-0 first c.in-Some.is c.in_ok-record_behind.ensures.short in
    holds_first area c.requires first whole.0 c.if-area-le8.false c.if-area.false whole.1 short (eqb-true first.mark settled_byte (sym c.is_settled.ensures ∙ c.if-not-is_settled.false))
