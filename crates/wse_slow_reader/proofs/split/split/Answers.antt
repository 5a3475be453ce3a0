use Rattle.std.proofs.Common.{ℕ, ◌+◌, ◌<◌, ◌^◌, ◌++◌, ◌∷◌, [], List, length, sym, ap, subst, ◌∙◌, arith}
use Rattle.wse_log.specs.Grammar.{JournalRecord, Reads, front}
use Rattle.wse_log.proofs.Order.{order-nil}
use Rattle.wse_slow_reader.specs.declared.piece.Piece.{Piece}
use Rattle.wse_slow_reader.specs.Split.{IsPieceBehind, end_of, length_of}
use Rattle.wse_slow_reader.proofs.SplitLemmas.{first_gate, reads_end, begins_none}
use Rattle.wse_slow_reader.proofs.split.split.Goals as goal

pub split_on-requires-clause-gate : goal.split_on-requires-clause-gate
split_on-requires-clause-gate c =
    let first = c.in-Holds.first in
    let items = c.in_ok-push-in-Holds.ensures.items ∙ ap (λ (rs : List JournalRecord). rs ++ first ∷ []) c.new-records.ensures.items in
    first_gate first (14 + length c.body.result.now) (ap (λ (bytes : List ℕ). 14 + length bytes) c.body.ensures) ∙ ap (λ (rs : List JournalRecord). length (front rs)) (sym items)

pub returns-in-Ends-clause-reads : goal.returns-in-Ends-clause-reads
returns-in-Ends-clause-reads c =
    let area = c.args.area.now in
    let ending = c.in-Ends.ending in
    let end = subst (λ (p : Piece). IsPieceBehind area [] p) c.in-Ends.is c.in_ok-first.ensures.piece in
    subst (λ (rs : List JournalRecord). Reads area rs (end_of ending)) (sym c.new-records.ensures.items) (reads_end area [] ending order-nil (begins_none area) end)

pub returns-in-Ends-clause-room : goal.returns-in-Ends-clause-room
returns-in-Ends-clause-room c = subst (λ (rs : List JournalRecord). 8 + length_of rs < 2 ^ 64) (sym c.new-records.ensures.items) (omega arith)
