use Rattle.std.proofs.Common.{ℕ, ◌+◌, ◌≢◌, [], List, length, sym, ap, subst, ◌∙◌, arith}
use Rattle.wse_log.specs.Grammar.{JournalRecord, AreInOrder, BeginsWith, front}
use Rattle.wse_log.proofs.Fronts.{length-front-le}
use Rattle.wse_slow_reader.specs.declared.piece.Piece.{Piece}
use Rattle.wse_slow_reader.specs.Split.{IsPieceBehind, HasRoom}
use Rattle.wse_slow_reader.proofs.SplitLemmas.{more_order, more_some, more_gate, reads_end, length_front}
use Rattle.wse_slow_reader.proofs.split.split_on.Goals as goal

pub later_piece-requires : goal.later_piece-requires
later_piece-requires c = omega (arith, c.loop-records.invariant.gate, length-front-le c.loop-records.records.items)

pub loop-records-preserved : goal.loop-records-preserved
loop-records-preserved c =
    let inv = c.loop-records.invariant in
    let area = c.args.area.now in
    let before = c.loop-records.records.items in
    let next = c.in-Holds.next in
    let gate = c.loop-records.gate in
    let piece = subst (λ (p : Piece). IsPieceBehind area before p) c.in-Holds.is (c.in_ok-next.ensures.piece before inv.begins inv.some inv.gate) in
    let room = subst (λ (p : Piece). HasRoom area gate p) c.in-Holds.is c.in_ok-next.ensures.room in
    let items = c.in_ok-push-in-Holds.ensures.items in
    record {
      some = subst (λ (rs : List JournalRecord). rs ≢ []) (sym items) (more_some before next);
      order = subst AreInOrder (sym items) (more_order area before next inv.order piece);
      begins = subst (BeginsWith area) (sym items) piece.0;
      gate = more_gate before next gate (gate + (6 + length c.body.result.now)) inv.gate (ap (λ (bytes : List ℕ). gate + (6 + length bytes)) c.body.ensures) ∙ ap (λ (rs : List JournalRecord). length (front rs)) (sym items);
      room = omega (arith, room, ap length c.body.ensures);
    }

pub returns-in-Ends-clause-reads : goal.returns-in-Ends-clause-reads
returns-in-Ends-clause-reads c =
    let inv = c.loop-records.invariant in
    let area = c.args.area.now in
    let before = c.loop-records.records.items in
    reads_end area before c.in-Ends.ending inv.order inv.begins (subst (λ (p : Piece). IsPieceBehind area before p) c.in-Ends.is (c.in_ok-next.ensures.piece before inv.begins inv.some inv.gate))

pub returns-in-Ends-clause-room : goal.returns-in-Ends-clause-room
returns-in-Ends-clause-room c = omega (arith, c.loop-records.invariant.gate, length_front c.loop-records.records.items)
