-- Sources and sinks in memory.
use Rattle.std.specs.Prelude.{ℕ, List, [], ◌∷◌, length, take, drop}
use Rattle.wse_disk.specs.CallCounts.{CallState}
use Rattle.wse_io.specs.Stream.{Piece}
use Rattle.wse_io.specs.declared.mem.Mark.{Mark}

-- A source in memory as contracts see it: the bytes left, those that were left when the last read began, how many a read
-- gives at most, and the counts of its reads.
pub record MemSourceState : Type 0 where
  pub left : List ℕ
  pub before : List ℕ
  pub chunk : ℕ
  pub counts : CallState

-- A sink in memory as contracts see it: what was emitted, how many bytes an emit takes at most, and the counts of its emits.
pub record MemSinkState : Type 0 where
  pub pieces : List Piece
  pub chunk : ℕ
  pub counts : CallState

-- How many bytes a piece has, and its moment.
abbrev pub mark_of : Piece → Mark
mark_of piece = record { count = length piece.bytes; moment = piece.moment }

-- The pieces that stand in these bytes, one after another.
unfoldable pub pieces_in : List Mark → List ℕ → List Piece
pieces_in [] bytes = []
pieces_in (m ∷ marks) bytes = record { bytes = take m.count bytes; moment = m.moment } ∷ pieces_in marks (drop m.count bytes)
