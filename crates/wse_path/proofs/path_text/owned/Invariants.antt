use Rattle.std.proofs.Common.{◌≡◌, map, take}
use Rattle.wse_path.specs.Path.{bytes_of}
use Rattle.wse_path.proofs.path_text.owned.Given as goal

abbrev pub invariant-loop-piece : goal.invariant-loop-piece
invariant-loop-piece l = bytes_of l.texts.items ≡ map (λ piece. piece.now) (take l.piece-index l.pieces)
