use Rattle.std.specs.Str.Iter.{chars_rest}
use Rattle.wse_text.proofs.WalkLemmas.{IsWalk}
use Rattle.wse_text.proofs.place.along_line.Given as goal

abbrev pub invariant-loop-point : goal.invariant-loop-point
invariant-loop-point l = IsWalk l.text l.enc l.start l.character l.place l.left (chars_rest l.point-iterator)
