use Rattle.wse_codec.specs.Allowed.{IsAllowedPart}
use Rattle.wse_codec.specs.Spelling.{part_bytes}
use Rattle.wse_codec.proofs.WrittenLemmas.{IsSpelledSoFar}
use Rattle.wse_codec.proofs.put_elements.put_parts.Given as goal

abbrev pub invariant-loop-part : goal.invariant-loop-part
invariant-loop-part l = IsSpelledSoFar part_bytes IsAllowedPart l.parts l.part-index l.initial.out.items l.out.items
