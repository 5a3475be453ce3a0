use Rattle.wse_codec.specs.Allowed.{IsAllowedElement}
use Rattle.wse_codec.specs.Spelling.{element_bytes}
use Rattle.wse_codec.proofs.WrittenLemmas.{IsSpelledSoFar}
use Rattle.wse_codec.proofs.put_elements.put_elements.Given as goal

abbrev pub invariant-loop-element : goal.invariant-loop-element
invariant-loop-element l = IsSpelledSoFar element_bytes IsAllowedElement l.elements l.element-index l.initial.out.items l.out.items
