use Rattle.std.proofs.Common.{◌≡◌, take, map}
use Rattle.wse_element.specs.Content.{old_content}
use Rattle.wse_plain.proofs.contents.old_contents.Given as goal

abbrev pub invariant-loop-part : goal.invariant-loop-part
invariant-loop-part l = l.all.items ≡ map (λ part. (part.path, old_content part.body)) (take l.part-index l.element.parts)
