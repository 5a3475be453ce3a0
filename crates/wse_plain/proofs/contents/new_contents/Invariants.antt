use Rattle.std.proofs.Common.{◌≡◌, take, map}
use Rattle.wse_element.specs.Content.{new_content}
use Rattle.wse_plain.proofs.contents.new_contents.Given as goal

abbrev pub invariant-loop-part : goal.invariant-loop-part
invariant-loop-part l = l.all.items ≡ map (λ part. (part.path, new_content part.body)) (take l.part-index l.element.parts)
