use Rattle.std.proofs.Common.{◌≡◌, drop}
use Rattle.std.specs.Option.{option_copied}
use Rattle.wse_element.specs.Content.{old_content}
use Rattle.wse_element.specs.Apart.{paths_with}
use Rattle.wse_element.specs.Near.{neighbours_apart, near_from}
use Rattle.wse_element.proofs.apart.had_apart.Given as goal

abbrev pub invariant-loop-part : goal.invariant-loop-part
invariant-loop-part l = near_from (option_copied l.last) (paths_with old_content (drop l.part-index l.parts)) ≡ neighbours_apart (paths_with old_content l.parts)
