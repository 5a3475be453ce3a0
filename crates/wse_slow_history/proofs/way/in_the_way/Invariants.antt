use Rattle.std.proofs.Common.{◌≡◌, take}
use Rattle.wse_element.specs.Way.{in_the_way}
use Rattle.wse_slow_history.proofs.way.in_the_way.Given as goal

abbrev pub invariant-loop-file : goal.invariant-loop-file
invariant-loop-file l = l.found.items ≡ in_the_way (take l.file-index l.files) l.contents
