use Rattle.std.proofs.Common.{◌≡◌, ◌+◌, ◌-◌, ◌^◌, ◌≤◌, drop}
use Rattle.wse_path.specs.PathMap.{capped}
use Rattle.wse_element.specs.Weight.{weight}
use Rattle.wse_stacks.specs.Weigh.{brought}
use Rattle.wse_stacks.proofs.weigh.brought_weight.Given as goal

abbrev pub invariant-loop-at : goal.invariant-loop-at
invariant-loop-at l = record {
  small : l.sum ≤ 2 ^ 64 - 1;
  all : capped (weight (brought l.effects)) ≡ capped (l.sum + weight (brought (drop l.at l.effects)));
}
