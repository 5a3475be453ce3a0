use Rattle.std.proofs.Common.{◌+◌, ◌-◌, ◌<◌, ◌≤◌}
use Rattle.wse_edits.specs.Fitting.{FollowBelow}
use Rattle.wse_edits.proofs.fitting.longest_front.Given as goal

abbrev pub invariant-search : goal.invariant-search
invariant-search l = record {
  order : l.front ≤ l.limit;
  within : l.limit ≤ l.count;
  follow : FollowBelow l.front l.sorted;
  no_more : l.limit < l.count → FollowBelow (l.limit + 1) l.sorted → ⊥;
}

abbrev pub decreases-search : goal.decreases-search
decreases-search l = l.limit - l.front
