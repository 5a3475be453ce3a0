use Rattle.std.proofs.Common.{◌≡◌, ◌+◌, ◌<◌, ◌^◌, take, drop}
use Rattle.std.specs.Prelude.{option_map}
use Rattle.std.specs.List.{AllByRecursion}
use Rattle.wse_element.specs.Laws.{PushesParts}
use Rattle.wse_stacks.specs.Draft.{next_drafts, first_stop}
use Rattle.wse_stacks.proofs.prepared.try_each.Given as goal

abbrev pub invariant-loop-at : goal.invariant-loop-at
invariant-loop-at l = record {
  draft : l.draft ≡ next_drafts l.initial.draft (take l.at l.effects);
  stop : first_stop l.initial.draft l.effects ≡ option_map (λ n. l.at + n) (first_stop l.draft (drop l.at l.effects));
  parts : AllByRecursion PushesParts (take l.at l.effects);
  small : l.draft.state.next_id < 2 ^ 63;
}
