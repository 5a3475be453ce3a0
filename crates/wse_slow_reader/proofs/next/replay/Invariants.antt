use Rattle.std.proofs.Common.{◌≡◌, ◌<◌, ◌^◌, true, drop}
use Rattle.wse_element.specs.State.{stacks_of}
use Rattle.wse_element.specs.Numbers.{is_bounded}
use Rattle.wse_slow_reader.specs.Draft.{begun_draft, next_drafts, all_next}
use Rattle.wse_slow_reader.proofs.next.replay.Given as goal

abbrev pub invariant-loop-effect : goal.invariant-loop-effect
invariant-loop-effect l = record {
  goes : all_next (begun_draft l.fn.left.kept) l.effects ≡ all_next l.draft (drop l.effect-index l.effects);
  ends : next_drafts (begun_draft l.fn.left.kept) l.effects ≡ next_drafts l.draft (drop l.effect-index l.effects);
  low : l.draft.kept.next_id < 2 ^ 63;
  counted : l.draft.kept.serial < 2 ^ 31;
  bounded : 0 < l.effect-index → is_bounded (stacks_of l.draft.kept) ≡ true;
}
