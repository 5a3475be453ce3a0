use Rattle.std.proofs.Common.{◌≡◌, true, take, sym, ap, ◌∙◌}
use Rattle.std.specs.List.{list_any}
use Rattle.std.specs.FinMap.{is_sorted}
use Rattle.wse_path.specs.Order.{path_cmp}
use Rattle.wse_element.specs.Effects.{after_each, contents_set}
use Rattle.wse_element.specs.Applicable.{sets_tree}
use Rattle.wse_txn.specs.Replay.{sets_each}
use Rattle.wse_recover.specs.Sets.{AreToCome}
use Rattle.wse_recover.proofs.SetsLemmas.{only_set_at, none_set_each, come_together, all_taken, if_ok_then, if_ok_both}
use Rattle.wse_recover.proofs.sets.sets_of.Goals as goal

pub set_behind-requires : goal.set_behind-requires
set_behind-requires c =
    let e = c.index-effects-at.result in
    record {
      plain = (only_set_at c.args.stacks.now.state c.args.effects.now c.loop-at.at e c.requires.may c.count.ensures.linked.apart c.loop-at-test.true c.index-effects-at.is c.loop-at.invariant
          (sym c.sets_tree.ensures ∙ c.if-sets_tree.true)).plain;
    }

pub returns-then-sets_tree-clause-sets : goal.returns-then-sets_tree-clause-sets
returns-then-sets_tree-clause-sets c =
    let h = c.args.stacks.now.state in
    let effects = c.args.effects.now in
    let e = c.index-effects-at.result in
    let only = only_set_at h effects c.loop-at.at e c.requires.may c.count.ensures.linked.apart c.loop-at-test.true c.index-effects-at.is c.loop-at.invariant (sym c.sets_tree.ensures ∙ c.if-sets_tree.true) in
    if_ok_then c.set_behind.result (λ sets. sets ≡ contents_set (after_each h (take c.loop-at.at effects)).records e) (λ sets. sets ≡ sets_each h effects) (λ sets is. is ∙ sym only.sets) c.set_behind.ensures.sets

pub returns-then-sets_tree-clause-come : goal.returns-then-sets_tree-clause-come
returns-then-sets_tree-clause-come c =
    let h = c.args.stacks.now.state in
    let effects = c.args.effects.now in
    let e = c.index-effects-at.result in
    let before = take c.loop-at.at effects in
    let only = only_set_at h effects c.loop-at.at e c.requires.may c.count.ensures.linked.apart c.loop-at-test.true c.index-effects-at.is c.loop-at.invariant (sym c.sets_tree.ensures ∙ c.if-sets_tree.true) in
    if_ok_both c.set_behind.result (λ sets. sets ≡ contents_set (after_each h before).records e) (λ sets. is_sorted path_cmp sets ≡ true) AreToCome
    (λ sets is rise. come_together h effects before e sets only is rise) c.set_behind.ensures.sets c.set_behind.ensures.rise

pub returns-clause-sets : goal.returns-clause-sets
returns-clause-sets c =
    let effects = c.args.effects.now in
    c.new-2.ensures ∙ c.new.ensures.items
    ∙ sym (none_set_each c.args.stacks.now.state effects (ap (list_any sets_tree) (sym (all_taken effects c.loop-at.at c.loop-at-test.false)) ∙ c.loop-at.invariant))
