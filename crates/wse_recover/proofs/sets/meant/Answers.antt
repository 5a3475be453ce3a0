use Rattle.std.proofs.Common.{◌++◌, [], ◌∷◌, cond, List, sym, ap, ◌∙◌, arith}
use Rattle.std.specs.Option.{option_copied}
use Rattle.wse_element.specs.Record.{Record}
use Rattle.wse_recover.specs.Sets.{is_meant_by}
use Rattle.wse_recover.proofs.SetsLemmas.{named_more, none_there}
use Rattle.wse_recover.proofs.sets.meant.Goals.{in-Some+in_ok-push_meant, in_default}
use Rattle.wse_recover.proofs.sets.meant.Goals as goal

pub loop-at-preserved : goal.loop-at-preserved
loop-at-preserved c =
    let rs = c.args.stacks.now.state.records in
    let before = c.args.before.now in
    let effect = c.args.effect.now in
    elim c.match-element_at.branch [
      | in-Some+in_ok-push_meant w ↦
          let there = sym c.element_at.ensures ∙ ap option_copied w.in-Some.is in
          ap (λ all. all.items) w.all-is ∙ w.in_ok-push_meant.ensures
          ∙ ap (λ (l : List Record). l ++ cond (is_meant_by before effect w.in-Some.element.now) (w.in-Some.element.now ∷ []) []) c.loop-at.invariant
          ∙ sym (named_more before effect rs c.loop-at.at w.in-Some.element.now there)
      | in_default w ↦
          let none = sym c.element_at.ensures ∙ ap option_copied w.in_default.is in
          absurd (none_there rs c.loop-at.at none (omega (arith, c.loop-at-test.true, c.count-at-end.ensures.count)))
    ]
