use Rattle.std.proofs.Common.{◌≡◌, ◌≢◌, None, true, refl}
use Rattle.wse_element.specs.State.{stacks_of}
use Rattle.wse_element.specs.Numbers.{is_bounded}
use Rattle.wse_element.specs.Applicable.{first_refused_of_kept}
use Rattle.wse_txn.specs.Replay.{Replayed, replayed}
use Rattle.wse_slow_reader.proofs.OptionLemmas.{some_of, none_of}
use Rattle.wse_slow_reader.proofs.next.entered.Goals as goal

pub returns-in-Some : goal.returns-in-Some
returns-in-Some c =
    let kept = c.args.left.kept in
    let effects = c.args.effects.now in
    let o = c.in_ok-next.field-0 in
    let next = c.in-Some.next in (
      some_of (λ (_ : Replayed). first_refused_of_kept kept effects ≡ None) o next c.in-Some.is c.in_ok-next.ensures.none_refused,
      some_of (λ (l : Replayed). l ≡ replayed kept effects) o next c.in-Some.is c.in_ok-next.ensures.next,
      some_of (λ (l : Replayed). is_bounded (stacks_of l.kept) ≡ true) o next c.in-Some.is c.in_ok-next.ensures.bounded,
    )

pub returns-in-None : goal.returns-in-None
returns-in-None c = (none_of (first_refused_of_kept c.args.left.kept c.args.effects.now ≢ None) c.in_ok-next.field-0 c.in-None.is c.in_ok-next.ensures.refused, refl)
