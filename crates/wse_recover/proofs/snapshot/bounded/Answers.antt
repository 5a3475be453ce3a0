use Rattle.std.proofs.Common.{◌≡◌, ◌++◌, true, List, ap, subst, ◌∙◌, arith}
use Rattle.wse_path.specs.Versions.{Numbers}
use Rattle.wse_path.specs.declared.change.Numbered.{Numbered}
use Rattle.wse_element.specs.Numbers.{are_versions_bounded}
use Rattle.wse_codec.specs.Allowed.{numbers_of}
use Rattle.wse_recover.proofs.SnapshotLemmas.{unbounded_at}
use Rattle.wse_recover.proofs.snapshot.bounded.Goals as goal

pub returns-then-from-serial-clause-none : goal.returns-then-from-serial-clause-none
returns-then-from-serial-clause-none c = λ _ all.
    let before = c.loop-version.all.items in
    let rest = c.next.new.self.rest.items in
    let v = c.in-Some.version in
    unbounded_at c.args.serial before v.path v.number (numbers_of rest) (omega (arith, c.from.ensures))
    (subst (λ (ns : Numbers). are_versions_bounded c.args.serial ns ≡ true) (c.loop-version.invariant.parts ∙ ap (λ (vs : List Numbered). before ++ numbers_of vs) c.in-Some.ensures.steps.0) all)
