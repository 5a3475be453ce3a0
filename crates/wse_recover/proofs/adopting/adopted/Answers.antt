use Rattle.std.proofs.Common.{◌≡◌, List, Result, Ok, Err, IfOk, sym, ap, subst, ◌∙◌}
use Rattle.wse_element.specs.State.{State}
use Rattle.wse_txn.specs.Command.{IsAt}
use Rattle.wse_path.specs.Path.{Path}
use Rattle.wse_path.specs.Versions.{known}
use Rattle.wse_element.specs.Effects.{versions_after_each, state_after}
use Rattle.wse_recover.specs.Adopting.{adopting, adopting_hit}
use Rattle.wse_recover.specs.Open.{opened_state}
use Rattle.wse_recover.proofs.ComparingLemmas.{nothing_written}
use Rattle.wse_recover.proofs.AdoptingLemmas.{hit_is}
use Rattle.wse_recover.proofs.adopting.adopted.Goals as goal

pub returns-in-Some-clause-during : goal.returns-in-Some-clause-during
returns-in-Some-clause-during g c = λ is.
    let told = g.D.Disk.told in
    let o = c.args.opened in
    nothing_written (told o.idle.disk) (told c.into_disk.result) o.idle.area o.idle.gate (opened_state o) _ c.requires.rests (ap told c.into_disk.ensures) (c.requires.at is)

pub returns-in-Some-clause-refused : goal.returns-in-Some-clause-refused
returns-in-Some-clause-refused g c =
    let o = c.args.opened in
    let seen : c.as_slice.result.now ≡ c.args.paths = c.as_slice.ensures in
    let same = hit_is c.args.limits.now o.stacks o.versions o.tree.files c.args.paths c.requires.within c.count.ensures.bounded c.requires.bounded o.tree.is_tree c.requires.differ c.requires.some
    c.known_with-known.result c.serial-serial.result (c.known_with-known.ensures ∙ ap (λ (ps : List Path). known (versions_after_each o.versions.entries (adopting ps))) seen) c.serial-serial.ensures in
    (sym same ∙ sym c.hit.ensures ∙ c.in-Some.is, ap g.D.Disk.told c.into_disk.ensures)

pub recorded-requires-clause-passes : goal.recorded-requires-clause-passes
recorded-requires-clause-passes g c =
    let o = c.args.opened in
    let seen : c.as_slice.result.now ≡ c.args.paths = c.as_slice.ensures in
    let same = hit_is c.args.limits.now o.stacks o.versions o.tree.files c.args.paths c.requires.within c.count.ensures.bounded c.requires.bounded o.tree.is_tree c.requires.differ c.requires.some
    c.known_with-known.result c.serial-serial.result (c.known_with-known.ensures ∙ ap (λ (ps : List Path). known (versions_after_each o.versions.entries (adopting ps))) seen) c.serial-serial.ensures in
    ap (λ (ps : List Path). adopting_hit c.args.limits.now (state_after (opened_state o) (adopting ps))) (c.as_slice-2.ensures) ∙ sym same ∙ sym c.hit.ensures ∙ c.in_default.is

if_ok : {T E : Type 0} (P Q R : T → Type 0) (result : Result T E) → ((x : T) → P x → Q x → R x) → IfOk result P → IfOk result Q → IfOk result R
if_ok P Q R (Ok x) f p q = f x p q
if_ok P Q R (Err e) f p q = tt

pub returns-clause-passes : goal.returns-clause-passes
returns-clause-passes g c =
    let o = c.args.opened in
    let seen : c.as_slice.result.now ≡ c.args.paths = c.as_slice.ensures in
    let same = hit_is c.args.limits.now o.stacks o.versions o.tree.files c.args.paths c.requires.within c.count.ensures.bounded c.requires.bounded o.tree.is_tree c.requires.differ c.requires.some
    c.known_with-known.result c.serial-serial.result (c.known_with-known.ensures ∙ ap (λ (ps : List Path). known (versions_after_each o.versions.entries (adopting ps))) seen) c.serial-serial.ensures in
    let none = ap (λ (ps : List Path). adopting_hit c.args.limits.now (state_after (opened_state o) (adopting ps))) (c.as_slice-2.ensures) ∙ sym same ∙ sym c.hit.ensures ∙ c.in_default.is in
    if_ok _ _ _ c.recorded.result (λ x is _. ap (adopting_hit c.args.limits.now) is ∙ none) c.recorded.ensures.adopted c.recorded.ensures.adopted

pub returns-clause-at : goal.returns-clause-at
returns-clause-at g c =
    let told = g.D.Disk.told in
    if_ok _ _ _ c.recorded.result (λ x is at yes. subst (λ (s : State). IsAt s x.idle.area x.idle.gate (told x.idle.disk)) (sym is) (at yes)) c.recorded.ensures.adopted c.recorded.ensures.at
