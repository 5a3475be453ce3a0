use Rattle.std.proofs.Common.{◌&&◌, List, refl, sym, ap, ◌∙◌, arith}
use Rattle.wse_path.specs.Versions.{Numbers}
use Rattle.wse_path.specs.declared.change.Numbered.{Numbered}
use Rattle.wse_element.specs.State.{stacks_of}
use Rattle.wse_element.specs.Numbers.{are_versions_bounded, is_known_bounded}
use Rattle.wse_codec.specs.Allowed.{numbers_of}
use Rattle.wse_txn.specs.Replay.{kept_in}
use Rattle.wse_slow_reader.proofs.DraftLemmas.{low_serial}
use Rattle.wse_slow_reader.proofs.BodyLemmas.{unbounded, unlinked, versions_unbounded, kept_linked}
use Rattle.wse_slow_reader.proofs.first.begun.Goals as goal

pub returns-then-not-is_state_bounded : goal.returns-then-not-is_state_bounded
returns-then-not-is_state_bounded c = (unbounded c.args.state c.is_state_bounded.result c.is_state_bounded.ensures c.if-not-is_state_bounded.true, refl)

pub returns-then-not-linked : goal.returns-then-not-linked
returns-then-not-linked c = (unlinked c.args.state c.in_ok-linked.linked c.in_ok-linked.ensures c.if-not-linked.true, refl)

pub are_bounded-requires : goal.are_bounded-requires
are_bounded-requires c = omega (arith, low_serial (stacks_of (kept_in c.args.state)) (sym c.is_state_bounded.ensures ∙ c.if-not-is_state_bounded.false))

pub returns-then-not-are_bounded : goal.returns-then-not-are_bounded
returns-then-not-are_bounded c =
    let s = c.args.state in
    let entries = c.deref.ensures.value ∙ c.in_ok-versions.ensures ∙ ap (λ (vs : List Numbered). numbers_of vs) c.as_slice.ensures in
    let bounds = c.are_bounded.ensures ∙ ap (λ (vs : Numbers). are_versions_bounded s.serial vs && is_known_bounded vs) entries in
    (versions_unbounded s c.are_bounded.result bounds c.if-not-are_bounded.true, refl)

pub returns : goal.returns
returns c =
    let s = c.args.state in
    let entries = c.deref.ensures.value ∙ c.in_ok-versions.ensures ∙ ap (λ (vs : List Numbered). numbers_of vs) c.as_slice.ensures in
    let bounds = c.are_bounded.ensures ∙ ap (λ (vs : Numbers). are_versions_bounded s.serial vs && is_known_bounded vs) entries in (
      kept_linked s c.is_state_bounded.result c.in_ok-linked.linked c.are_bounded.result c.requires c.is_state_bounded.ensures c.if-not-is_state_bounded.false c.in_ok-linked.ensures c.if-not-linked.false bounds c.if-not-are_bounded.false,
      c.left_of.ensures,
    )
