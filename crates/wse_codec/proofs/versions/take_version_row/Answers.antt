use Rattle.std.proofs.Common.{ap, sym, subst, ◌∙◌, List, Option}
use Rattle.std.proofs.lemmas.Result.{err_from_is_err_and}
use Rattle.wse_path.specs.declared.change.Numbered.{Numbered}
use Rattle.wse_codec.specs.Reading.{version_behind}
use Rattle.wse_codec.specs.Gives.{Fails}
use Rattle.wse_codec.proofs.LoopLemmas.{last_of, goes_on, ends, is_done}
use Rattle.wse_codec.proofs.versions.take_version_row.Goals as goal

pub returns-in_err-version : goal.returns-in_err-version
returns-in_err-version c =
    let p = err_from_is_err_and c.from_residual.result c.from_residual.ensures.1 in
    rw (p.1, p.2) (ends version_behind c.in_err-version.field-0.0 c.loop.versions.items c.args.count c.loop.counter c.loop.rest.now c.args.bytes.now c.loop-test.true (subst (λ (o : Option Numbered). Fails c.in_err-version.field-0.0 (version_behind o c.loop.rest.now)) (c.last.ensures.value ∙ ap (λ (ps : List Numbered). last_of ps) c.deref.ensures.value) c.in_err-version.ensures) c.loop.invariant)

pub loop-preserved : goal.loop-preserved
loop-preserved c =
    rw c.in_ok-push.ensures.items (goes_on version_behind c.loop.versions.items c.args.count c.loop.counter c.loop.rest.now c.in_ok-version.version c.in_ok-version.after.now c.args.bytes.now c.loop-test.true (ap (λ (o : Option Numbered). version_behind o c.loop.rest.now) (sym (c.last.ensures.value ∙ ap (λ (ps : List Numbered). last_of ps) c.deref.ensures.value)) ∙ c.in_ok-version.ensures) c.loop.invariant)

pub returns : goal.returns
returns c = is_done version_behind c.loop.versions.items c.args.count c.loop.counter c.loop.rest.now c.args.bytes.now c.loop-test.false c.loop.invariant
