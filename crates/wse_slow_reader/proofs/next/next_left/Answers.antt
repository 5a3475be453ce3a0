use Rattle.std.proofs.Common.{◌≢◌, [], List, Err, sym, subst}
use Rattle.wse_codec.specs.declared.refused.RecordRefused.{RecordRefused}
use Rattle.wse_codec.specs.Answers.{IsReading}
use Rattle.wse_codec.specs.Reading.{read_effects}
use Rattle.wse_element.specs.declared.effect.Effect.{Effect}
use Rattle.wse_slow_reader.specs.Given.{IsEntered, IsNext}
use Rattle.wse_slow_reader.proofs.OptionLemmas.{ok_map}
use Rattle.wse_slow_reader.proofs.BodyLemmas.{next_unread, next_entered}
use Rattle.wse_slow_reader.proofs.next.next_left.Goals as goal

pub entered-requires-clause-some : goal.entered-requires-clause-some
entered-requires-clause-some c = subst (λ (es : List Effect). es ≢ []) (sym c.as_slice.ensures) c.in-Ok.ensures.spelled.0.some

pub returns-in-Ok : goal.returns-in-Ok
returns-in-Ok c =
    let kept = c.args.left.kept in
    let gate = c.args.gate in
    let body = c.args.body.now in
    ok_map (IsEntered kept gate c.as_slice.result.now) (IsNext kept gate body) c.entered.result
    (λ given is. next_entered kept gate body c.in-Ok.effects given c.in-Ok.ensures.read (subst (λ (es : List Effect). IsEntered kept gate es given) c.as_slice.ensures is)) c.entered.ensures

pub returns-in-Err-NotARecord : goal.returns-in-Err-NotARecord
returns-in-Err-NotARecord c =
    let body = c.args.body.now in
    let arm = c.in-Err-NotARecord in
    rw arm.field-0-is (next_unread c.args.left.kept c.args.gate body arm.at (subst (λ (why : RecordRefused). IsReading (Err why) (read_effects body)) arm.field-0-is arm.ensures.read))
