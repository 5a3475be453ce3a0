use Rattle.std.proofs.Common.{Err, subst}
use Rattle.wse_codec.specs.declared.refused.RecordRefused.{RecordRefused}
use Rattle.wse_codec.specs.Answers.{IsReading}
use Rattle.wse_codec.specs.Reading.{read_snapshot}
use Rattle.wse_slow_reader.specs.Given.{IsBegun, IsFirst}
use Rattle.wse_slow_reader.proofs.OptionLemmas.{ok_map}
use Rattle.wse_slow_reader.proofs.BodyLemmas.{first_unread, first_begun}
use Rattle.wse_slow_reader.proofs.first.first_left.Goals as goal

pub returns-in-Ok : goal.returns-in-Ok
returns-in-Ok c =
    let body = c.args.body.now in
    let state = c.in-Ok.state in
    ok_map (IsBegun state) (IsFirst body) c.begun.result (λ given is. first_begun body state given c.in-Ok.ensures.read is) c.begun.ensures

pub returns-in-Err-NotARecord : goal.returns-in-Err-NotARecord
returns-in-Err-NotARecord c =
    let body = c.args.body.now in
    let arm = c.in-Err-NotARecord in
    rw arm.field-0-is (first_unread body arm.at (subst (λ (why : RecordRefused). IsReading (Err why) (read_snapshot body)) arm.field-0-is arm.ensures.read))
