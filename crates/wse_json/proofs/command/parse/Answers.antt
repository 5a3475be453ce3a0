use Rattle.std.proofs.Common.{inr, refl, rules}
use Rattle.wse_json.proofs.LineLemmas.{reads_as, not_read}
use Rattle.wse_json.proofs.command.parse.Goals as goal

pub returns-in-Ok-clause-ok : goal.returns-in-Ok-clause-ok
returns-in-Ok-clause-ok c = reads_as _ _ c.in-Ok.ensures.ok.0 c.in-Ok.ensures.ok.1

pub returns-in-Err-2-clause-refused : goal.returns-in-Err-2-clause-refused
returns-in-Err-2-clause-refused c = inr (refl, not_read c.args.line.now (c.in-Err.ensures.err (search rules)))
