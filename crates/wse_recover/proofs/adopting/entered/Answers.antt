use Rattle.std.proofs.Common.{sym, subst, ◌∙◌}
use Rattle.wse_codec.specs.Allowed.{IsAllowedRecord}
use Rattle.wse_recover.proofs.AdoptingLemmas.{allowed_record}
use Rattle.wse_recover.proofs.adopting.entered.Goals as goal

pub enter-requires-clause-allowed : goal.enter-requires-clause-allowed
enter-requires-clause-allowed c =
    subst IsAllowedRecord (sym (c.in_ok-copy.ensures ∙ c.in_ok-effects.ensures.effects)) (allowed_record c.args.paths.now c.requires.some c.requires.few c.in_ok-effects.ensures.allowed)

pub returns-in-Ok-clause-allowed : goal.returns-in-Ok-clause-allowed
returns-in-Ok-clause-allowed c = allowed_record c.args.paths.now c.requires.some c.requires.few c.in_ok-effects.ensures.allowed
