use Rattle.serde_json.specs.View.{view}
use Rattle.wse_json.proofs.CauseLemmas.{command_caused, gives_caused}
use Rattle.wse_json.proofs.command.read_command.Goals as goal

pub returns-clause-cause : goal.returns-clause-cause
returns-clause-cause c = gives_caused _ _ (command_caused c.args.root.now (view c.in_ok-command.command)) c.command_of.ensures
