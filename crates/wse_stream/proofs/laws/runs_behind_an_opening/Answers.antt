use Rattle.wse_stream.proofs.OpenedLemmas.{runs_from}
use Rattle.wse_stream.proofs.laws.runs_behind_an_opening.Goals as goal

pub returns : goal.returns
returns g c = λ opened first left pieces max_input start middle now ending counts later is stretch still runs.
    runs_from g.M.HasMachine.machine opened first left pieces max_input start middle now ending counts later is stretch still runs
