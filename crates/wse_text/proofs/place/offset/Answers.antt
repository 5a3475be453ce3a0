use Rattle.wse_text.proofs.CutLemmas.{AreLineStarts-line_starts}
use Rattle.wse_text.proofs.place.offset.Goals as goal

pub returns-in-Some-clause-lines : goal.returns-in-Some-clause-lines
returns-in-Some-clause-lines c = AreLineStarts-line_starts c.args.text.now c.utf8.text

pub returns-in-None-clause-lines : goal.returns-in-None-clause-lines
returns-in-None-clause-lines c = AreLineStarts-line_starts c.args.text.now c.utf8.text
