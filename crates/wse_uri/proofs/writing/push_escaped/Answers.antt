use Rattle.wse_uri.proofs.WritingLemmas.{percent_encode-ESCAPED}
use Rattle.wse_uri.proofs.writing.push_escaped.Goals as goal

pub returns : goal.returns
returns c = rw (← percent_encode-ESCAPED c.args.segment.now, ← c.utf8_percent_encode.ensures.text) c.append_to.ensures.ok
