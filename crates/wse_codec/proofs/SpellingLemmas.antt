-- No two values share a spelling.
use Rattle.wse_codec.specs.Laws.{IsOneSpelling}
use Rattle.wse_codec.proofs.RecordLemmas.{one_record}
use Rattle.wse_codec.proofs.StateLemmas.{one_state}

pub one_spelling : IsOneSpelling
one_spelling = record { records = one_record; states = one_state }
