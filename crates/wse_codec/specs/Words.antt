-- Why bytes are no record, in words. This project's own rule.
use Rattle.std.specs.Prelude.{ℕ, List, ◌++◌, codes, decimal}
use Rattle.wse_codec.specs.declared.refused.RecordRefused.{RecordRefused}
use Rattle.wse_codec.specs.declared.refused.RecordRefused.TheVariants.{NotARecord, Memory}

abbrev pub record_text : RecordRefused → List ℕ
record_text (NotARecord at) = codes "not a record at byte " ++ decimal at
record_text Memory = codes "out of memory"
