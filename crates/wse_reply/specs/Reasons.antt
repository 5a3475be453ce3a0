-- Why an edit failed, in words. This project's own rule.
use Rattle.std.specs.Prelude.{ℕ, ℤ, List, ◌++◌, codes, decimal}
use Rattle.std.specs.Fmt.{signed_decimal}
use Rattle.std.specs.List.{join_by}
use Rattle.wse_path.specs.Path.{Path, text_of}
use Rattle.wse_text.specs.Words.{not_text_text}
use Rattle.wse_edits.specs.Words.{inside_text, overlap_text}
use Rattle.wse_resource.specs.Words.{operation_text}
use Rattle.wse_apply.specs.declared.reason.Reason.{Reason}
use Rattle.wse_apply.specs.declared.reason.Reason.TheVariants as reasons
use Rattle.wse_reply.specs.Limits.{limit_text}

abbrev pub version_text : (have : ℕ) (want : ℤ) → List ℕ
version_text have want = codes "version is " ++ (decimal have ++ (codes ", not " ++ signed_decimal want))

abbrev pub locked_text : List Path → List ℕ
locked_text files = codes "locked: " ++ join_by text_of (codes ", ") files

abbrev pub reason_text : Reason → List ℕ
reason_text (reasons.Op why) = operation_text why
reason_text (reasons.NotText at) = not_text_text (record { at = at })
reason_text (reasons.Inside edit char_start) = inside_text edit char_start
reason_text (reasons.Overlap first second) = overlap_text first second
reason_text (reasons.Version have want) = version_text have want
reason_text (reasons.Locked files) = locked_text files
reason_text (reasons.Limit hit) = limit_text hit
