use Rattle.std.proofs.Common.{◌≡◌, map, take, string_bytes}
use Rattle.wse_path.specs.Path.{text_of}
use Rattle.wse_reply.proofs.reasons.texts.Given as goal

abbrev pub invariant-loop-file : goal.invariant-loop-file
invariant-loop-file l = map string_bytes l.texts.items ≡ map text_of (take l.file-index l.files)
