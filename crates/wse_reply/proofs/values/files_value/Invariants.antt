use Rattle.std.proofs.Common.{◌≡◌, map, take}
use Rattle.serde_json.specs.Data.{string}
use Rattle.serde_json.specs.View.{view}
use Rattle.wse_path.specs.Path.{text_of}
use Rattle.wse_reply.proofs.values.files_value.Given as goal

abbrev pub invariant-loop-file : goal.invariant-loop-file
invariant-loop-file l = map view l.values.items ≡ map (λ file. string (text_of file)) (take l.file-index l.files)
