use Rattle.std.proofs.Common.{ap, ◌∙◌}
use Rattle.serde_json.specs.Written.{has_float}
use Rattle.wse_show.proofs.ShowLemmas.{file_plain}
use Rattle.wse_show.proofs.files.push_file.Goals as goal

pub push_line-requires : goal.push_line-requires
push_line-requires c = ap has_float c.in_ok-value.ensures ∙ file_plain _ c.args.path.now c.args.version
