use Rattle.std.proofs.Common.{ap, ◌∙◌}
use Rattle.serde_json.specs.Written.{has_float}
use Rattle.wse_show.proofs.ShowLemmas.{element_plain}
use Rattle.wse_show.proofs.elements.push_element.Goals as goal

pub push_line-requires : goal.push_line-requires
push_line-requires c = ap has_float c.in_ok-value.ensures ∙ element_plain c.args.element.now
