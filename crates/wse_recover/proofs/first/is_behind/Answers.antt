use Rattle.std.proofs.Common.{true, Option, ap, ◌∙◌}
use Rattle.std.specs.Option.{option_map_or}
use Rattle.std.specs.Ordering.{is_lt}
use Rattle.wse_path.specs.Order.{path_cmp}
use Rattle.wse_path.specs.declared.change.Numbered.{Numbered}
use Rattle.wse_recover.proofs.VersionLemmas.{last_is}
use Rattle.wse_recover.proofs.first.is_behind.Goals as goal

pub returns-in-Some : goal.returns-in-Some
returns-in-Some c =
    c.is_lt.ensures ∙ ap is_lt c.cmp.ensures
    ∙ ap (λ (o : Option Numbered). option_map_or (λ (v : Numbered). is_lt (path_cmp v.path c.args.path.now)) o true) (c.in-Some.ensures.value ∙ last_is c.args.versions.now)
