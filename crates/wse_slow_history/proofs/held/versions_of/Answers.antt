use Rattle.std.proofs.Common.{◌∙◌}
use Rattle.std.proofs.Common.{ap}
use Rattle.std.specs.FinMap.{is_sorted}
use Rattle.wse_path.specs.Order.{path_cmp}
use Rattle.wse_path.specs.Versions.{Numbers}
use Rattle.wse_slow_history.proofs.HeldLemmas.{bumps_alone, small_all, some_all}
use Rattle.wse_slow_history.proofs.held.versions_of.Goals as goal

pub bump_all-requires-clause-rises : goal.bump_all-requires-clause-rises
bump_all-requires-clause-rises c = ap (λ (ns : Numbers). is_sorted path_cmp ns) c.in_ok-all.ensures ∙ c.requires.rise

pub bump_all-requires-clause-some : goal.bump_all-requires-clause-some
bump_all-requires-clause-some c = some_all c.in_ok-all.all.items c.args.numbers.now c.in_ok-all.ensures c.requires.some

pub bump_all-requires-clause-small : goal.bump_all-requires-clause-small
bump_all-requires-clause-small c =
    small_all c.args.serial c.reserve.new.self.entries c.in_ok-all.all.items c.args.numbers.now c.requires.small (c.in_ok-reserve.ensures.same ∙ c.new-versions.ensures) c.in_ok-all.ensures c.requires.bounded

pub returns : goal.returns
returns c =
    bumps_alone c.reserve.new.self.entries c.in_ok-all.all.items c.args.numbers.now c.bump_all.new.self.entries (c.in_ok-reserve.ensures.same ∙ c.new-versions.ensures) c.in_ok-all.ensures c.requires.rise c.bump_all.ensures.entries
