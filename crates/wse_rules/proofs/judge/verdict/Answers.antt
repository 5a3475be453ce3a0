use Rattle.std.proofs.Common.{◌≡◌, true, sym, subst}
use Rattle.std.specs.List.{list_all}
use Rattle.std.proofs.lemmas.Result.{IfOk-weaker}
use Rattle.wse_rules.specs.Ruling.{closest}
use Rattle.wse_rules.specs.Named.{named, is_path_of}
use Rattle.wse_rules.proofs.NamedLemmas.{ruling_names_its_own}
use Rattle.wse_rules.proofs.judge.verdict.Goals as goal

pub returns-clause-named : goal.returns-clause-named
returns-clause-named c =
    let own = is_path_of (closest c.args.direction c.args.stacks.now.state.records c.args.path.now) in
    IfOk-weaker c.judged.result _ _
    (λ r is. subst (λ x. list_all own (named x) ≡ true) (sym is) (ruling_names_its_own c.args.direction c.args.stacks.now.state.records c.args.locks.now.entries c.args.by c.args.path.now c.args.choice))
    c.judged.ensures
