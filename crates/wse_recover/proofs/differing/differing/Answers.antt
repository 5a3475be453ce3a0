use Rattle.std.proofs.Common.{sym, ap, subst, ◌∙◌}
use Rattle.std.specs.Prelude.{filter}
use Rattle.wse_recover.specs.Differing.{differs, AreDiffering}
use Rattle.wse_recover.proofs.DifferLemmas.{differing_of_live}
use Rattle.wse_recover.proofs.differing.differing.Goals as goal

pub returns : goal.returns
returns c =
    let files = c.args.tree.now.files in
    let records = c.args.stacks.now.state.records in
    subst (AreDiffering files records) (sym (c.new.ensures ∙ c.in_ok-found.ensures ∙ ap (filter (differs files records)) c.into_vec.ensures))
    (differing_of_live files records c.in_ok-paths.paths c.in_ok-paths.ensures)
