use Rattle.std.proofs.Common.{Some, cond, sym, ap, ◌∙◌}
use Rattle.indexmap.specs.IndexMap.{get}
use Rattle.wse_path.specs.Path.{Path}
use Rattle.wse_stacks.specs.Indexed.{path_eq}
use Rattle.wse_stacks.proofs.IndexedLemmas.{noted_live}
use Rattle.wse_stacks.proofs.indexed.note_part.Goals as goal

pub returns-in_ok-insert : goal.returns-in_ok-insert
returns-in_ok-insert c = λ p.
    let before = get path_eq c.args.last.now p in
    c.in_ok-insert.ensures.updates.0 p
    ∙ ap (λ (q : Path). cond (path_eq q p) (Some c.args.at) before) (c.in_ok-duplicate.ensures ∙ c.path.ensures)
    ∙ noted_live c.args.part.now p c.args.at before (sym c.is_live.ensures ∙ c.if-is_live.true)
