use Rattle.std.proofs.Common.{◌++◌, List, reverse, ap, ◌∙◌}
use Rattle.wse_path.specs.Path.{Path}
use Rattle.wse_path.specs.PathMap.{set_value}
use Rattle.wse_path.proofs.MergeLemmas.{pushed, before_push, before_later}
use Rattle.wse_path.proofs.PathOrder.{total}
use Rattle.wse_path.proofs.merge.set_next.Goals as goal

pub returns-in-Some-clause-set : goal.returns-in-Some-clause-set
returns-in-Some-clause-set g c =
    let all = c.args.row.now.items ++ reverse c.args.rest.now.items in
    ap (λ (l : List (Path × g.row.V.Denot)). l ++ reverse c.take_at-old.new.rest.items) c.push.ensures.items
    ∙ pushed c.take_at-old.new.row.items (reverse c.take_at-old.new.rest.items) (c.args.path, c.in-Some.value)
    ∙ c.take_at-old.ensures.placed c.in-Some.value
    ∙ ap (set_value all c.args.path) (c.in-Some.ensures ∙ ap (g.C.Update.updated c.args.item) (c.as_ref.ensures.value ∙ c.take_at-old.ensures.value))

pub returns-in-None-clause-set : goal.returns-in-None-clause-set
returns-in-None-clause-set g c =
    let all = c.args.row.now.items ++ reverse c.args.rest.now.items in
    c.take_at-old.ensures.without
    ∙ ap (set_value all c.args.path) (c.in-None.ensures ∙ ap (g.C.Update.updated c.args.item) (c.as_ref.ensures.value ∙ c.take_at-old.ensures.value))

pub returns-in-Some-clause-before : goal.returns-in-Some-clause-before
returns-in-Some-clause-before g c = λ q later.
    rw c.push.ensures.items (before_push total c.take_at-old.new.row.items (c.args.path, c.in-Some.value) q (before_later total c.take_at-old.new.row.items c.args.path q c.take_at-old.ensures.before later) later)

pub returns-in-None-clause-before : goal.returns-in-None-clause-before
returns-in-None-clause-before g c = λ q later. before_later total c.take_at-old.new.row.items c.args.path q c.take_at-old.ensures.before later
