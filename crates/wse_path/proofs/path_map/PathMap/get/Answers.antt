use Rattle.std.proofs.Common.{List, Some, get_or, ap, sym, ◌∙◌}
use Rattle.wse_path.specs.Path.{Path}
use Rattle.wse_path.proofs.EntryLemmas.{find_at, find_gap}
use Rattle.wse_path.proofs.PathOrder.{total}
use Rattle.wse_path.proofs.path_map.PathMap.get.Goals as goal

pub returns-in-Ok : goal.returns-in-Ok
returns-in-Ok g c =
    ap (λ (es : List (Path × g.row.V.Denot)). Some (get_or es c.in-Ok.at c.index-entries-at.result).1) c.as_slice-entries.ensures
    ∙ sym (find_at total c.args.self.now.entries c.args.path.now c.in-Ok.at c.index-entries-at.result c.args.self.now.rises c.in-Ok.ensures.found.0 (c.in-Ok.ensures.found.1 _))

pub returns-in-Err : goal.returns-in-Err
returns-in-Err g c = sym (find_gap total c.args.self.now.entries c.args.path.now c.in-Err.field-0 c.in-Err.ensures.absent)
