use Rattle.std.proofs.Common.{sym, ◌∙◌}
use Rattle.wse_element.proofs.SearchLemmas.{found_live}
use Rattle.wse_element.proofs.search.live_at.Goals as goal

pub returns-in-Ok : goal.returns-in-Ok
returns-in-Ok c =
    c.where_live.ensures
    ∙ sym (found_live c.args.parts.now c.args.path.now c.in-Ok.at c.index-parts-at.result c.requires.rise c.in-Ok.ensures.found.0 c.index-parts-at.is (c.in-Ok.ensures.found.1 _))
