use Rattle.std.proofs.Common.{rules}
use Rattle.std.proofs.lemmas.Fn.{always_returns_same}
use Rattle.wse_path.specs.Order.{path_cmp}
use Rattle.wse_element.specs.Record.{RecordPart}
use Rattle.wse_element.proofs.SearchLemmas.{place_found, none_live}
use Rattle.wse_element.proofs.search.search.Goals as goal

pub returns-clause-found : goal.returns-clause-found
returns-clause-found c =
    let facts = c.binary_search_by.ensures in
    place_found c.args.parts.now c.args.path.now c.binary_search_by.result facts.bound
    (facts.position (λ (part : RecordPart). path_cmp part.path c.args.path.now) (always_returns_same _ _ _ (λ a r f' called. search rules)))

pub returns-clause-absent : goal.returns-clause-absent
returns-clause-absent c =
    let facts = c.binary_search_by.ensures in
    none_live c.args.parts.now c.args.path.now c.binary_search_by.result c.requires.rise facts.bound
    (facts.position (λ (part : RecordPart). path_cmp part.path c.args.path.now) (always_returns_same _ _ _ (λ a r f' called. search rules)))
