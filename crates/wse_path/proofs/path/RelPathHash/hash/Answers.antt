use Rattle.std.proofs.Common.{string_bytes, sym, ap, ◌∙◌}
use Rattle.std.specs.List.{fold}
use Rattle.std.specs.Hash as fed
use Rattle.wse_path.proofs.PathLemmas.{fed_map}
use Rattle.wse_path.proofs.path.RelPathHash.hash.Goals as goal

pub returns : goal.returns
returns g c = c.hash.ensures ∙ ap (fold g.H.Hasher.write c.args.state.now) (sym (fed_map fed.str (λ s. string_bytes s) c.self.inside.segments.items) ∙ ap (fed.slice fed.str) c.self.view_is)
