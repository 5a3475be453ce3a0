use Rattle.std.proofs.Common.{All, IsUtf8, subst}
use Rattle.wse_path.proofs.PathLemmas.{all_utf8}
use Rattle.wse_path.proofs.path.RelPath.depth.Goals as goal

pub returns-clause-utf8 : goal.returns-clause-utf8
returns-clause-utf8 c = subst (All IsUtf8) c.self.view_is (all_utf8 c.self.inside.segments.items)
