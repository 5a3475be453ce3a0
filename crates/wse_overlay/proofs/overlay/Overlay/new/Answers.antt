use Rattle.std.proofs.Common.{sym, subst}
use Rattle.wse_path.specs.Tree.{IsTree}
use Rattle.wse_overlay.proofs.ShownLemmas.{shown_none}
use Rattle.wse_overlay.proofs.overlay.Overlay.new.Goals as goal

pub invariant_of-result : goal.invariant_of-result
invariant_of-result g c =
    (subst IsTree (sym (shown_none c.new-2.result.keys c.new.result.entries (g.C.Contents.files c.args.below.now) c.new-2.ensures.empty c.new.ensures.empty)) (g.met.C.Contents.is_tree c.args.below.now), tt)

pub returns-clause-files : goal.returns-clause-files
returns-clause-files g c = shown_none c.new-2.result.keys c.new.result.entries (g.C.Contents.files c.args.below.now) c.new-2.ensures.empty c.new.ensures.empty
