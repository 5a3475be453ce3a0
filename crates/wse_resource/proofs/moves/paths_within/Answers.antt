use Rattle.std.proofs.Common.{map, not, refl, sym, ap, ◌∙◌}
use Rattle.std.proofs.lemmas.Result.{IfOk-weaker}
use Rattle.std.specs.Prelude.{is_some}
use Rattle.wse_path.specs.Tree.{content}
use Rattle.wse_resource.specs.Table.{files_within}
use Rattle.wse_resource.proofs.MovesLemmas.{some_copied, under_are, only_one, pushed_alone}
use Rattle.wse_resource.proofs.moves.paths_within.Goals as goal

pub returns-then-is_none : goal.returns-then-is_none
returns-then-is_none g c =
    let files = g.C.Contents.files c.args.contents.now in
    let absent = ap is_some (sym c.get.ensures) ∙ some_copied c.get.result ∙ c.is_none.ensures ∙ ap not c.if-is_none.true in
    IfOk-weaker c.under.result _ _ (λ paths h. h ∙ under_are files c.args.path.now absent) c.under.ensures

pub returns : goal.returns
returns g c =
    let files = g.C.Contents.files c.args.contents.now in
    let here = ap is_some (sym c.get.ensures) ∙ some_copied c.get.result ∙ c.is_none.ensures ∙ ap not c.if-is_none.false in
    pushed_alone c.new.result c.push.new.self.items c.new-only.result.items (map (λ e. e.0) (files_within files c.args.path.now)) c.in_ok-duplicate.field-0 c.args.path.now c.new.ensures c.in_ok-push.ensures.items c.new-only.ensures.items c.in_ok-duplicate.ensures
    (only_one files c.args.path.now (content files c.args.path.now) (g.met.C.Contents.is_tree c.args.contents.now) refl here)
