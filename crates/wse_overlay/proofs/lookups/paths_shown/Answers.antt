use Rattle.std.proofs.Common.{sym, ◌∙◌}
use Rattle.std.proofs.lemmas.Bool.{eqb-true}
use Rattle.std.proofs.lemmas.List.{nil_from_length}
use Rattle.wse_path.specs.PathMap.{put_each}
use Rattle.wse_overlay.specs.Overlay.{marked}
use Rattle.wse_overlay.proofs.MergedLemmas.{merged, only_kept}
use Rattle.wse_overlay.proofs.lookups.paths_shown.Goals as goal

pub returns : goal.returns
returns g c =
    c.new-2.ensures
    ∙ c.in_ok-listed.ensures
    ∙ merged c.args.gone.now.keys c.args.put.now.entries (g.C.Contents.files c.args.below.now) c.args.path.now c.add_all-2.new.all.keys (g.met.C.Contents.is_tree c.args.below.now).rises
    (c.in_ok-add_all-2.ensures
    ∙ (λ i. put_each (marked (c.in_ok-added.ensures i)) ((c.in_ok-add_all.ensures ∙ (λ j. put_each (marked (c.in_ok-kept.ensures j)) (marked (c.new-all.ensures.empty j)))) i)))

pub returns-then-is_empty : goal.returns-then-is_empty
returns-then-is_empty g c =
    c.new.ensures
    ∙ c.in_ok-kept.ensures
    ∙ only_kept c.args.gone.now.keys c.args.put.now.entries (g.C.Contents.files c.args.below.now) c.args.path.now (g.met.C.Contents.is_tree c.args.below.now).rises
    (sym c.in_ok-added.ensures ∙ nil_from_length c.in_ok-added.added.items (sym c.in_ok-added.added.ok.0 ∙ eqb-true c.in_ok-added.added.len 0 (sym c.is_empty.ensures ∙ c.if-is_empty.true)))
