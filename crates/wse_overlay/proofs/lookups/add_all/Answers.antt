use Rattle.std.proofs.Common.{ℕ, List, sym, ap, ◌∙◌}
use Rattle.wse_path.specs.Path.{Path}
use Rattle.wse_path.specs.PathMap.{put_each}
use Rattle.wse_overlay.specs.Overlay.{marked}
use Rattle.wse_overlay.proofs.MergedLemmas.{marked_insert}
use Rattle.wse_overlay.proofs.lookups.add_all.Goals as goal

pub loop-path-preserved : goal.loop-path-preserved
loop-path-preserved c =
    let rest = c.next.new.self.rest.items in
    let all = c.loop-path.all.keys in
    ap (λ (ks : List Path). put_each (marked rest) (marked ks)) c.in_ok-insert.ensures.keys
    ∙ ap (λ (es : List (Path × ℕ)). put_each (marked rest) es) (marked_insert all c.in-Some.path)
    ∙ sym (ap (λ (l : List Path). put_each (marked l) (marked all)) c.in-Some.ensures.steps.0)
    ∙ c.loop-path.invariant
