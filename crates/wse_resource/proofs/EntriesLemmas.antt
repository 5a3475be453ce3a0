-- Entries at where their keys go.
use Rattle.std.proofs.Common.{◌≡◌, Bool, true, false, cond, ◌&&◌, List, [], ◌∷◌, map, Option, Some, refl, ap, ◌∙◌}
use Rattle.std.specs.Prelude.{is_some}
use Rattle.std.specs.List.{AllByRecursion}
use Rattle.std.specs.FinMap.{find}
use Rattle.wse_path.specs.Path.{Path}
use Rattle.wse_path.specs.Order.{path_cmp}
use Rattle.wse_resource.specs.Table.{is_within, moved}
use Rattle.wse_resource.proofs.WithinLemmas.{moved_tied}

has_step : {X Y : Type 0} (w t : Bool) (a : Option Y) (b : Option X) (y : Y) (x : X) → is_some a ≡ (w && is_some b) → is_some (cond (w && t) (Some y) a) ≡ (w && is_some (cond t (Some x) b))
has_step true true a b y x e = refl
has_step true false a b y x e = e
has_step false t a b y x e = e

-- another value at where each key goes
pub has_moved_keys : {X Y : Type 0} (from to : Path) (v : Path × X → Y) (es : List (Path × X)) (q : Path) → AllByRecursion (λ e. is_within e.0 from ≡ true) es → is_some (find path_cmp q (map (λ e. (moved from to e.0, v e)) es)) ≡ (is_within q to && is_some (find path_cmp (moved to from q) es))
has_moved_keys from to v [] q all = elim (is_within q to) as (λ w. false ≡ (w && false)) [ true ↦ refl | false ↦ refl ]
has_moved_keys from to v (e ∷ es) q all =
    ap (λ b. is_some (cond b (Some (v e)) (find path_cmp q (map (λ x. (moved from to x.0, v x)) es)))) (moved_tied from to q e.0 all.0)
    ∙ has_step (is_within q to) _ _ _ (v e) e.1 (has_moved_keys from to v es q all.1)
