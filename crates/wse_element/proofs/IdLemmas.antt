-- The ids of past and future: which effects leave them as they are.
use Rattle.std.proofs.Common.{◌≡◌, true, false, cond, List, refl, ap, ◌∙◌}
use Rattle.std.specs.Ordering.{eq_by_cmp}
use Rattle.wse_path.specs.Path.{Path}
use Rattle.wse_path.specs.Order.{path_cmp}
use Rattle.wse_element.specs.declared.state.PartState.TheVariants.{Closed, Incompatible}
use Rattle.wse_element.specs.Record.{Record}
use Rattle.wse_element.specs.Stacks.{past, future, ids}
use Rattle.wse_element.specs.Losses.{lost_at, flushed, future_lost_at, dropped, invalid_at, invalidated}
use Rattle.wse_element.proofs.PastLemmas.{ids-map, past_invalidated, future_invalidated, past_flushed_other, future_flushed_other, past_dropped, future_dropped_other}

pub ids_past_invalidated : (records : List Record) (q p : Path) → ids (past (invalidated records q) p) ≡ ids (past records p)
ids_past_invalidated records q p = ap ids (past_invalidated records q p) ∙ ids-map (invalid_at q) (λ r. refl) (past records p)

pub ids_future_invalidated : (records : List Record) (q p : Path) → ids (future (invalidated records q) p) ≡ ids (future records p)
ids_future_invalidated records q p = ap ids (future_invalidated records q p) ∙ ids-map (invalid_at q) (λ r. refl) (future records p)

pub ids_past_flushed : (records : List Record) (q p : Path) → eq_by_cmp path_cmp p q ≡ false → ids (past (flushed records q) p) ≡ ids (past records p)
ids_past_flushed records q p other = ap ids (past_flushed_other records q p other) ∙ ids-map (lost_at q Closed) (λ r. refl) (past records p)

pub ids_future_flushed : (records : List Record) (q p : Path) → eq_by_cmp path_cmp p q ≡ false → ids (future (flushed records q) p) ≡ ids (future records p)
ids_future_flushed records q p other = ap ids (future_flushed_other records q p other) ∙ ids-map (lost_at q Closed) (λ r. refl) (future records p)

pub ids_past_dropped : (records : List Record) (q p : Path) → ids (past (dropped records q) p) ≡ ids (past records p)
ids_past_dropped records q p = ap ids (past_dropped records q p)

dropped_id : (q : Path) (r : Record) → (future_lost_at q r).id ≡ r.id
dropped_id q r = elim r.done as (λ b. (cond b r (lost_at q Incompatible r)).id ≡ r.id) [ true ↦ refl | false ↦ refl ]

pub ids_future_dropped : (records : List Record) (q p : Path) → eq_by_cmp path_cmp p q ≡ false → ids (future (dropped records q) p) ≡ ids (future records p)
ids_future_dropped records q p other = ap ids (future_dropped_other records q p other) ∙ ids-map (future_lost_at q) (dropped_id q) (future records p)
