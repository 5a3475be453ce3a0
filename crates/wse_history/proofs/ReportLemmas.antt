-- What is recorded of other programs' changes, and where a history is forgotten, may come.
use Rattle.std.proofs.Common.{◌≡◌, ◌≢◌, ◌+◌, ◌<◌, ◌≤◌, ◌-◌, ◌^◌, true, false, cond, not, List, [], ◌∷◌, ◌++◌, None, refl, ap, arith}
use Rattle.std.specs.List.{list_any}
use Rattle.std.proofs.lemmas.Bool.{and_from}
use Rattle.wse_path.specs.Path.{Path}
use Rattle.wse_path.specs.Tree.{content}
use Rattle.wse_path.specs.Changes.{is_same}
use Rattle.wse_path.specs.declared.limits.Limits.{Limits}
use Rattle.wse_element.specs.declared.state.PartState.TheVariants.{Closed}
use Rattle.wse_element.specs.declared.effect.Effect.{Effect}
use Rattle.wse_element.specs.declared.effect.Effect.TheVariants.{Drop, Invalidate, Bump, Set}
use Rattle.wse_element.specs.Content.{Content}
use Rattle.wse_element.specs.Live.{is_live_at, is_valid_at}
use Rattle.wse_element.specs.State.{StacksState, State}
use Rattle.wse_element.specs.Effects.{after, versions_after_each, state_after}
use Rattle.wse_element.specs.Numbers.{is_bounded, are_versions_bounded, is_known_bounded}
use Rattle.wse_element.specs.Applicable.{may_come, sets_tree}
use Rattle.wse_history.specs.declared.answer.Answer.TheVariants.{Recorded, Same, OutsideInTheWay, Refused, Forgotten, NothingThere}
use Rattle.wse_history.proofs.EffectLemmas.{alone_apart}
use Rattle.wse_history.proofs.FitLemmas.{bounded_still, apply_bumps, rises_all}
use Rattle.wse_element.proofs.NumberLemmas.{Bounded, bounded_from}
use Rattle.wse_history.proofs.ShapeLemmas.{now, Comes, may_apply, serial_within, set_within, limited, room_now, kept_now, drops_come, nothing_in}
use Rattle.wse_element.proofs.CloseLemmas.{none_valid_there}
use Rattle.wse_history.specs.Outcome.{stays, is_some_of, numbered}
use Rattle.wse_history.specs.Limits.{hit_of, within_limits}
use Rattle.wse_element.specs.Way.{in_the_way}
use Rattle.wse_history.specs.History.{IsHistory}
use Rattle.wse_history.specs.Laws.{MayApply}
use Rattle.wse_history.specs.Outsides.{outside_effects, outside_outcome}
use Rattle.wse_history.specs.Forgetting.{forget_outcome}
use Rattle.wse_element.specs.Laws.{AllApply}
use Rattle.wse_element.proofs.WayLemmas.{tree_where_free}

abbrev Shown : Limits → State → List Effect → Type 0
Shown limits s effects = effects ≢ [] → MayApply limits s effects

shown_none : (limits : Limits) (s : State) → Shown limits s []
shown_none limits s some = absurd (some refl)

one_up : 0 < 1
one_up = omega arith

-- ---- forget

pub forgets_apply : (limits : Limits) (s : State) (p : Path) → IsHistory s limits → Shown limits s (forget_outcome limits s p).effects
forgets_apply limits s p set =
    let effects = Drop p Closed ∷ [] in
    elim (list_any (is_live_at p) s.records) as (λ b. list_any (is_live_at p) s.records ≡ b → Shown limits s (cond b (within_limits limits s effects (λ hit. Refused hit) (λ next. Forgotten)) (stays NothingThere)).effects) [
      | true ↦ λ live. limited limits s effects (λ hit. Refused hit) (λ next. Forgotten) (Shown limits s) (shown_none limits s)
          (λ none some. may_apply limits s effects set some (drops_come limits s (p ∷ []) set (serial_within limits s effects set none) (live, tt)))
      | false ↦ λ _. shown_none limits s
    ] refl

-- ---- outside

-- the new content and the bump, behind effects that don't set the tree
set_applies : (limits : Limits) (s : State) (h : StacksState) (before : List Effect) (p : Path) (bytes : Content) → IsHistory s limits → s.serial + 1 ≤ 2 ^ 30 - 1 → list_any sets_tree before ≡ false → Bounded h
    → list_any (is_valid_at p) h.records ≡ false → is_known_bounded (versions_after_each s.versions (Bump p 1 ∷ [])) ≡ true → AllApply (s.serial + 1) h s.versions before (Set p bytes ∷ Bump p 1 ∷ [])
set_applies limits s h before p bytes set small none room invalid end =
    let kept = kept_now limits s set in
    let next = bounded_still h (Set p bytes) tt refl room in (
      ap not none,
      and_from (may_come h (Set p bytes)) (is_bounded (after h (Set p bytes))) (ap not invalid) (bounded_from (after h (Set p bytes)) next),
      and_from (are_versions_bounded (s.serial + 1) s.versions) (is_known_bounded s.versions) kept.bounded kept.known,
      apply_bumps (s.serial + 1) (after h (Set p bytes)) s.versions (before ++ Set p bytes ∷ []) (p ∷ []) small next kept.bounded refl (rises_all s.serial s.versions (p ∷ []) set.linked.kept.versions) end,
    )

plain_comes : (limits : Limits) (s : State) (p : Path) (bytes : Content) → IsHistory s limits → list_any (is_valid_at p) s.records ≡ false → in_the_way s.files ((p, bytes) ∷ []) ≡ []
    → hit_of limits (Set p bytes ∷ Bump p 1 ∷ []) (state_after s (Set p bytes ∷ Bump p 1 ∷ [])) ≡ None → Comes limits s (Set p bytes ∷ Bump p 1 ∷ [])
plain_comes limits s p bytes set invalid free none =
    let effects = Set p bytes ∷ Bump p 1 ∷ [] in
    let small = serial_within limits s effects set none in
    let more = set_within limits s effects set refl none in
    record {
      apply = set_applies limits s (now s) [] p bytes set small refl (room_now limits s set small) invalid more.0;
      pushes = (tt, (tt, tt));
      raises = (tt, (one_up, tt));
      tree = tree_where_free s.files ((p, bytes) ∷ []) set.linked.tree (alone_apart p bytes) free;
      fits = more.1;
    }

invalid_comes : (limits : Limits) (s : State) (p : Path) (bytes : Content) → IsHistory s limits → list_any (is_valid_at p) s.records ≡ true → in_the_way s.files ((p, bytes) ∷ []) ≡ []
    → hit_of limits (Invalidate p ∷ Set p bytes ∷ Bump p 1 ∷ []) (state_after s (Invalidate p ∷ Set p bytes ∷ Bump p 1 ∷ [])) ≡ None → Comes limits s (Invalidate p ∷ Set p bytes ∷ Bump p 1 ∷ [])
invalid_comes limits s p bytes set valid free none =
    let effects = Invalidate p ∷ Set p bytes ∷ Bump p 1 ∷ [] in
    let h = after (now s) (Invalidate p) in
    let small = serial_within limits s effects set none in
    let more = set_within limits s effects set refl none in
    let kept = kept_now limits s set in
    let room = bounded_still (now s) (Invalidate p) tt refl (room_now limits s set small) in
    record {
      apply = (
        refl,
        and_from (may_come (now s) (Invalidate p)) (is_bounded h) valid (bounded_from h room),
        and_from (are_versions_bounded (s.serial + 1) s.versions) (is_known_bounded s.versions) kept.bounded kept.known,
        set_applies limits s h (Invalidate p ∷ []) p bytes set small refl room (none_valid_there p s.records) more.0,
      );
      pushes = (tt, (tt, (tt, tt)));
      raises = (tt, (tt, (one_up, tt)));
      tree = tree_where_free s.files ((p, bytes) ∷ []) set.linked.tree (alone_apart p bytes) free;
      fits = more.1;
    }

outside_comes : (limits : Limits) (s : State) (p : Path) (bytes : Content) → IsHistory s limits → in_the_way s.files ((p, bytes) ∷ []) ≡ []
    → hit_of limits (outside_effects s.records p bytes) (state_after s (outside_effects s.records p bytes)) ≡ None → Comes limits s (outside_effects s.records p bytes)
outside_comes limits s p bytes set free none =
    elim (list_any (is_valid_at p) s.records) as (λ b. list_any (is_valid_at p) s.records ≡ b → hit_of limits (cond b (Invalidate p ∷ []) [] ++ (Set p bytes ∷ Bump p 1 ∷ [])) (state_after s (cond b (Invalidate p ∷ []) [] ++ (Set p bytes ∷ Bump p 1 ∷ []))) ≡ None
    → Comes limits s (cond b (Invalidate p ∷ []) [] ++ (Set p bytes ∷ Bump p 1 ∷ []))) [
      | true ↦ λ valid k. invalid_comes limits s p bytes set valid free k
      | false ↦ λ invalid k. plain_comes limits s p bytes set invalid free k
    ] refl none

pub outsides_apply : (limits : Limits) (s : State) (p : Path) (bytes : Content) → IsHistory s limits → Shown limits s (outside_outcome limits s p bytes).effects
outsides_apply limits s p bytes set =
    let blocking = in_the_way s.files ((p, bytes) ∷ []) in
    let effects = outside_effects s.records p bytes in
    let done = within_limits limits s effects (λ hit. Refused hit) (λ next. Recorded (numbered next (p ∷ []))) in
    elim (is_same (content s.files p) bytes) as (λ same. Shown limits s (cond same (stays Same) (cond (is_some_of blocking) (stays (OutsideInTheWay blocking)) done)).effects) [
      | true ↦ shown_none limits s
      | false ↦ elim (is_some_of blocking) as (λ b. is_some_of blocking ≡ b → Shown limits s (cond b (stays (OutsideInTheWay blocking)) done).effects) [
        | true ↦ λ _. shown_none limits s
        | false ↦ λ e. limited limits s effects (λ hit. Refused hit) (λ next. Recorded (numbered next (p ∷ []))) (Shown limits s) (shown_none limits s)
            (λ none some. may_apply limits s effects set some (outside_comes limits s p bytes set (nothing_in blocking e) none))
      ] refl
    ]
