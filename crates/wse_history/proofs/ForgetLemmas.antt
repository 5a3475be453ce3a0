-- What forgetting a path's history records.
use Rattle.std.proofs.Common.{◌≡◌, ◌+◌, Bool, true, false, cond, not, ◌&&◌, ◌||◌, List, [], ◌∷◌, Option, Some, None, is_some, option_map, refl, sym, ap, subst, ◌≢◌, ◌<◌, length, arith, ◌∙◌}
use Rattle.std.specs.Prelude.{filter, slice_get}
use Rattle.std.specs.List.{All, list_any, last_or}
use Rattle.std.specs.Option.{option_map_or, option_or}
use Rattle.wse_path.specs.Path.{Path}
use Rattle.wse_path.specs.declared.limits.Hit.{Hit}
use Rattle.wse_path.specs.declared.limits.Limits.{Limits}
use Rattle.wse_path.specs.declared.limits.Which.TheVariants.{Serial}
use Rattle.wse_path.proofs.GatheredLemmas.{no_changes}
use Rattle.wse_element.specs.declared.state.PartState.TheVariants.{Closed}
use Rattle.wse_element.specs.declared.effect.Effect.{Effect}
use Rattle.wse_element.specs.declared.effect.Effect.TheVariants.{Drop}
use Rattle.wse_element.specs.Record.{Record}
use Rattle.wse_element.specs.Live.{is_live_at}
use Rattle.wse_element.specs.Stacks.{past, future, closest_past, closest_future}
use Rattle.wse_element.specs.State.{State}
use Rattle.wse_apply.specs.Limit.{hit_above}
use Rattle.wse_history.specs.declared.answer.Answer.TheVariants.{Forgotten, NothingThere, Refused}
use Rattle.wse_history.specs.Outcome.{Outcome, stays, records, is_some_of}
use Rattle.wse_history.specs.Limits.{within_limits}
use Rattle.wse_history.specs.Forgetting.{forget_outcome}
use Rattle.wse_history.specs.Planning.{PlansAsOutcome, MayRecord}
use Rattle.wse_history.specs.Plain.{recorded_with}
use Rattle.wse_history.specs.History.{IsHistory}
use Rattle.wse_history.specs.Laws.{MayApply}
use Rattle.wse_history.specs.Written.{IsWrittenEffect}
use Rattle.wse_codec.specs.Allowed.{IsAllowedPath}
use Rattle.wse_history.proofs.MayLemmas.{may_record}
use Rattle.wse_history.proofs.OneSpelled.{drop_spells}
use Rattle.wse_history.proofs.ReportLemmas.{forgets_apply}

-- ---- what is live

last_some : (x : Record) (xs : List Record) → is_some (last_or (Some x) xs) ≡ true
last_some x [] = refl
last_some x (y ∷ xs) = last_some y xs

some_last : (xs : List Record) → is_some (last_or None xs) ≡ is_some_of xs
some_last [] = refl
some_last (x ∷ xs) = last_some x xs

some_first : (xs : List Record) → is_some (slice_get xs 0) ≡ is_some_of xs
some_first [] = refl
some_first (x ∷ xs) = refl

some_kept : (test : Record → Bool) (xs : List Record) → is_some_of (filter test xs) ≡ list_any test xs
some_kept test [] = refl
some_kept test (x ∷ xs) = elim (test x) as (λ b. is_some_of (cond b (x ∷ filter test xs) (filter test xs)) ≡ (b || list_any test xs)) [ true ↦ refl | false ↦ some_kept test xs ]

either : (done live a b : Bool) → (((done && live) || a) || ((not done && live) || b)) ≡ (live || (a || b))
either true true a b = refl
either true false a b = refl
either false true true b = refl
either false true false b = refl
either false false a b = refl

any_either : (p : Path) (records : List Record) → (list_any (λ r. r.done && is_live_at p r) records || list_any (λ r. not r.done && is_live_at p r) records) ≡ list_any (is_live_at p) records
any_either p [] = refl
any_either p (r ∷ records) =
    either r.done (is_live_at p r) (list_any (λ x. x.done && is_live_at p x) records) (list_any (λ x. not x.done && is_live_at p x) records)
    ∙ ap (λ b. is_live_at p r || b) (any_either p records)

-- a path has live parts where it has a past or a future
pub live_is : (p : Path) (records : List Record) → (is_some (closest_past records p) || is_some (closest_future records p)) ≡ list_any (is_live_at p) records
live_is p records =
    (λ i. (some_last (past records p) ∙ some_kept (λ r. r.done && is_live_at p r) records) i || (some_first (future records p) ∙ some_kept (λ r. not r.done && is_live_at p r) records) i)
    ∙ any_either p records

pub some_mapped : {X Y : Type 0} (f : X → Y) (o : Option X) → is_some (option_map f o) ≡ is_some o
some_mapped f None = refl
some_mapped f (Some x) = refl

-- ---- the outcome

abbrev pub effects_at : Path → List Effect
effects_at p = Drop p Closed ∷ []

alone : (o : Option Hit) → option_or o None ≡ o
alone None = refl
alone (Some hit) = refl

module _ (limits : Limits) (s : State) (p : Path) (live : list_any (is_live_at p) s.records ≡ true) (o : Option Hit) (is : hit_above Serial limits.serial (s.serial + 1) ≡ o) where
  by_hit : forget_outcome limits s p ≡ option_map_or (λ hit. stays (Refused hit)) o (records (effects_at p) Forgotten)
  by_hit =
      ap (λ b. cond b (within_limits limits s (effects_at p) (λ hit. Refused hit) (λ next. Forgotten)) (stays NothingThere)) live
      ∙ ap (λ (h : Option Hit). option_map_or (λ hit. stays (Refused hit)) h (records (effects_at p) Forgotten)) (alone (hit_above Serial limits.serial (s.serial + 1)) ∙ is)

pub forget_refused : (limits : Limits) (s : State) (p : Path) (hit : Hit) → list_any (is_live_at p) s.records ≡ true → hit_above Serial limits.serial (s.serial + 1) ≡ Some hit → stays (Refused hit) ≡ forget_outcome limits s p
forget_refused limits s p hit live is = sym (by_hit limits s p live (Some hit) is)

pub forget_nothing : (limits : Limits) (s : State) (p : Path) → list_any (is_live_at p) s.records ≡ false → stays NothingThere ≡ forget_outcome limits s p
forget_nothing limits s p none = sym (ap (λ b. cond b (within_limits limits s (effects_at p) (λ hit. Refused hit) (λ next. Forgotten)) (stays NothingThere)) none)

pub forget_recorded : (limits : Limits) (s : State) (p : Path) → list_any (is_live_at p) s.records ≡ true → hit_above Serial limits.serial (s.serial + 1) ≡ None → records (effects_at p) Forgotten ≡ forget_outcome limits s p
forget_recorded limits s p live is = sym (by_hit limits s p live None is)

pub forget_plans : (s : State) (p : Path) → PlansAsOutcome s (records (effects_at p) Forgotten) (recorded_with (effects_at p) [] Forgotten)
forget_plans s p = record {
  plan = record { effects = refl; changes = sym (no_changes s.files) };
  locks = refl;
  answer = refl;
}

one_long : (p : Path) → 0 < length (effects_at p)
one_long p = omega arith

at_first : {p : Path} → All IsWrittenEffect (effects_at p) → IsAllowedPath p
at_first {p} all = all 0 (Drop p Closed) (one_long p)

pub forget_may : (limits : Limits) (s : State) (p : Path) → IsHistory s limits → list_any (is_live_at p) s.records ≡ true → hit_above Serial limits.serial (s.serial + 1) ≡ None → All IsWrittenEffect (effects_at p)
    → MayRecord limits s (recorded_with (effects_at p) [] Forgotten).plan
forget_may limits s p history live none written =
    let applies = subst (λ (o : Outcome). o.effects ≢ [] → MayApply limits s o.effects) (sym (forget_recorded limits s p live none)) (forgets_apply limits s p history) in
    may_record limits s (effects_at p) [] history (applies (λ e. cc)) written (drop_spells p (at_first written)) refl (sym (no_changes s.files))
