-- What an engine keeps through the steps of a command.
use Rattle.std.proofs.Common.{◌≡◌, ◌≢◌, ℕ, Bool, true, false, nat_eq, List, [], ◌∷◌, length, Option, Some, inl, sym, ap, subst, ◌∙◌, arith}
use Rattle.std.proofs.lemmas.Bool.{false≢true, eqb-true}
use Rattle.wse_path.specs.Versions.{Numbers, version_of}
use Rattle.wse_path.specs.declared.command.Command.{Command}
use Rattle.wse_locks.specs.Locks.{Holders}
use Rattle.wse_disk.specs.declared.area.Area.{Area}
use Rattle.wse_disk.specs.Standing.{Standing}
use Rattle.wse_disk.specs.Told.{IsTold, IsAtRest}
use Rattle.wse_disk.specs.LeavesOnly.{LeavesOnly}
use Rattle.wse_disk.proofs.Moments.{weaker}
use Rattle.wse_element.specs.declared.plan.Plan.{Plan}
use Rattle.wse_element.specs.State.{State}
use Rattle.wse_element.specs.Effects.{state_after}
use Rattle.wse_stacks.specs.Turns.{Turned}
use Rattle.wse_codec.specs.Comes.{MayCome}
use Rattle.wse_txn.specs.States.{Resting, Working, working}
use Rattle.wse_txn.specs.Command.{IsAt, StandsForOneOf}
use Rattle.wse_txn.specs.Outcomes.{TellsAsBefore}
use Rattle.wse_history.specs.History.{HistoryNow}
use Rattle.wse_history.specs.Planning.{PlansAs, MayRecord, MayRecordIfAny, committed}
use Rattle.wse_history.specs.declared.planned.Planned.{Planned}
use Rattle.wse_engine.specs.Engine.{EngineNow, IsEngine}
use Rattle.wse_engine.specs.Doing.{MayBeWritten, HasEntered, HasDone}
use Rattle.wse_engine.proofs.StandLemmas.{one_of_entered, at_entered, at_unrecorded}
use Rattle.wse_engine.proofs.LeftLemmas.{only_reading}

-- ---- what is seen of an engine, for what is inside

abbrev pub Holds : {D : Type 0} → (D → Option Standing) → EngineNow D → Type 0
Holds told e = IsEngine (told e.disk) e.area e.gate e.state

pub holds : {D : Type 0} (told : D → Option Standing) (view e : EngineNow D) → view ≡ e → Holds told view → Holds told e
holds {D} told view e same is = subst (λ (e : EngineNow D). Holds told e) same is

pub plans : {D : Type 0} (view e : EngineNow D) (command : Command) (planned : Planned) → view ≡ e → PlansAs view.limits view.state command planned → PlansAs e.limits e.state command planned
plans {D} view e command planned same is = subst (λ (e : EngineNow D). PlansAs e.limits e.state command planned) same is

pub may_record : {D : Type 0} (view e : EngineNow D) (plan : Plan) → view ≡ e → MayRecordIfAny view.limits view.state plan → plan.effects ≢ [] → MayRecord e.limits e.state plan
may_record {D} view e plan same may some = subst (λ (e : EngineNow D). MayRecord e.limits e.state plan) same (may some)

pub none_of : {A : Type 0} (empty : Bool) (xs ys : List A) → empty ≡ nat_eq (length xs) 0 → empty ≡ true → xs ≡ ys → ys ≡ []
none_of empty [] ys is test same = sym same
none_of empty (x ∷ xs) ys is test same = absurd (omega (arith, eqb-true (length (x ∷ xs)) 0 (sym is ∙ test)))

pub some_of : {A : Type 0} (empty : Bool) (xs ys : List A) → empty ≡ nat_eq (length xs) 0 → empty ≡ false → xs ≡ ys → ys ≢ []
some_of {A} empty xs ys is test same none = false≢true (sym (sym is ∙ test) ∙ ap (λ (zs : List A). nat_eq (length zs) 0) (same ∙ none))

-- ---- without a call of the disk

pub stays_on : {D : Type 0} (told : D → Option Standing) (e : EngineNow D) (disk : D) (next : State) → disk ≡ e.disk → Holds told e → IsTold (told e.disk) → LeavesOnly (told e.disk) (told disk) (StandsForOneOf e.state next)
stays_on {D} told e disk next same is t =
    subst (λ (d : D). LeavesOnly (told e.disk) (told d) (StandsForOneOf e.state next)) (sym same)
    (only_reading (told e.disk) (StandsForOneOf e.state next) is.rests (inl (is.at t).stands))

pub tells_same : {D : Type 0} (told : D → Option Standing) (old new : D) → new ≡ old → TellsAsBefore (told old) (told new)
tells_same {D} told old new same = subst (λ (d : D). TellsAsBefore (told old) (told d)) (sym same) (record { on = λ t. t; back = λ t. t })

pub engine_unrecorded : (told : Option Standing) (area : Area) (gate : ℕ) (s next : State) (plan : Plan) (locks : Option Holders) → plan.effects ≡ [] → next ≡ committed s plan locks → IsEngine told area gate s → IsEngine told area gate next
engine_unrecorded told area gate s next plan locks none same is = record {
  rests = is.rests;
  at = λ t. subst (λ (u : State). IsAt u area gate told) (sym same) (at_unrecorded s plan locks area gate told none (is.at t));
}

pub done_as : {D : Type 0} (plan : Plan) (locks : Option Holders) (view old new_view new : EngineNow D) → view ≡ old → new ≡ new_view → HasDone plan locks view new_view → HasDone plan locks old new
done_as {D} plan locks view old new_view new same new_same done =
    subst (λ (e : EngineNow D). HasDone plan locks e new) same (subst (λ (e : EngineNow D). HasDone plan locks view e) (sym new_same) done)

-- ---- with a record

pub may_be_written : {D : Type 0} (told : D → Option Standing) (idle : Resting D) (plan : Plan) (drafted : Working D) (s : State) (history : HistoryNow) → drafted ≡ working idle plan → history.state ≡ s → history.reserved ≡ Some plan → plan.effects ≢ [] → MayCome s plan → IsEngine (told idle.disk) idle.area idle.gate s → MayBeWritten (told drafted.disk) drafted history
may_be_written {D} told idle plan drafted s history same state reserved some may is =
    subst (λ (d : Working D). MayBeWritten (told d.disk) d history) (sym same) (record {
      at = λ t. subst (λ (u : State). IsAt u idle.area idle.gate (told idle.disk)) (sym state) (is.at t);
      some = some;
      may = subst (λ (u : State). MayCome u plan) (sym state) may;
      reserved = reserved;
    })

pub engine_entered : (old new : Option Standing) (area : Area) (gate : ℕ) (s next : State) (written plan : Plan) (locks : Option Holders) → written ≡ plan → next ≡ committed s written locks → plan.effects ≢ [] → IsAtRest new → TellsAsBefore old new → (IsTold old → IsAt (state_after s plan.effects) area gate new) → IsEngine new area gate next
engine_entered old new area gate s next written plan locks same state some rests tells at = record {
  rests = rests;
  at = λ t. subst (λ (u : State). IsAt u area gate new) (sym (state ∙ ap (λ (p : Plan). committed s p locks) same)) (at_entered s plan locks area gate new some (at (tells.back t)));
}

pub has_entered : {D : Type 0} (written plan : Plan) (locks : Option Holders) (old : HistoryNow) (view new : EngineNow D) → new ≡ view → written ≡ plan → plan.effects ≢ [] → view.state ≡ committed old.state written locks → view.limits ≡ old.limits → (written.effects ≢ [] → Turned old.state.records view.state.records (version_of old.turned) (version_of view.turned)) → HasEntered plan locks old new
has_entered {D} written plan locks old view new same plan_same some state limits turns = subst (λ (e : EngineNow D). HasEntered plan locks old e) (sym same) (record {
  state = state ∙ ap (λ (p : Plan). committed old.state p locks) plan_same;
  limits = limits;
  turns = turns (λ none. some (sym (ap (λ (p : Plan). p.effects) plan_same) ∙ none));
})

pub leaves_entered : {D : Type 0} (told : D → Option Standing) (old new end : D) (s : State) (plan : Plan) (locks : Option Holders) → end ≡ new → plan.effects ≢ [] → LeavesOnly (told old) (told new) (StandsForOneOf s (state_after s plan.effects)) → LeavesOnly (told old) (told end) (StandsForOneOf s (committed s plan locks))
leaves_entered {D} told old new end s plan locks same some all =
    subst (λ (d : D). LeavesOnly (told old) (told d) (StandsForOneOf s (committed s plan locks))) (sym same)
    (weaker (told old) (told new) (StandsForOneOf s (state_after s plan.effects)) (StandsForOneOf s (committed s plan locks)) (λ image one. one_of_entered s plan locks image some one) all)

pub has_done : {D : Type 0} (drafted plan : Plan) (locks : Option Holders) (view old new : EngineNow D) (history : HistoryNow) → drafted ≡ plan → view ≡ old → history.state ≡ view.state → history.limits ≡ view.limits → history.turned ≡ view.turned → plan.effects ≢ [] → HasEntered drafted locks history new → HasDone plan locks old new
has_done {D} drafted plan locks view old new history plan_same same state limits turned some is = subst (λ (e : EngineNow D). HasDone plan locks e new) same (record {
  state = is.state ∙ ap (λ (s : State). committed s drafted locks) state ∙ ap (λ (p : Plan). committed view.state p locks) plan_same;
  limits = is.limits ∙ limits;
  still = λ none. absurd (some none);
  turns = λ some. subst (λ (ns : Numbers). Turned view.state.records new.state.records (version_of ns) (version_of new.turned)) turned
      (subst (λ (s : State). Turned s.records new.state.records (version_of history.turned) (version_of new.turned)) state is.turns);
})
