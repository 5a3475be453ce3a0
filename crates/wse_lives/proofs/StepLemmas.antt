-- A command leaves a sound state, and the records that it pushes say what it did.
use Rattle.std.proofs.Common.{◌≡◌, ◌≢◌, ℕ, Bool, true, false, cond, not, List, [], ◌∷◌, Option, Some, None, refl, sym, subst}
use Rattle.std.specs.Prelude.{find}
use Rattle.std.specs.Option.{option_map_or}
use Rattle.std.specs.List.{AllByRecursion}
use Rattle.wse_path.specs.Path.{Path}
use Rattle.wse_path.specs.declared.edit.Edit.{Edit as EditValue}
use Rattle.wse_path.specs.declared.command.Command.{Command}
use Rattle.wse_path.specs.declared.command.Command.TheVariants.{Edit, Move, Lock, Unlock, Leave, Outside, Forget, Look}
use Rattle.wse_path.specs.declared.limits.Limits.{Limits}
use Rattle.wse_locks.specs.Locks.{Holders, holds, held}
use Rattle.wse_element.specs.declared.effect.Effect.{Effect}
use Rattle.wse_element.specs.declared.effect.Effect.TheVariants.{Push, MoveBack, MoveForward, Split, Drop, Invalidate, Bump, Set}
use Rattle.wse_element.specs.State.{State}
use Rattle.wse_element.specs.Effects.{state_after}
use Rattle.wse_apply.specs.Performed.{performed}
use Rattle.wse_apply.specs.Setting.{SettingState}
use Rattle.wse_history.specs.declared.answer.Answer.TheVariants as answers
use Rattle.wse_history.specs.Outcome.{Outcome, stays, locks_as, is_some_of}
use Rattle.wse_history.specs.Locking.{given_each, lock_outcome}
use Rattle.wse_history.specs.Unlocking.{freed_each, unlock_outcome}
use Rattle.wse_history.specs.Step.{outcome, recorded, with_locks}
use Rattle.wse_history.specs.Laws.{MayApply}
use Rattle.wse_element.specs.Laws.{PushesParts}
use Rattle.wse_history.proofs.ReachedLemmas.{is_done}
use Rattle.wse_history.proofs.OutcomeLemmas.{by_outcome, outcomes_apply}
use Rattle.wse_lives.specs.Lives.{Makes, Comes}
use Rattle.wse_history.specs.History.{IsHistory}
use Rattle.wse_lives.specs.Laws.{CommandsKeep}
use Rattle.wse_lives.proofs.PlainLemmas.{plain_moves, plain_forgets, plain_outsides}
use Rattle.wse_lives.proofs.MakesLemmas.{all_plain_make, edit_makes}

-- ---- what is recorded

pub recorded_is : (s : State) (effects : List Effect) → effects ≢ [] → recorded s effects ≡ state_after s effects
recorded_is s [] some = absurd (some refl)
recorded_is s (e ∷ es) some =
    refl

-- locks don't matter
pub sound_locks : (limits : Limits) (s : State) (locks : Holders) → IsHistory s limits → IsHistory (record s { locks = locks }) limits
sound_locks limits s locks sound =
    let linked = sound.linked in
    record {
      linked = record { kept = linked.kept; tree = linked.tree; each = linked.each };
      parts = sound.parts;
      told = sound.told;
      within = sound.within;
      fits = sound.fits;
    }

sound_with : (limits : Limits) (s : State) (locks : Option Holders) → IsHistory s limits → IsHistory (with_locks locks s) limits
sound_with limits s None sound = sound
sound_with limits s (Some locks) sound = sound_locks limits s locks sound

pub makes_locks : (s next : State) (locks : Holders) (e : Effect) → Makes s next e → Makes s (record next { locks = locks }) e
makes_locks s next locks (Push r) m = record { parts = m.parts; new = m.new; given = m.given; each = m.each }
makes_locks s next locks (MoveBack id) m = tt
makes_locks s next locks (MoveForward id) m = tt
makes_locks s next locks (Split id first) m = tt
makes_locks s next locks (Drop path reason) m = tt
makes_locks s next locks (Invalidate path) m = tt
makes_locks s next locks (Bump path by) m = tt
makes_locks s next locks (Set path content) m = tt

all_make_locks : (s next : State) (locks : Holders) (effects : List Effect) → AllByRecursion (Makes s next) effects → AllByRecursion (Makes s (record next { locks = locks })) effects
all_make_locks s next locks [] all = tt
all_make_locks s next locks (e ∷ es) all = (makes_locks s next locks e all.0, all_make_locks s next locks es all.1)

-- a state that differs in its locks comes as well
pub comes_locks : (s next : State) (locks : Holders) → Comes s next → Comes s (record next { locks = locks })
comes_locks s next locks comes = record {
  effects = comes.effects;
  records = comes.records;
  makes = all_make_locks s next locks comes.effects comes.makes;
  parts = comes.parts;
  numbered = comes.numbered;
}

comes_with : (s next : State) (locks : Option Holders) → Comes s next → Comes s (with_locks locks next)
comes_with s next None comes = comes
comes_with s next (Some locks) comes = comes_locks s next locks comes

-- ---- effects

makes_parts : (s next : State) (e : Effect) → Makes s next e → PushesParts e
makes_parts s next (Push r) m = m.parts
makes_parts s next (MoveBack id) m = tt
makes_parts s next (MoveForward id) m = tt
makes_parts s next (Split id first) m = tt
makes_parts s next (Drop path reason) m = tt
makes_parts s next (Invalidate path) m = tt
makes_parts s next (Bump path by) m = tt
makes_parts s next (Set path content) m = tt

pub all_parts : (s next : State) (effects : List Effect) → AllByRecursion (Makes s next) effects → AllByRecursion PushesParts effects
all_parts s next [] all = tt
all_parts s next (e ∷ es) all = (makes_parts s next e all.0, all_parts s next es all.1)

-- What is known of effects that are recorded, if there are any.
pub record IsRecorded (limits : Limits) (s : State) (effects : List Effect) : Type 0 where
  pub makes : AllByRecursion (Makes s (state_after s effects)) effects
  pub apply : effects ≢ [] → MayApply limits s effects

pub sound_recorded : (limits : Limits) (s : State) (effects : List Effect) → IsHistory s limits → IsRecorded limits s effects → IsHistory (recorded s effects) limits
sound_recorded limits s [] sound is = sound
sound_recorded limits s (e ∷ es) sound is =
    let effects = e ∷ es in
    let some : effects ≢ [] = λ k. cc in
    subst (λ x. IsHistory x limits) (sym (recorded_is s effects some))
    ((is.apply some).state)

pub comes_recorded : (limits : Limits) (s : State) (effects : List Effect) → IsHistory s limits → IsRecorded limits s effects → Comes s (recorded s effects)
comes_recorded limits s [] sound is = record { effects = []; records = refl; makes = tt; parts = sound.parts; numbered = sound.linked.kept.records.numbered }
comes_recorded limits s (e ∷ es) sound is =
    let effects = e ∷ es in
    let some : effects ≢ [] = λ k. cc in
    subst (Comes s) (sym (recorded_is s effects some))
    (record { effects = effects; records = refl; makes = is.makes; parts = sound.parts; numbered = sound.linked.kept.records.numbered })

-- ---- each command

abbrev setting_of : Limits → State → ℕ → EditValue → SettingState
setting_of limits s by edit = record { versions = s.versions; locks = s.locks; limits = limits; by = by; encoding = edit.encoding }

none_either : (b : Bool) (one other : Outcome) → one.effects ≡ [] → other.effects ≡ [] → (cond b one other).effects ≡ []
none_either true one other e f = e
none_either false one other e f = f

none_held : (o : Option Path) (other : Outcome) → other.effects ≡ [] → (option_map_or (λ p. stays (answers.NotHeld p)) o other).effects ≡ []
none_held None other e = e
none_held (Some p) other e = refl

-- locks are no effects
lock_nothing : (s : State) (by : ℕ) (files : List Path) → (lock_outcome s by files).effects ≡ []
lock_nothing s by files =
    none_either (is_some_of (held s.locks by files)) (stays (answers.Held (held s.locks by files))) (locks_as (given_each by files s.locks) answers.Taken) refl refl

unlock_nothing : (s : State) (by : ℕ) (files : List Path) → (unlock_outcome s by files).effects ≡ []
unlock_nothing s by files = none_held (find (λ p. not (holds s.locks by p)) files) (locks_as (freed_each files s.locks) answers.Freed) refl

nothing_makes : (s : State) (effects : List Effect) → effects ≡ [] → AllByRecursion (Makes s (state_after s effects)) effects
nothing_makes s effects none = subst (λ es. AllByRecursion (Makes s (state_after s es)) es) (sym none) tt

outcome_makes : (limits : Limits) (s : State) (command : Command) → IsHistory s limits → AllByRecursion (Makes s (state_after s (outcome limits s command).effects)) (outcome limits s command).effects
outcome_makes limits s (Edit by edit) sound =
    let done = performed s.files s.versions s.locks limits by edit in
    edit_outcome_makes (outcome limits s (Edit by edit)).effects refl
  where
    edit_outcome_makes : (es : List Effect) → es ≡ (outcome limits s (Edit by edit)).effects → AllByRecursion (Makes s (state_after s es)) es
    edit_outcome_makes [] e = tt
    edit_outcome_makes (x ∷ xs) e =
        subst (λ es. AllByRecursion (Makes s (state_after s es)) es) (sym e)
        (by_outcome (λ es. AllByRecursion (Makes s (state_after s es)) es) limits s edit (performed s.files s.versions s.locks limits by edit)
        (λ none are. edit_makes s edit (performed s.files s.versions s.locks limits by edit) (is_done (setting_of limits s by edit) s.files edit sound.linked.tree sound.fits).is)
        (subst (λ es. es ≢ []) e (λ k. cc)))
outcome_makes limits s (Move by direction p choice) sound = all_plain_make s (state_after s (outcome limits s (Move by direction p choice)).effects) (outcome limits s (Move by direction p choice)).effects (plain_moves limits s by direction p choice)
outcome_makes limits s (Lock by files) sound = nothing_makes s (outcome limits s (Lock by files)).effects (lock_nothing s by files)
outcome_makes limits s (Unlock by files) sound = nothing_makes s (outcome limits s (Unlock by files)).effects (unlock_nothing s by files)
outcome_makes limits s (Leave by) sound = tt
outcome_makes limits s (Outside p bytes) sound = all_plain_make s (state_after s (outcome limits s (Outside p bytes)).effects) (outcome limits s (Outside p bytes)).effects (plain_outsides limits s p bytes)
outcome_makes limits s (Forget p) sound = all_plain_make s (state_after s (outcome limits s (Forget p)).effects) (outcome limits s (Forget p)).effects (plain_forgets limits s p)
outcome_makes limits s (Look p) sound = tt

pub is_recorded : (limits : Limits) (s : State) (command : Command) → IsHistory s limits → IsRecorded limits s (outcome limits s command).effects
is_recorded limits s command sound = record {
  makes = outcome_makes limits s command sound;
  apply = outcomes_apply limits s command sound;
}

pub commands_keep : CommandsKeep
commands_keep limits s command sound =
    let o = outcome limits s command in
    let is = is_recorded limits s command sound in
    (sound_with limits (recorded s o.effects) o.locks (sound_recorded limits s o.effects sound is), comes_with s (recorded s o.effects) o.locks (comes_recorded limits s o.effects sound is))
