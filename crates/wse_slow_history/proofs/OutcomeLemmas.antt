-- Choices, and what a step keeps.
use Rattle.std.proofs.Common.{◌≡◌, ◌≢◌, Bool, true, false, List, [], ◌∷◌, length, nat_eq, Option, Some, None, refl, sym, ap, arith}
use Rattle.std.specs.Prelude.{if◌then◌else◌}
use Rattle.std.proofs.lemmas.Bool.{eqb-true}
use Rattle.wse_path.specs.declared.command.Command.{Command}
use Rattle.wse_path.specs.declared.limits.Limits.{Limits}
use Rattle.wse_locks.specs.Locks.{Holders}
use Rattle.wse_element.specs.declared.effect.Effect.{Effect}
use Rattle.wse_element.specs.State.{State}
use Rattle.wse_history.specs.History.{IsHistory}
use Rattle.wse_history.specs.Outcome.{is_some_of}
use Rattle.wse_history.specs.Laws.{OutcomesMayApply, MayApply}
use Rattle.wse_history.specs.Step.{outcome, recorded, with_locks, step}

-- a choice by a test that is known
pub chosen : {X : Type 0} (b : Bool) (one other : X) → b ≡ true → one ≡ (if b then one else other)
chosen b one other is = ap (λ c. if c then one else other) (sym is)

pub unchosen : {X : Type 0} (b : Bool) (one other : X) → b ≡ false → other ≡ (if b then one else other)
unchosen b one other is = ap (λ c. if c then one else other) (sym is)

-- whether a list has something
pub none_there : {X : Type 0} (xs : List X) → nat_eq (length xs) 0 ≡ true → is_some_of xs ≡ false
none_there [] e = refl
none_there (x ∷ xs) e = absurd (omega (arith, eqb-true (length (x ∷ xs)) 0 e))

pub some_there : {X : Type 0} (xs : List X) → nat_eq (length xs) 0 ≡ false → is_some_of xs ≡ true
some_there [] e = cc
some_there (x ∷ xs) e = refl

-- locks say nothing of what the type of histories keeps
relocked : (limits : Limits) (s : State) (locks : Option Holders) → IsHistory s limits → IsHistory (with_locks locks s) limits
relocked limits s None h = h
relocked limits s (Some locks) h = record {
  linked = record { kept = h.linked.kept; tree = h.linked.tree; each = h.linked.each };
  parts = h.parts;
  told = h.told;
  within = h.within;
  fits = h.fits;
}

kept_by : (limits : Limits) (s : State) (effects : List Effect) → IsHistory s limits → (effects ≢ [] → MayApply limits s effects) → IsHistory (recorded s effects) limits
kept_by limits s [] h may = h
kept_by limits s (e ∷ es) h may = (may (λ is. cc)).state

-- a step leaves what the type of histories keeps
pub step_keeps : (limits : Limits) (s : State) (command : Command) → OutcomesMayApply → IsHistory s limits → IsHistory (step limits s command) limits
step_keeps limits s command law h =
    let o = outcome limits s command in
    relocked limits (recorded s o.effects) o.locks (kept_by limits s o.effects h (law limits s command h))
