-- What a disk stands for, before and after a plan.
use Rattle.std.proofs.Common.{◌≡◌, ◌≢◌, inl, inr, ⊎_elim, ℕ, List, [], ◌∷◌, Option, Some, None, refl, sym, subst}
use Rattle.wse_path.specs.Tree.{Entries}
use Rattle.wse_path.specs.Changes.{LeadToTree}
use Rattle.wse_locks.specs.Locks.{Holders}
use Rattle.wse_element.specs.declared.effect.Effect.{Effect}
use Rattle.wse_element.specs.declared.plan.Plan.{Plan}
use Rattle.wse_element.specs.State.{State}
use Rattle.wse_element.specs.Effects.{state_after}
use Rattle.wse_disk.specs.declared.area.Area.{Area}
use Rattle.wse_disk.specs.Reading.{Reading}
use Rattle.wse_disk.specs.Standing.{Standing}
use Rattle.wse_disk.specs.Told.{IsTold, WhereTold}
use Rattle.wse_disk.specs.Changes.{LeadsToTree}
use Rattle.wse_codec.specs.Comes.{MayCome}
use Rattle.wse_txn.specs.Stands.{StandsFor, IsSameButLocks}
use Rattle.wse_txn.specs.Command.{IsAt, StandsForOneOf}
use Rattle.wse_txn.proofs.TwoStates.{ready}
use Rattle.wse_txn.proofs.OneState.{stands_alike}
use Rattle.wse_history.specs.Step.{with_locks, recorded}
use Rattle.wse_history.specs.Planning.{committed}

pub leads : (told : Option Standing) (area : Area) (gate : ℕ) (s : State) (plan : Plan) → (IsTold told → IsAt s area gate told) → MayCome s plan → LeadsToTree told plan.changes
leads None area gate s plan at may = tt
leads (Some t) area gate s plan at may =
    let is = at tt in
    let old = ready s is.records gate t.reading is.stands is.journal in
    subst (λ (files : Entries). LeadToTree files plan.changes) old.files
    (record { old = may.old_tree; new = (state_after s plan.effects).files; tree = may.new_tree; between = may.changes })

same_but_locks : (locks : Option Holders) (s : State) → IsSameButLocks s (with_locks locks s)
same_but_locks None s = record { kept = refl; files = refl }
same_but_locks (Some locks) s = record { kept = refl; files = refl }

recorded_after : (s : State) (effects : List Effect) → effects ≢ [] → recorded s effects ≡ state_after s effects
recorded_after s [] some = absurd (some refl)
recorded_after s (e ∷ es) some = refl

-- What is entered is what is written, but for the locks.
entered_alike : (s : State) (plan : Plan) (locks : Option Holders) → plan.effects ≢ [] → IsSameButLocks (state_after s plan.effects) (committed s plan locks)
entered_alike s plan locks some =
    subst (λ (t : State). IsSameButLocks t (with_locks locks (recorded s plan.effects))) (recorded_after s plan.effects some)
    (same_but_locks locks (recorded s plan.effects))

pub one_of_entered : (s : State) (plan : Plan) (locks : Option Holders) (image : Reading) → plan.effects ≢ [] → StandsForOneOf s (state_after s plan.effects) image → StandsForOneOf s (committed s plan locks) image
one_of_entered s plan locks image some one =
    ⊎_elim
    (λ (old : StandsFor s image). inl old)
    (λ (new : StandsFor (state_after s plan.effects) image). inr (stands_alike (state_after s plan.effects) (committed s plan locks) image (entered_alike s plan locks some) new))
    one

pub at_entered : (s : State) (plan : Plan) (locks : Option Holders) (area : Area) (gate : ℕ) (told : Option Standing) → plan.effects ≢ [] → IsAt (state_after s plan.effects) area gate told → IsAt (committed s plan locks) area gate told
at_entered s plan locks area gate told some is = record {
  stands = stands_alike (state_after s plan.effects) (committed s plan locks) _ (entered_alike s plan locks some) is.stands;
  same_area = is.same_area;
  records = is.records;
  journal = is.journal;
}

-- Where nothing is recorded the locks alone differ.
pub at_unrecorded : (s : State) (plan : Plan) (locks : Option Holders) (area : Area) (gate : ℕ) (told : Option Standing) → plan.effects ≡ [] → IsAt s area gate told → IsAt (committed s plan locks) area gate told
at_unrecorded s plan locks area gate told none is = record {
  stands = stands_alike s (committed s plan locks) _
      (subst (λ (es : List Effect). IsSameButLocks s (with_locks locks (recorded s es))) (sym none) (same_but_locks locks s)) is.stands;
  same_area = is.same_area;
  records = is.records;
  journal = is.journal;
}

pub stands_told : (told : Option Standing) (area : Area) (gate : ℕ) (s : State) → (IsTold told → IsAt s area gate told) → WhereTold told (λ t. StandsFor s t.reading)
stands_told None area gate s at = tt
stands_told (Some t) area gate s at = (at tt).stands
