-- What comparing a store's tree with its elements gives, and why it is refused.
use Rattle.std.specs.Prelude.{◌≡◌, ◌≢◌, ◌⊎◌, ⊤, ℕ, Bool, true, false, List, ◌∷◌, Option, Some, None, Result, Ok, Err, MatchResult}
use Rattle.wse_path.specs.Path.{Path}
use Rattle.wse_path.specs.declared.limits.Limits.{Limits}
use Rattle.wse_element.specs.State.{State}
use Rattle.wse_disk.specs.Standing.{Standing}
use Rattle.wse_element.specs.Effects.{state_after}
use Rattle.wse_recover.specs.Adopting.{adopting, IsAdopted, adopting_hit}
use Rattle.wse_recover.specs.Differing.{AreDiffering}
use Rattle.wse_txn.specs.declared.idle.DraftRefused.{DraftRefused}
use Rattle.wse_txn.specs.declared.idle.DraftRefused.TheVariants as drafts
use Rattle.wse_txn.specs.States.{Resting}
use Rattle.wse_recover.specs.Open.{opened_state, disk_of_fault}
use Rattle.wse_recover.specs.Opening.{CountsFault}
use Rattle.wse_recover.specs.declared.open.Opened.{Opened}
use Rattle.wse_recover.specs.declared.open.OpenFault.{OpenFault}
use Rattle.wse_recover.specs.declared.open.OpenFault.TheVariants as opens

-- The state is the one that was there, or with `adopt` what adopting makes of it.
abbrev pub IsComparedAs : (adopt : Bool) → State → State → Type 0
IsComparedAs false s t = t ≡ s
IsComparedAs true s t = IsAdopted s t

-- Where adopting changed the state, it passes none of the limits on what is known and on serial numbers.
abbrev pub IsAdoptedWithin : Limits → State → State → Type 0
IsAdoptedWithin limits s t = (t ≡ s) ⊎ (adopting_hit limits t ≡ None)

-- The path differs; or there was no memory to tell it.
abbrev pub RefusesAt : {D : Type 0} → (D → Option Standing) → Opened D → Path → OpenFault D → Type 0
RefusesAt told old p (opens.Disk new) = ⊥
RefusesAt told old p (opens.NotAStore new at) = ⊥
RefusesAt told old p (opens.TooBig new which found) = ⊥
RefusesAt told old p (opens.Differs new first) = first ≡ p
RefusesAt told old p (opens.Memory new) = ⊤

-- Why the tree is refused. Unless the disk failed it is as it was.
abbrev pub RefusesCompared : {D : Type 0} → (D → Option Standing) → (adopt : Bool) → Limits → Opened D → OpenFault D → Type 0
RefusesCompared told adopt limits old (opens.Disk new) = ⊤
RefusesCompared told adopt limits old (opens.NotAStore new at) = ⊥
RefusesCompared told adopt limits old (opens.TooBig new which found) =
    (adopt ≡ true)
    × ((t : State) × IsAdopted (opened_state old) t × (t ≢ opened_state old) × (adopting_hit limits t ≡ Some (record { which = which; would_be = found })))
    × (told new ≡ told old.idle.disk)
RefusesCompared told adopt limits old (opens.Differs new p) =
    (adopt ≡ false)
    × ((others : List Path) × AreDiffering old.tree.files old.stacks.state.records (p ∷ others))
    × (told new ≡ told old.idle.disk)
RefusesCompared told adopt limits old (opens.Memory new) = told new ≡ told old.idle.disk

-- ---- why adopting is refused

-- The adopted state passes the limit, or there was no memory. Unless the disk failed it is as it was.
abbrev pub RefusesAdopting : {D : Type 0} → (D → Option Standing) → Limits → Opened D → List Path → OpenFault D → Type 0
RefusesAdopting told limits old paths (opens.Disk new) = ⊤
RefusesAdopting told limits old paths (opens.NotAStore new at) = ⊥
RefusesAdopting told limits old paths (opens.TooBig new which found) =
    (adopting_hit limits (state_after (opened_state old) (adopting paths)) ≡ Some (record { which = which; would_be = found })) × (told new ≡ told old.idle.disk)
RefusesAdopting told limits old paths (opens.Differs new p) = ⊥
RefusesAdopting told limits old paths (opens.Memory new) = told new ≡ told old.idle.disk

-- ---- the record of adopting, as it is written

abbrev pub disk_of_written : {D : Type 0} → Result (Resting D) (OpenFault D) → D
disk_of_written (Ok idle) = idle.disk
disk_of_written (Err fault) = disk_of_fault fault

-- The disk failed; or there was no memory, and the disk is as it was.
abbrev pub FailedOrStayed : {D : Type 0} → (D → Option Standing) → D → OpenFault D → Type 0
FailedOrStayed told old (opens.Disk new) = ⊤
FailedOrStayed told old (opens.NotAStore new at) = ⊥
FailedOrStayed told old (opens.TooBig new which found) = ⊥
FailedOrStayed told old (opens.Differs new p) = ⊥
FailedOrStayed told old (opens.Memory new) = told new ≡ told old

abbrev pub CountsWritten : {D : Type 0} → (D → ℕ) → D → Result (Resting D) (OpenFault D) → Type 0
CountsWritten faults old result = MatchResult result (λ idle. faults idle.disk ≡ faults old) (CountsFault faults old)

-- The disk at rest that a refused draft hands back.
abbrev pub idle_in : {D : Type 0} → DraftRefused D → Resting D
idle_in (drafts.Memory idle) = idle
