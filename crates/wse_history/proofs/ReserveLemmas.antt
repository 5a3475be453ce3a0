-- A plan that may be recorded is reserved and committed.
use Rattle.std.proofs.Common.{◌≡◌, ℕ, ◌+◌, ◌-◌, ◌*◌, ◌^◌, ◌<◌, ◌≤◌, Bool, true, false, List, [], ◌∷◌, ◌++◌, length, nat_eq, map, Option, Some, None, inl, inr, vec_capacity, refl, sym, ap, subst, ◌∙◌, arith}
use Rattle.std.specs.Prelude.{◌⊎◌, All, option_map, if◌then◌else◌}
use Rattle.std.specs.List.{AllByRecursion}
use Rattle.std.specs.Option.{unwrap_or}
use Rattle.std.specs.FinMap.{is_sorted}
use Rattle.std.proofs.lemmas.List.Elements.{All-from_recursion, recursion_from_All}
use Rattle.wse_path.specs.Path.{Path}
use Rattle.wse_path.specs.Order.{path_cmp}
use Rattle.wse_path.specs.Tree.{Entries, set_files, IsTree}
use Rattle.wse_path.specs.Changes.{changes_between, contents_of, LeadToTree}
use Rattle.wse_path.specs.Versions.{Numbers, version_of, bumped_by}
use Rattle.wse_path.specs.declared.change.Numbered.{Numbered}
use Rattle.wse_path.specs.declared.limits.Limits.{Limits}
use Rattle.wse_path.proofs.LeadLemmas.{lead_rises, lead_set}
use Rattle.wse_locks.specs.Locks.{Holders}
use Rattle.wse_element.specs.declared.effect.Effect.{Effect}
use Rattle.wse_element.specs.declared.effect.Effect.TheVariants.{Push, MoveBack, MoveForward, Split, Drop, Invalidate, Bump, Set}
use Rattle.wse_element.specs.declared.plan.Plan.{Plan}
use Rattle.wse_element.specs.State.{StacksState, State, stacks_of, kept_of}
use Rattle.wse_element.specs.Effects.{left_by, state_after}
use Rattle.wse_history.specs.History.{HistoryNow, state_in, IsHistory}
use Rattle.wse_history.specs.Step.{recorded, with_locks}
use Rattle.wse_history.specs.Planning.{bumps_in, plan_of, committed, MayRecord}
use Rattle.wse_history.specs.Reserved.{reserved_in, IsReady, IsReadyIfAny}
use Rattle.wse_history.specs.declared.room.Room.{Room}
use Rattle.wse_history.specs.Done.{pairs_of, raised}
use Rattle.wse_codec.specs.Allowed.{IsRise, IsSpellableEffect}
use Rattle.wse_element.proofs.NumberLemmas.{bounded_parts, version_low}
use Rattle.wse_history.proofs.RaisedLemmas.{apart_rising, numbered_is, pairs_small}
use Rattle.wse_history.proofs.PlanLemmas.{bumped_each, some_is, some_effects}

-- ---- reserve

module _ (limits : Limits) (s : State) (plan : Plan) (may : MayRecord limits s plan) where
  recorded_is : recorded s plan.effects ≡ state_after s plan.effects
  recorded_is = ap (λ b. if b then state_after s plan.effects else s) (some_is plan.effects may.comes.some.some)

  -- its changes are those of its effects
  pub plan_is : plan ≡ plan_of s plan.effects
  plan_is =
      let changes : plan.changes ≡ changes_between s.files (recorded s plan.effects).files = may.comes.changes ∙ ap (λ (next : State). changes_between s.files next.files) (sym recorded_is) in
      λ i. record { effects = plan.effects; changes = changes i }

  abbrev pub plan_leads : LeadToTree s.files plan.changes
  plan_leads = record { old = may.comes.old_tree; new = (state_after s plan.effects).files; tree = may.comes.new_tree; between = may.comes.changes }

  pub sets_rise : is_sorted path_cmp (contents_of plan.changes) ≡ true
  sets_rise = lead_rises s.files plan.changes plan_leads

  pub sets_are : set_files (contents_of plan.changes) s.files ≡ (state_after s plan.effects).files
  sets_are = lead_set s.files plan.changes plan_leads

  pub sets_tree : IsTree (set_files (contents_of plan.changes) s.files)
  sets_tree = subst IsTree (sym sets_are) may.comes.new_tree

  pub committed_is : (locks : Option Holders) → committed s plan locks ≡ with_locks locks (state_after s plan.effects)
  committed_is locks = ap (with_locks locks) recorded_is

  -- it is prepared, and there is room for it
  pub is_ready : (prepared : Option (List Effect)) (files_room versions_room : ℕ) (room : Room) → prepared ≡ Some plan.effects → room.contents.items ≡ [] → length plan.changes ≤ vec_capacity room.contents
      → length plan.changes ≤ files_room → room.bumps.items ≡ bumps_in plan.effects → length room.bumps.items ≤ versions_room → IsReady limits s prepared files_room versions_room room
  is_ready prepared files_room versions_room room prepares none contents files bumps versions = record {
    effects = plan.effects;
    prepared_for = prepares;
    may = subst (MayRecord limits s) plan_is may;
    none = none;
    contents = subst (λ (p : Plan). length p.changes ≤ vec_capacity room.contents) plan_is contents;
    files = subst (λ (p : Plan). length p.changes ≤ files_room) plan_is files;
    bumps = bumps;
    versions = versions;
  }

-- ---- locks

pub relocked : (limits : Limits) (s : State) (locks : Option Holders) → IsHistory s limits → IsHistory (with_locks locks s) limits
relocked limits s None h = h
relocked limits s (Some locks) h = record {
  linked = record { kept = h.linked.kept; tree = h.linked.tree; each = h.linked.each };
  parts = h.parts;
  told = h.told;
  within = h.within;
  fits = h.fits;
}

-- ---- commit

-- what is prepared for the plan
pub record IsFor (limits : Limits) (s : State) (prepared : Option (List Effect)) (files_room versions_room : ℕ) (room : Room) (plan : Plan) : Type 0 where
  pub prepares : prepared ≡ Some plan.effects
  pub may : MayRecord limits s plan
  pub none : room.contents.items ≡ []
  pub contents : length plan.changes ≤ vec_capacity room.contents
  pub files : length plan.changes ≤ files_room
  pub bumps : room.bumps.items ≡ bumps_in plan.effects
  pub versions : length room.bumps.items ≤ versions_room

same_plan : (a b : Plan) → ◌≡◌ {A = Option Plan} (Some a) (Some b) → a ≡ b
same_plan a b e = cc

module _ (limits : Limits) (s : State) (prepared : Option (List Effect)) (files_room versions_room : ℕ) where
  for_itself : (room : Room) → (r : IsReady limits s prepared files_room versions_room room) → IsFor limits s prepared files_room versions_room room (plan_of s r.effects)
  for_itself room r = record { prepares = r.prepared_for; may = r.may; none = r.none; contents = r.contents; files = r.files; bumps = r.bumps; versions = r.versions }

  for_plan : (room : Room) (plan : Plan) → IsReady limits s prepared files_room versions_room room → option_map (plan_of s) prepared ≡ Some plan → IsFor limits s prepared files_room versions_room room plan
  for_plan room plan r e =
      subst (IsFor limits s prepared files_room versions_room room)
      (same_plan (plan_of s r.effects) plan (sym (ap (option_map (plan_of s)) r.prepared_for) ∙ e))
      (for_itself room r)

  pub is_for : (held : Option Room) (room : Room) (plan : Plan) → held ≡ Some room → IsReadyIfAny limits s prepared files_room versions_room held → reserved_in s prepared held ≡ Some plan
      → IsFor limits s prepared files_room versions_room room plan
  is_for held room plan e =
      subst (λ (o : Option Room). IsReadyIfAny limits s prepared files_room versions_room o → reserved_in s prepared o ≡ Some plan → IsFor limits s prepared files_room versions_room room plan)
      (sym e) (for_plan room plan)

-- a plan that has effects is the reserved one
pub by_ready : (reserved : Option Plan) (plan : Plan) → (reserved ≡ Some plan) ⊎ ((plan.effects ≡ []) × (plan.changes ≡ [])) → nat_eq (length plan.effects) 0 ≡ false → reserved ≡ Some plan
by_ready reserved plan (inl e) some = e
by_ready reserved plan (inr none) some = absurd (some_effects plan.effects plan.effects refl some none.0)

-- what is prepared, by what is held of the history
pub ready_for : (now : HistoryNow) (limits : Limits) (s : State) (turned : Numbers) (prepared : Option (List Effect)) (files_room versions_room : ℕ) (held : Option Room) (room : Room) (plan : Plan) (empty : Bool)
    → record { state = s; limits = limits; turned = turned; reserved = reserved_in s prepared held } ≡ now → (now.reserved ≡ Some plan) ⊎ ((plan.effects ≡ []) × (plan.changes ≡ []))
    → empty ≡ nat_eq (length plan.effects) 0 → empty ≡ false → held ≡ Some room → IsReadyIfAny limits s prepared files_room versions_room held → IsFor limits s prepared files_room versions_room room plan
ready_for now limits s turned prepared files_room versions_room held room plan empty view ready is e has keeps =
    is_for limits s prepared files_room versions_room held room plan has keeps (ap (λ (h : HistoryNow). h.reserved) view ∙ by_ready now.reserved plan ready (sym is ∙ e))

locked_is : (o : Option Holders) (s : State) → with_locks o s ≡ record s { locks = unwrap_or o s.locks }
locked_is None s = refl
locked_is (Some locks) s = refl

-- the state behind it
pub after_is : (limits : Limits) (s : State) (plan : Plan) → MayRecord limits s plan → (stacks : StacksState) (versions : Numbers) (files : Entries) (locks : Holders) (o : Option Holders)
    → stacks ≡ left_by plan.effects (stacks_of (kept_of s)) → versions ≡ bumped_by (bumps_in plan.effects) s.versions → files ≡ set_files (contents_of plan.changes) s.files → locks ≡ unwrap_or o s.locks
    → state_in stacks versions files locks ≡ committed s plan o
after_is limits s plan may stacks versions files locks o a b c d =
    let next = state_after s plan.effects in
    let same_versions : versions ≡ next.versions = b ∙ sym (bumped_each s.versions plan.effects) in
    let same_files : files ≡ next.files = c ∙ sets_are limits s plan may in
    (λ i. state_in (a i) (same_versions i) (same_files i) (d i)) ∙ sym (locked_is o next) ∙ sym (committed_is limits s plan may o)

-- which the type of histories keeps
pub history_then : (limits : Limits) (s : State) (plan : Plan) (o : Option Holders) → MayRecord limits s plan → IsHistory (committed s plan o) limits
history_then limits s plan o may =
    subst (λ (x : State). IsHistory x limits) (sym (committed_is limits s plan may o)) (relocked limits (state_after s plan.effects) o may.next)

-- ---- versions

abbrev first_number : List Numbered → ℕ
first_number [] = 0
first_number (b ∷ bs) = b.number

abbrev others : List Numbered → List Numbered
others [] = []
others (b ∷ bs) = bs

small_each : (top : ℕ) (final : Path → ℕ) (vs : Numbers) (bs : List Numbered) → map {B = Numbered} (λ (b : Numbered). record { path = b.path; number = final b.path }) bs ≡ raised vs bs
    → ((q : Path) → final q ≤ top) → AllByRecursion (λ (b : Numbered). version_of vs b.path + b.number ≤ top) bs
small_each top final vs [] e low = tt
small_each top final vs (b ∷ bs) e low = (subst (λ n. n ≤ top) (ap first_number e) (low b.path), small_each top final vs bs (ap others e) low)

abbrev numbers_of : List (Path × ℕ) → List Numbered
numbers_of [] = []
numbers_of (b ∷ bs) = record { path = b.0; number = b.1 } ∷ numbers_of bs

pairs_again : (bs : List (Path × ℕ)) → pairs_of (numbers_of bs) ≡ bs
pairs_again [] = refl
pairs_again (b ∷ bs) = ap (λ ps. b ∷ ps) (pairs_again bs)

-- versions that are low in the end are low on the way
bumps_small : (vs : Numbers) (bs : List (Path × ℕ)) → is_sorted path_cmp bs ≡ true → ((q : Path) → version_of (bumped_by bs vs) q ≤ 2 ^ 31 - 1) → All (λ b. version_of vs b.0 + b.1 ≤ 2 ^ 31 - 1) bs
bumps_small vs bs sorted low =
    let ns = numbers_of bs in
    let same = pairs_again bs in
    let rise : is_sorted path_cmp (pairs_of ns) ≡ true = ap (is_sorted path_cmp) same ∙ sorted in
    let each = small_each (2 ^ 31 - 1) (version_of (bumped_by (pairs_of ns) vs)) vs ns (numbered_is vs ns (apart_rising ns rise)) (λ q. subst (λ ps. version_of (bumped_by ps vs) q ≤ 2 ^ 31 - 1) (sym same) (low q)) in
    subst (All (λ b. version_of vs b.0 + b.1 ≤ 2 ^ 31 - 1)) same (pairs_small vs ns (All-from_recursion (λ (b : Numbered). version_of vs b.path + b.number ≤ 2 ^ 31 - 1) ns each))

low_enough : (v serial : ℕ) → v ≤ 2 * serial + 1 → serial ≤ 2 ^ 30 - 1 → v ≤ 2 ^ 31 - 1
low_enough v serial l few = omega (arith, l, few)

pub versions_small : (limits : Limits) (s : State) → IsHistory s limits → (q : Path) → version_of s.versions q ≤ 2 ^ 31 - 1
versions_small limits s history q =
    low_enough (version_of s.versions q) s.serial (version_low (2 * s.serial + 1) s.versions q history.linked.kept.versions) (bounded_parts (stacks_of (kept_of s)) history.linked.kept.bounded).serial

-- what a plan raises fits its type
pub plan_small : (limits : Limits) (s : State) (plan : Plan) → MayRecord limits s plan → All (λ b. version_of s.versions b.0 + b.1 ≤ 2 ^ 31 - 1) (bumps_in plan.effects)
plan_small limits s plan may =
    bumps_small s.versions (bumps_in plan.effects) may.rises
    (λ q. subst (λ vs. version_of vs q ≤ 2 ^ 31 - 1) (bumped_each s.versions plan.effects) (versions_small limits (state_after s plan.effects) may.next q))

-- each version that rises, rises by 1 or 2
rise_some : (by : ℕ) → IsRise by → 0 < by
rise_some by (inl e) = omega (arith, e)
rise_some by (inr e) = omega (arith, e)

rises_some : (es : List Effect) → AllByRecursion IsSpellableEffect es → AllByRecursion (λ (b : Path × ℕ). 0 < b.1) (bumps_in es)
rises_some [] all = tt
rises_some (Push r ∷ es) all = rises_some es all.1
rises_some (MoveBack id ∷ es) all = rises_some es all.1
rises_some (MoveForward id ∷ es) all = rises_some es all.1
rises_some (Split id first ∷ es) all = rises_some es all.1
rises_some (Drop p reason ∷ es) all = rises_some es all.1
rises_some (Invalidate p ∷ es) all = rises_some es all.1
rises_some (Bump p by ∷ es) all = (rise_some by all.0, rises_some es all.1)
rises_some (Set p bytes ∷ es) all = rises_some es all.1

-- what a plan raises is raised
pub plan_some : (limits : Limits) (s : State) (plan : Plan) → MayRecord limits s plan → All (λ b. 0 < b.1) (bumps_in plan.effects)
plan_some limits s plan may =
    All-from_recursion (λ (b : Path × ℕ). 0 < b.1) (bumps_in plan.effects)
    (rises_some plan.effects (recursion_from_All IsSpellableEffect plan.effects may.spells.each))

-- ---- one more effect

pub bumps_behind_one : (es : List Effect) (e : Effect) → bumps_in (es ++ e ∷ []) ≡ bumps_in es ++ bumps_in (e ∷ [])
bumps_behind_one [] e = refl
bumps_behind_one (Push r ∷ es) e = bumps_behind_one es e
bumps_behind_one (MoveBack id ∷ es) e = bumps_behind_one es e
bumps_behind_one (MoveForward id ∷ es) e = bumps_behind_one es e
bumps_behind_one (Split id first ∷ es) e = bumps_behind_one es e
bumps_behind_one (Drop p reason ∷ es) e = bumps_behind_one es e
bumps_behind_one (Invalidate p ∷ es) e = bumps_behind_one es e
bumps_behind_one (Bump p by ∷ es) e = ap (λ ps. (p, by) ∷ ps) (bumps_behind_one es e)
bumps_behind_one (Set p bytes ∷ es) e = bumps_behind_one es e

bumps_few : (es : List Effect) → length (bumps_in es) ≤ length es
bumps_few [] = omega arith
bumps_few (Push r ∷ es) = let l = bumps_few es in omega (arith, l)
bumps_few (MoveBack id ∷ es) = let l = bumps_few es in omega (arith, l)
bumps_few (MoveForward id ∷ es) = let l = bumps_few es in omega (arith, l)
bumps_few (Split id first ∷ es) = let l = bumps_few es in omega (arith, l)
bumps_few (Drop p reason ∷ es) = let l = bumps_few es in omega (arith, l)
bumps_few (Invalidate p ∷ es) = let l = bumps_few es in omega (arith, l)
bumps_few (Bump p by ∷ es) = let l = bumps_few es in omega (arith, l)
bumps_few (Set p bytes ∷ es) = let l = bumps_few es in omega (arith, l)

-- room for as many versions as there are effects is enough
pub bumps_fit : (bumps : List (Path × ℕ)) (es : List Effect) (room n : ℕ) → bumps ≡ bumps_in es → n ≡ length es → n ≤ room → length bumps ≤ room
bumps_fit bumps es room n is e fits = let same = ap (λ (bs : List (Path × ℕ)). length bs) is in let few = bumps_few es in omega (arith, same, few, e, fits)
