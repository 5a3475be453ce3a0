-- The records of a life say what their commands did.
use Rattle.std.proofs.Common.{◌≡◌, ℕ, ◌≤◌, ◌<◌, true, cond, ◌&&◌, List, [], ◌∷◌, Some, sym, ap, subst, ◌∙◌}
use Rattle.std.specs.List.{AllByRecursion, list_all}
use Rattle.std.proofs.Math.Dec.{ltb}
use Rattle.std.proofs.lemmas.Bool.{lt-ltb, lt-leb, le-leb}
use Rattle.wse_path.specs.Path.{Path}
use Rattle.wse_path.proofs.EntryLemmas.{and_parts}
use Rattle.wse_element.specs.declared.effect.Effect.{Effect}
use Rattle.wse_element.specs.declared.effect.Effect.TheVariants.{Push, MoveBack, MoveForward, Split, Drop, Invalidate, Bump, Set}
use Rattle.wse_element.specs.Record.{Record}
use Rattle.wse_element.specs.Live.{is_live_at, old_at, new_at}
use Rattle.wse_element.specs.Stacks.{live_at}
use Rattle.wse_element.specs.Linked.{is_numbered}
use Rattle.wse_element.specs.State.{State, stacks_of, kept_of}
use Rattle.wse_element.specs.Effects.{begun}
use Rattle.wse_element.specs.Laws.{PushesParts}
use Rattle.wse_element.proofs.AfterLemmas.{numbers_of}
use Rattle.wse_element.proofs.ListLemmas.{list_all-filter}
use Rattle.wse_lives.specs.Lives.{Life, lived, trees_of, Agrees, AgreesAt, IsMade, Makes, Comes, IsLife}
use Rattle.wse_lives.proofs.StayLemmas.{SaysSame, Pushes, holds_after_each}

-- the same contents and the same origin agree alike
pub agrees_same : (start : State) (life : Life) (p : Path) (r s : Record) → SaysSame p r s → AgreesAt start life p r → AgreesAt start life p s
agrees_same start life p r s same h =
    subst (λ n. Agrees (trees_of start life n) p (old_at p s) (new_at p s)) (sym same.origin)
    (subst (λ c. Agrees (trees_of start life r.origin) p c (new_at p s)) (sym same.old) (subst (λ c. Agrees (trees_of start life r.origin) p (old_at p r) c) (sym same.new) h))

-- an id that was taken before came with an earlier event
earlier_trees : (start s : State) (earlier : Life) (id : ℕ) → id < (lived start earlier).next_id → trees_of start (s ∷ earlier) id ≡ trees_of start earlier id
earlier_trees start s earlier id l =
    ap (λ b. cond (b && ltb id s.next_id) (Some ((lived start earlier).files, s.files)) (trees_of start earlier id)) (lt-leb (lived start earlier).next_id id l)

-- an id that is new comes with this event
new_trees : (start s : State) (earlier : Life) (id : ℕ) → (lived start earlier).next_id ≤ id → id < s.next_id → trees_of start (s ∷ earlier) id ≡ Some ((lived start earlier).files, s.files)
new_trees start s earlier id l m =
    ap (λ b. cond (b && ltb id s.next_id) (Some ((lived start earlier).files, s.files)) (trees_of start earlier id)) (le-leb (lived start earlier).next_id id l)
    ∙ ap (λ b. cond b (Some ((lived start earlier).files, s.files)) (trees_of start earlier id)) (lt-ltb id s.next_id m)

module _ (start s : State) (earlier : Life) (p : Path) where
  now_agrees : (r : Record) → is_numbered (lived start earlier).next_id r ≡ true → AgreesAt start earlier p r → AgreesAt start (s ∷ earlier) p r
  now_agrees r numbered h =
      let numbers = numbers_of (lived start earlier).next_id r numbered in
      subst (λ o. Agrees o p (old_at p r) (new_at p r)) (sym (earlier_trees start s earlier r.origin numbers.known)) h

  all_agree : (records : List Record) → list_all (is_numbered (lived start earlier).next_id) records ≡ true → AllByRecursion (AgreesAt start earlier p) records → AllByRecursion (AgreesAt start (s ∷ earlier) p) records
  all_agree [] numbered h = h
  all_agree (r ∷ records) numbered h =
      let both = and_parts (is_numbered (lived start earlier).next_id r) (list_all (is_numbered (lived start earlier).next_id) records) numbered in
      (now_agrees r both.0 h.0, all_agree records both.1 h.1)

  made_agrees : (r : Record) → IsMade (lived start earlier) s r → is_live_at p r ≡ true → AgreesAt start (s ∷ earlier) p r
  made_agrees r made live =
      subst (λ o. Agrees o p (old_at p r) (new_at p r)) (sym (new_trees start s earlier r.origin made.new made.given)) (made.each p live)

  abbrev Now : Record → Type 0
  Now = AgreesAt start (s ∷ earlier) p

  keeps_now : (r u : Record) → SaysSame p r u → Now r → Now u
  keeps_now r u = agrees_same start (s ∷ earlier) p r u

  pushes_agree : (effects : List Effect) → AllByRecursion (Makes (lived start earlier) s) effects → AllByRecursion (Pushes p Now keeps_now) effects
  pushes_agree [] makes = tt
  pushes_agree (effect ∷ more) makes = (one effect makes.0, pushes_agree more makes.1)
    where
      one : (e : Effect) → Makes (lived start earlier) s e → Pushes p Now keeps_now e
      one (Push r) m = made_agrees r m
      one (MoveBack id) m = tt
      one (MoveForward id) m = tt
      one (Split id first) m = tt
      one (Drop path reason) m = tt
      one (Invalidate path) m = tt
      one (Bump path by) m = tt
      one (Set path content) m = tt

  push_parts : (effects : List Effect) → AllByRecursion (Makes (lived start earlier) s) effects → AllByRecursion PushesParts effects
  push_parts [] makes = tt
  push_parts (effect ∷ more) makes = (one effect makes.0, push_parts more makes.1)
    where
      one : (e : Effect) → Makes (lived start earlier) s e → PushesParts e
      one (Push r) m = m.parts
      one (MoveBack id) m = tt
      one (MoveForward id) m = tt
      one (Split id first) m = tt
      one (Drop path reason) m = tt
      one (Invalidate path) m = tt
      one (Bump path by) m = tt
      one (Set path content) m = tt

  -- one event more
  event_agrees : Comes (lived start earlier) s → AllByRecursion (AgreesAt start earlier p) (live_at (lived start earlier).records p) → AllByRecursion Now (live_at s.records p)
  event_agrees comes h =
      let before = lived start earlier in
      subst (λ rs. AllByRecursion Now (live_at rs p)) (sym comes.records)
      (holds_after_each p Now keeps_now (begun (stacks_of (kept_of before))) comes.effects comes.parts (push_parts comes.effects comes.makes) (pushes_agree comes.effects comes.makes)
      (all_agree (live_at before.records p) (list_all-filter (is_numbered before.next_id) (is_live_at p) before.records comes.numbered) h))

pub life_agrees : (start : State) (life : Life) (p : Path) → IsLife start life → AllByRecursion (AgreesAt start [] p) (live_at start.records p) → AllByRecursion (AgreesAt start life p) (live_at (lived start life).records p)
life_agrees start [] p is h = h
life_agrees start (s ∷ earlier) p is h = event_agrees start s earlier p is.0 (life_agrees start earlier p is.1 h)

-- nothing came yet
pub none_came : (start : State) (p : Path) (records : List Record) → AllByRecursion (AgreesAt start [] p) records
none_came start p [] = tt
none_came start p (r ∷ records) = (tt, none_came start p records)
