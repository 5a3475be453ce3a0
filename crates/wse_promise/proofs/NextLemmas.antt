-- States one after another, each left by a command or the same as before: a life, and the trees around an id's coming.
use Rattle.std.proofs.Common.{◌≡◌, ℕ, zero, suc, ◌+◌, ◌<◌, ◌≤◌, true, false, cond, ◌&&◌, ltb, leb, List, [], ◌∷◌, Option, Some, None, refl, sym, ap, subst, ◌∙◌, arith}
use Rattle.std.specs.List.{AllByRecursion}
use Rattle.std.specs.Option.{option_map_or}
use Rattle.std.proofs.lemmas.Bool.{lt-ltb, ltb-true, leb-true, leb-false}
use Rattle.wse_path.specs.Path.{Path}
use Rattle.wse_path.specs.declared.command.Command.{Command}
use Rattle.wse_path.specs.declared.limits.Limits.{Limits}
use Rattle.wse_path.proofs.EntryLemmas.{and_parts}
use Rattle.wse_locks.specs.Locks.{Holders}
use Rattle.wse_element.specs.declared.effect.Effect.{Effect}
use Rattle.wse_element.specs.Stacks.{live_at}
use Rattle.wse_element.specs.State.{StacksState, State, stacks_of, kept_of}
use Rattle.wse_element.specs.Effects.{ids_taken, after, after_each, begun}
use Rattle.wse_history.specs.History.{IsHistory}
use Rattle.wse_history.specs.Step.{outcome, recorded, with_locks, step}
use Rattle.wse_stream.proofs.PieceLemmas.{by_order}
use Rattle.wse_lives.specs.Lives.{Life, lived, came_with, trees_of, AgreesAt, Comes, IsLife}
use Rattle.wse_lives.proofs.AgreeLemmas.{life_agrees, none_came}
use Rattle.wse_lives.proofs.StepLemmas.{commands_keep}

-- The state is what the command leaves, or the same where there is none.
pub record IsNext (limits : Limits) (s next : State) : Type 0 where
  pub command : Option Command
  pub is : next ≡ option_map_or (step limits s) command s

pub record Keeps (limits : Limits) (s next : State) : Type 0 where
  pub sound : IsHistory next limits
  pub comes : Comes s next

keeps_by : (limits : Limits) (s : State) (command : Option Command) → IsHistory s limits → Keeps limits s (option_map_or (step limits s) command s)
keeps_by limits s None sound = record {
  sound = sound;
  comes = record { effects = []; records = refl; makes = tt; parts = sound.parts; numbered = sound.linked.kept.records.numbered };
}
keeps_by limits s (Some command) sound = let keep = commands_keep limits s command sound in record { sound = keep.0; comes = keep.1 }

pub next_keeps : (limits : Limits) (s next : State) → IsNext limits s next → IsHistory s limits → Keeps limits s next
next_keeps limits s next is sound = subst (Keeps limits s) (sym is.is) (keeps_by limits s is.command sound)

-- ---- the next id never falls

grown : (a b c : ℕ) → a + b ≤ c → a ≤ c
grown a b c le = omega (arith, le)

same_le : (n : ℕ) → n ≤ n
same_le n = omega arith

each_rises : (h : StacksState) (effects : List Effect) → h.next_id ≤ (after_each h effects).next_id
each_rises h [] = same_le h.next_id
each_rises h (e ∷ es) = grown h.next_id (ids_taken h.records e) (after_each (after h e) es).next_id (each_rises (after h e) es)

recorded_rises : (s : State) (effects : List Effect) → s.next_id ≤ (recorded s effects).next_id
recorded_rises s [] = same_le s.next_id
recorded_rises s (e ∷ es) = each_rises (begun (stacks_of (kept_of s))) (e ∷ es)

locks_rise : (s : State) (effects : List Effect) (locks : Option Holders) → s.next_id ≤ (with_locks locks (recorded s effects)).next_id
locks_rise s effects None = recorded_rises s effects
locks_rise s effects (Some locks) = recorded_rises s effects

rises_by : (limits : Limits) (s : State) (command : Option Command) → s.next_id ≤ (option_map_or (step limits s) command s).next_id
rises_by limits s None = same_le s.next_id
rises_by limits s (Some command) = locks_rise s (outcome limits s command).effects (outcome limits s command).locks

next_rises : (limits : Limits) (s next : State) → IsNext limits s next → s.next_id ≤ next.next_id
next_rises limits s next is = subst (λ (x : State). s.next_id ≤ x.next_id) (sym is.is) (rises_by limits s is.command)

-- ---- one after another

through : (a b c : ℕ) → a ≤ b → b ≤ c → a ≤ c
through a b c le more = omega (arith, le, more)

both_orders : (j k : ℕ) → j ≤ k → k ≤ j → k ≡ j
both_orders j k le more = omega (arith, le, more)

before_of : (j k : ℕ) → j < suc k → j ≤ k
before_of j k lt = omega (arith, lt)

crossed : (a b c : ℕ) → a ≤ b → b < c → c ≤ a → ⊥
crossed a b c le lt more = omega (arith, le, lt, more)

next_of : (j k : ℕ) → j < k → suc j ≤ k
next_of j k lt = omega (arith, lt)

none_before : (k : ℕ) → zero ≤ k
none_before k = omega arith

module _ (limits : Limits) (at : ℕ → State) (nexts : (k : ℕ) → IsNext limits (at k) (at (suc k))) where
  -- the states so far, the last one first
  abbrev pub lives : ℕ → Life
  lives zero = []
  lives (suc k) = at (suc k) ∷ lives k

  lived_at : (k : ℕ) → lived (at zero) (lives k) ≡ at k
  lived_at zero = refl
  lived_at (suc k) = refl

  pub sound_at : IsHistory (at zero) limits → (k : ℕ) → IsHistory (at k) limits
  sound_at begins zero = begins
  sound_at begins (suc k) = (next_keeps limits (at k) (at (suc k)) (nexts k) (sound_at begins k)).sound

  is_life : IsHistory (at zero) limits → (k : ℕ) → IsLife (at zero) (lives k)
  is_life begins zero = tt
  is_life begins (suc k) = (
    subst (λ s. Comes s (at (suc k))) (sym (lived_at k)) (next_keeps limits (at k) (at (suc k)) (nexts k) (sound_at begins k)).comes,
    is_life begins k,
  )

  pub agree_at : IsHistory (at zero) limits → (k : ℕ) (p : Path) → AllByRecursion (AgreesAt (at zero) (lives k) p) (live_at (at k).records p)
  agree_at begins k p = subst (λ (s : State). AllByRecursion (AgreesAt (at zero) (lives k) p) (live_at s.records p)) (lived_at k)
      (life_agrees (at zero) (lives k) p (is_life begins k) (none_came (at zero) p (live_at (at zero).records p)))

  later_rises : (j k : ℕ) → j ≤ k → (at j).next_id ≤ (at k).next_id
  later_rises j zero le = subst (λ n. (at n).next_id ≤ (at zero).next_id) (both_orders j zero le (none_before j)) (same_le (at zero).next_id)
  later_rises j (suc k) le =
      by_order ((at j).next_id ≤ (at (suc k)).next_id) j (suc k)
      (λ lt. through (at j).next_id (at k).next_id (at (suc k)).next_id (later_rises j k (before_of j k lt)) (next_rises limits (at k) (at (suc k)) (nexts k)))
      (λ more. subst (λ n. (at n).next_id ≤ (at (suc k)).next_id) (both_orders j (suc k) le more) (same_le (at (suc k)).next_id))

  -- an id comes with one state only
  one_place : (j k id : ℕ) → (at j).next_id ≤ id → id < (at (suc j)).next_id → (at k).next_id ≤ id → id < (at (suc k)).next_id → k ≡ j
  one_place j k id from below from' below' =
      by_order (k ≡ j) k j
      (λ lt. absurd (crossed (at j).next_id id (at (suc k)).next_id from below' (later_rises (suc k) j (next_of k j lt))))
      (λ le. by_order (k ≡ j) j k
      (λ lt. absurd (crossed (at k).next_id id (at (suc j)).next_id from' below (later_rises (suc j) k (next_of j k lt))))
      (λ more. both_orders j k le more))

  came_trees : (j k id : ℕ) → (at j).next_id ≤ id → id < (at (suc j)).next_id → id < (at k).next_id → trees_of (at zero) (lives k) id ≡ Some ((at j).files, (at (suc j)).files)
  came_trees j zero id from below here = absurd (crossed (at j).next_id id (at zero).next_id from here (later_rises zero j (none_before j)))
  came_trees j (suc k) id from below here =
      ap (λ (s : State). cond (came_with s (at (suc k)) id) (Some (s.files, (at (suc k)).files)) (trees_of (at zero) (lives k) id)) (lived_at k)
      ∙ elim (leb (at k).next_id id) as (λ b. leb (at k).next_id id ≡ b
      → cond (b && ltb id (at (suc k)).next_id) (Some ((at k).files, (at (suc k)).files)) (trees_of (at zero) (lives k) id) ≡ Some ((at j).files, (at (suc j)).files)) [
        | true ↦ λ e.
            ap (λ b. cond b (Some ((at k).files, (at (suc k)).files)) (trees_of (at zero) (lives k) id)) (lt-ltb id (at (suc k)).next_id here)
            ∙ ap (λ n. Some ((at n).files, (at (suc n)).files)) (one_place j k id from below (leb-true (at k).next_id id e) here)
        | false ↦ λ e. came_trees j k id from below (leb-false (at k).next_id id e)
      ] refl

  -- the trees around an id's coming are those of its place
  pub trees_at : (j k id : ℕ) → came_with (at j) (at (suc j)) id ≡ true → id < (at k).next_id → trees_of (at zero) (lives k) id ≡ Some ((at j).files, (at (suc j)).files)
  trees_at j k id came here =
      let both = and_parts (leb (at j).next_id id) (ltb id (at (suc j)).next_id) came in
      came_trees j k id (leb-true (at j).next_id id both.0) (ltb-true id (at (suc j)).next_id both.1) here
