-- What moving parts records.
use Rattle.std.proofs.Common.{◌≡◌, ◌≢◌, ℕ, ◌-◌, ◌^◌, ◌<◌, ◌≤◌, Bool, true, false, cond, ◌&&◌, List, [], ◌∷◌, ◌++◌, map, length, min, Option, Some, None, is_some, refl, sym, ap, subst, ◌∙◌, arith}
use Rattle.std.specs.Prelude.{flat_map, sum_by}
use Rattle.std.specs.List.{All, list_any}
use Rattle.std.specs.FinMap.{is_sorted}
use Rattle.std.specs.FinMap.Entries.{below_all}
use Rattle.std.specs.Option.{option_map_or}
use Rattle.std.specs.Ordering.{is_lt}
use Rattle.std.proofs.lemmas.Bool.{leb-true}
use Rattle.std.proofs.lemmas.List.Elements.{All-from_recursion}
use Rattle.wse_path.specs.Path.{Path}
use Rattle.wse_path.specs.Order.{path_cmp}
use Rattle.wse_path.specs.Tree.{IsTree}
use Rattle.wse_path.specs.Changes.{change_to, changes_between}
use Rattle.wse_path.specs.Versions.{known, bumped_by}
use Rattle.wse_path.specs.declared.change.Change.{Change}
use Rattle.wse_path.specs.declared.change.Numbered.{Numbered}
use Rattle.wse_path.specs.declared.command.Direction.{Direction}
use Rattle.wse_path.specs.declared.command.Direction.TheVariants.{Back, Forward}
use Rattle.wse_path.specs.declared.limits.Hit.{Hit}
use Rattle.wse_path.specs.declared.limits.Limits.{Limits}
use Rattle.wse_element.specs.declared.effect.Effect.{Effect}
use Rattle.wse_element.specs.Content.{Content}
use Rattle.wse_element.specs.Record.{RecordPart, by_path}
use Rattle.wse_element.specs.State.{State}
use Rattle.wse_element.specs.Effects.{versions_after_each, state_after}
use Rattle.wse_element.specs.Applicable.{sets_tree}
use Rattle.wse_apply.specs.Draft.{LeadTo}
use Rattle.wse_codec.specs.Spelling.{record_bytes}
use Rattle.wse_codec.specs.Allowed.{IsSpellableEffect}
use Rattle.wse_history.specs.declared.answer.Answer.TheVariants.{Move}
use Rattle.wse_history.specs.declared.answer.MoveEnd.TheVariants as ends
use Rattle.wse_history.specs.declared.answer.SplitNote.{SplitNote}
use Rattle.wse_history.specs.declared.asked.Asked.{Asked}
use Rattle.wse_history.specs.Done.{pairs_of, ones, raised, with_versions}
use Rattle.wse_history.specs.History.{IsHistory}
use Rattle.wse_history.specs.Limits.{hit_of}
use Rattle.wse_history.specs.Marks.{marks_of}
use Rattle.wse_history.specs.Moves.{move_effect}
use Rattle.wse_history.specs.Moving.{content_to, contents_to, paths_of, split_before, moved_effects, moved_outcome, MayMove}
use Rattle.wse_history.specs.Outcome.{Outcome, stays, records, is_some_of, numbered, bump_each}
use Rattle.wse_history.specs.Planning.{bumps_in, PlansAsOutcome, MayRecord}
use Rattle.wse_history.specs.Plain.{recorded_with}
use Rattle.wse_element.specs.Way.{in_the_way}
use Rattle.wse_history.specs.Written.{IsWrittenEffect}
use Rattle.wse_history.proofs.BumpLemmas.{bumps, once_sorted}
use Rattle.wse_history.proofs.CountLemmas.{counts, total, total_within}
use Rattle.wse_history.proofs.LeadingLemmas.{changes_set}
use Rattle.wse_history.proofs.MayLemmas.{may_record}
use Rattle.wse_history.proofs.MoveSpelled.{bump_each_is, moved_long, spell_moved}
use Rattle.wse_history.proofs.PlainLemmas.{records_plan}
use Rattle.wse_history.proofs.PlanLemmas.{bumped_each}
use Rattle.wse_history.proofs.RisenLemmas.{bumps_of_ones, versions_risen, numbered_risen}
use Rattle.wse_history.proofs.ShapeLemmas.{set_within}
use Rattle.wse_history.proofs.SpellingLemmas.{record_short}

-- ---- parts in path order

below_same : {X : Type 0} (f : RecordPart → X) (p : Path) (parts : List RecordPart) → below_all path_cmp p (map (λ part. (part.path, f part)) parts) ≡ below_all path_cmp p (by_path parts)
below_same f p [] = refl
below_same f p (part ∷ parts) = ap (λ b. is_lt (path_cmp p part.path) && b) (below_same f p parts)

sorted_same : {X : Type 0} (f : RecordPart → X) (parts : List RecordPart) → is_sorted path_cmp (map (λ part. (part.path, f part)) parts) ≡ is_sorted path_cmp (by_path parts)
sorted_same f [] = refl
sorted_same f (part ∷ parts) = λ i. below_same f part.path parts i && sorted_same f parts i

ones_are : (parts : List RecordPart) → pairs_of (ones (paths_of parts)) ≡ map (λ part. (part.path, 1)) parts
ones_are [] = refl
ones_are (part ∷ parts) = ap (λ ps. (part.path, 1) ∷ ps) (ones_are parts)

pub ones_sorted : (parts : List RecordPart) → is_sorted path_cmp (by_path parts) ≡ true → is_sorted path_cmp (pairs_of (ones (paths_of parts))) ≡ true
ones_sorted parts rise = ap (is_sorted path_cmp) (ones_are parts) ∙ sorted_same (λ _. 1) parts ∙ rise

pub marks_are : (direction : Direction) (parts : List RecordPart) → map (λ part. (part.path, is_some (content_to direction part))) parts ≡ marks_of (contents_to direction parts)
marks_are direction [] = refl
marks_are direction (part ∷ parts) = ap (λ ms. (part.path, is_some (content_to direction part)) ∷ ms) (marks_are direction parts)

-- ---- the effects

some_moved : (split : Option SplitNote) (first : ℕ) (direction : Direction) (id : ℕ) (paths : List Path) → (split_before split first ++ (move_effect direction id ∷ bump_each paths)) ≢ []
some_moved None first direction id paths e = cc
some_moved (Some note) first direction id paths e = cc

bumps_moved : (split : Option SplitNote) (first : ℕ) (direction : Direction) (id : ℕ) (paths : List Path) → bumps_in (split_before split first ++ (move_effect direction id ∷ bump_each paths)) ≡ pairs_of (ones paths)
bumps_moved None first Back id paths = bumps_of_ones paths
bumps_moved None first Forward id paths = bumps_of_ones paths
bumps_moved (Some note) first Back id paths = bumps_of_ones paths
bumps_moved (Some note) first Forward id paths = bumps_of_ones paths

sets_moved : (split : Option SplitNote) (first : ℕ) (direction : Direction) (id : ℕ) (paths : List Path) → list_any sets_tree (split_before split first ++ (move_effect direction id ∷ bump_each paths)) ≡ true
sets_moved None first Back id paths = refl
sets_moved None first Forward id paths = refl
sets_moved (Some note) first Back id paths = refl
sets_moved (Some note) first Forward id paths = refl

uncapped : (n : ℕ) → min n (2 ^ 64 - 1) ≤ 2 ^ 29 → n ≤ 2 ^ 29
uncapped n h = omega (arith, h)

less_than : (a b c : ℕ) → a ≤ b → b ≤ c → a ≤ c
less_than a b c g h = omega (arith, g, h)

module _ (limits : Limits) (s : State) (asked : Asked) (id : ℕ) (parts : List RecordPart) where
  abbrev effects : List Effect
  effects = moved_effects s asked id parts

  abbrev next : State
  next = state_after s effects

  abbrev contents : List (Path × Content)
  contents = contents_to asked.direction parts

  abbrev changes : List Change
  changes = flat_map (change_to s.files) contents

  abbrev changed : List Numbered
  changed = raised s.versions (ones (paths_of parts))

  abbrev blocking : List Path
  blocking = in_the_way s.files contents

  abbrev chosen : Bool → Option Hit → Outcome
  chosen some hit =
      cond some (stays (Move None (ends.InTheWay asked.id blocking)))
      (option_map_or (λ h. stays (Move None (ends.Limit asked.id h))) hit (records effects (Move asked.split (ends.Done id (numbered next (paths_of parts))))))

  outcome_is : (some : Bool) (hit : Option Hit) → is_some_of blocking ≡ some → hit_of limits effects next ≡ hit → chosen some hit ≡ moved_outcome limits s asked id parts
  outcome_is some hit f g = sym (λ i. chosen (f i) (g i))

  pub moved_blocked : is_some_of blocking ≡ true → stays (Move None (ends.InTheWay asked.id blocking)) ≡ moved_outcome limits s asked id parts
  moved_blocked f = outcome_is true (hit_of limits effects next) f refl

  bumped : bumps_in effects ≡ pairs_of (ones (paths_of parts))
  bumped = bumps_moved asked.split s.next_id asked.direction id (paths_of parts)

  pub moved_sets : list_any sets_tree effects ≡ true
  moved_sets = sets_moved asked.split s.next_id asked.direction id (paths_of parts)

  some : effects ≢ []
  some = some_moved asked.split s.next_id asked.direction id (paths_of parts)

  versions_bumped : next.versions ≡ versions_after_each s.versions (bumps (ones (paths_of parts)))
  versions_bumped =
      bumped_each s.versions effects
      ∙ ap (λ ps. bumped_by ps s.versions) (bumped ∙ sym (bumps_of_ones (paths_of parts)))
      ∙ sym (bumped_each s.versions (bump_each (paths_of parts)))
      ∙ ap (versions_after_each s.versions) (bump_each_is (paths_of parts))

  module _ (may : MayMove limits s asked id parts) (free : blocking ≡ []) where
    sorted : is_sorted path_cmp (pairs_of (ones (paths_of parts))) ≡ true
    sorted = ones_sorted parts may.rise

    pub moved_refused : (hit : Hit) → hit_of limits effects next ≡ Some hit → stays (Move None (ends.Limit asked.id hit)) ≡ moved_outcome limits s asked id parts
    moved_refused hit g = outcome_is false (Some hit) (ap is_some_of free) g

    moved_recorded : hit_of limits effects next ≡ None → records effects (Move asked.split (ends.Done id (numbered next (paths_of parts)))) ≡ moved_outcome limits s asked id parts
    moved_recorded g = outcome_is false None (ap is_some_of free) g

    pub moved_versions : next.versions ≡ with_versions changed s.versions
    moved_versions = versions_risen s effects (paths_of parts) bumped sorted

    changes_are : IsHistory s limits → changes ≡ changes_between s.files next.files
    changes_are history =
        changes_set s.files contents history.linked.tree.rises (sorted_same (content_to asked.direction) parts ∙ may.rise) ∙ ap (changes_between s.files) (sym may.files)

    pub moved_leads : IsHistory s limits → LeadTo s.files changes next.files
    moved_leads history = record { tree = subst IsTree (sym may.files) (may.tree free); between = changes_are history }

    pub moved_plans : IsHistory s limits → hit_of limits effects next ≡ None → PlansAsOutcome s (moved_outcome limits s asked id parts) (recorded_with effects changes (Move asked.split (ends.Done id changed)))
    moved_plans history none =
        subst (λ (o : Outcome). PlansAsOutcome s o (recorded_with effects changes (Move asked.split (ends.Done id changed)))) (moved_recorded none)
        (records_plan s effects changes (Move asked.split (ends.Done id changed)) (Move asked.split (ends.Done id (numbered next (paths_of parts)))) some (changes_are history)
        (ap (λ ns. Move asked.split (ends.Done id ns)) (numbered_risen s effects (paths_of parts) bumped sorted)))

    known_low : IsHistory s limits → hit_of limits effects next ≡ None → total (ones (paths_of parts)) ≤ 2 ^ 29
    known_low history none =
        less_than _ _ _ (total_within s.versions (ones (paths_of parts)) (once_sorted (λ (b : Numbered). b.path) (λ (b : Numbered). b.number) (ones (paths_of parts)) sorted))
        (uncapped (sum_by counts (versions_after_each s.versions (bumps (ones (paths_of parts)))))
        (subst (λ vs. known vs ≤ 2 ^ 29) versions_bumped (leb-true (known next.versions) (2 ^ 29) (set_within limits s effects history moved_sets none).0)))

    short : IsHistory s limits → hit_of limits effects next ≡ None → length (record_bytes effects) < 2 ^ 32
    short history none = omega (arith, known_low history none, moved_long asked.split s.next_id asked.direction id (paths_of parts), record_short effects)

    pub moved_may : IsHistory s limits → hit_of limits effects next ≡ None → All IsWrittenEffect effects → MayRecord limits s (recorded_with effects changes (Move asked.split (ends.Done id changed))).plan
    moved_may history none written =
        may_record limits s effects changes history (may.may free none) written
        (record { some = some; each = All-from_recursion IsSpellableEffect effects (spell_moved asked.split s.next_id asked.direction id (paths_of parts)); short = short history none })
        (ap (is_sorted path_cmp) bumped ∙ sorted) (changes_are history)
