-- What closing parts records, where an undo or a redo moves nothing.
use Rattle.std.proofs.Common.{◌≡◌, ◌≢◌, inl, ℕ, ◌+◌, ◌^◌, ◌<◌, ◌≤◌, false, List, [], ◌∷◌, ◌++◌, length, Option, Some, None, refl, sym, ap, subst, ◌∙◌, arith}
use Rattle.std.specs.Prelude.{flat_map, if◌then◌else◌}
use Rattle.std.specs.List.{All, list_any, AllByRecursion}
use Rattle.std.specs.FinMap.{is_sorted}
use Rattle.std.specs.Option.{option_or, option_map_or}
use Rattle.std.proofs.lemmas.List.{length-append}
use Rattle.std.proofs.lemmas.List.Elements.{All-from_recursion}
use Rattle.wse_path.specs.Path.{Path}
use Rattle.wse_path.specs.Order.{path_cmp}
use Rattle.wse_path.specs.Changes.{changes_between}
use Rattle.wse_path.specs.declared.limits.Hit.{Hit}
use Rattle.wse_path.specs.declared.limits.Limits.{Limits}
use Rattle.wse_path.specs.declared.limits.Which.TheVariants.{Serial}
use Rattle.wse_path.proofs.GatheredLemmas.{no_changes}
use Rattle.wse_element.specs.declared.effect.Effect.{Effect}
use Rattle.wse_element.specs.declared.effect.Effect.TheVariants.{Split}
use Rattle.wse_element.specs.State.{State, stacks_of, kept_of}
use Rattle.wse_element.specs.Effects.{after, state_after}
use Rattle.wse_element.specs.Applicable.{sets_tree}
use Rattle.wse_element.proofs.FoldLemmas.{serial_stays}
use Rattle.wse_apply.specs.Limit.{hit_above, limit_hit}
use Rattle.wse_codec.specs.Spelling.{effect_bytes, record_bytes}
use Rattle.wse_codec.specs.Allowed.{IsSpellableEffect}
use Rattle.wse_history.specs.declared.answer.Answer.TheVariants.{Move}
use Rattle.wse_history.specs.declared.answer.MoveEnd.{MoveEnd}
use Rattle.wse_history.specs.declared.answer.MoveEnd.TheVariants as ends
use Rattle.wse_history.specs.declared.answer.SplitNote.{SplitNote}
use Rattle.wse_history.specs.declared.asked.Asked.{Asked}
use Rattle.wse_history.specs.History.{IsHistory}
use Rattle.wse_history.specs.Limits.{serial_hit, known_hit, hit_of}
use Rattle.wse_history.specs.Moving.{split_before, closings, closed_effects, closed_outcome, MayClose}
use Rattle.wse_history.specs.Outcome.{Outcome, stays, records, is_some_of}
use Rattle.wse_history.specs.Planning.{bumps_in, PlansAsOutcome, MayRecordIfAny}
use Rattle.wse_history.specs.Plain.{recorded_with}
use Rattle.wse_history.specs.Written.{IsWrittenEffect}
use Rattle.wse_history.proofs.MayLemmas.{may_record}
use Rattle.wse_history.proofs.MoveSpelled.{split_long}
use Rattle.wse_history.proofs.PlainLemmas.{records_plan}
use Rattle.wse_history.proofs.ShapeLemmas.{now, files_drops}
use Rattle.wse_history.proofs.SpellingLemmas.{record_short}

-- ---- the effects

none_set : (paths : List Path) → list_any sets_tree (closings paths) ≡ false
none_set [] = refl
none_set (p ∷ paths) = none_set paths

none_set_after : (split : Option SplitNote) (first : ℕ) (paths : List Path) → list_any sets_tree (split_before split first ++ closings paths) ≡ false
none_set_after None first paths = none_set paths
none_set_after (Some note) first paths = none_set paths

no_bumps : (paths : List Path) → bumps_in (closings paths) ≡ []
no_bumps [] = refl
no_bumps (p ∷ paths) = no_bumps paths

no_bumps_after : (split : Option SplitNote) (first : ℕ) (paths : List Path) → bumps_in (split_before split first ++ closings paths) ≡ []
no_bumps_after None first paths = no_bumps paths
no_bumps_after (Some note) first paths = no_bumps paths

spell_each : (paths : List Path) → AllByRecursion IsSpellableEffect (closings paths)
spell_each [] = tt
spell_each (p ∷ paths) = (inl refl, spell_each paths)

spell_after : (split : Option SplitNote) (first : ℕ) (paths : List Path) → AllByRecursion IsSpellableEffect (split_before split first ++ closings paths)
spell_after None first paths = spell_each paths
spell_after (Some note) first paths = (tt, spell_each paths)

long_after : (split : Option SplitNote) (first : ℕ) (paths : List Path) → length (flat_map effect_bytes (split_before split first ++ closings paths)) ≤ 17 + length (flat_map effect_bytes (closings paths))
long_after None first paths = omega arith
long_after (Some note) first paths = omega (arith, split_long note.id first, length-append (effect_bytes (Split note.id first)) (flat_map effect_bytes (closings paths)))

files_after : (s : State) (split : Option SplitNote) (paths : List Path) → (state_after s (split_before split s.next_id ++ closings paths)).files ≡ s.files
files_after s None paths = files_drops (stacks_of (kept_of s)) paths s.files
files_after s (Some note) paths = files_drops (after (stacks_of (kept_of s)) (Split note.id s.next_id)) paths s.files

alone : (o : Option Hit) → option_or o None ≡ o
alone None = refl
alone (Some hit) = refl

module _ (limits : Limits) (s : State) (asked : Asked) (paths : List Path) (end : MoveEnd) where
  abbrev effects : List Effect
  effects = closed_effects s asked paths

  abbrev next : State
  next = state_after s effects

  -- the serial number alone can be passed
  hit_is : hit_above Serial limits.serial (s.serial + 1) ≡ hit_of limits effects next
  hit_is =
      ap (hit_above Serial limits.serial) (sym (serial_stays (now s) effects))
      ∙ sym (alone (serial_hit limits next))
      ∙ ap (λ b. option_or (serial_hit limits next) (if b then option_or (known_hit limits next) (limit_hit limits next.files) else None)) (sym (none_set_after asked.split s.next_id paths))

  by_hit : (o : Option Hit) → hit_above Serial limits.serial (s.serial + 1) ≡ o → option_map_or (λ hit. stays (Move None (ends.Limit asked.id hit))) o (records effects (Move asked.split end)) ≡ closed_outcome limits s asked paths end
  by_hit o is = ap (λ (h : Option Hit). option_map_or (λ hit. stays (Move None (ends.Limit asked.id hit))) h (records effects (Move asked.split end))) (sym is ∙ hit_is)

  pub closed_refused : (hit : Hit) → hit_above Serial limits.serial (s.serial + 1) ≡ Some hit → stays (Move None (ends.Limit asked.id hit)) ≡ closed_outcome limits s asked paths end
  closed_refused hit is = by_hit (Some hit) is

  none_change : [] ≡ changes_between s.files next.files
  none_change = sym (no_changes s.files) ∙ ap (changes_between s.files) (sym (files_after s asked.split paths))

  recorded : (effects ≡ []) → PlansAsOutcome s (records effects (Move asked.split end)) (recorded_with effects [] (Move asked.split end))
  recorded none = record {
    plan = record { effects = refl; changes = sym (ap (λ (es : List Effect). changes_between s.files (if is_some_of es then state_after s es else s).files) none ∙ no_changes s.files) };
    locks = refl;
    answer = refl;
  }

  some_recorded : (effects ≢ []) → PlansAsOutcome s (records effects (Move asked.split end)) (recorded_with effects [] (Move asked.split end))
  some_recorded some = records_plan s effects [] (Move asked.split end) (Move asked.split end) some none_change refl

  by_some : (es : List Effect) → ((es ≡ []) → PlansAsOutcome s (records effects (Move asked.split end)) (recorded_with effects [] (Move asked.split end)))
      → ((es ≢ []) → PlansAsOutcome s (records effects (Move asked.split end)) (recorded_with effects [] (Move asked.split end))) → PlansAsOutcome s (records effects (Move asked.split end)) (recorded_with effects [] (Move asked.split end))
  by_some [] g h = g refl
  by_some (e ∷ es) g h = h (λ k. cc)

  pub closed_plans : hit_above Serial limits.serial (s.serial + 1) ≡ None → PlansAsOutcome s (closed_outcome limits s asked paths end) (recorded_with effects [] (Move asked.split end))
  closed_plans none =
      subst (λ (o : Outcome). PlansAsOutcome s o (recorded_with effects [] (Move asked.split end))) (by_hit None none) (by_some effects recorded some_recorded)

  short : MayClose limits s asked paths → length (record_bytes effects) < 2 ^ 32
  short may = omega (arith, may.short, long_after asked.split s.next_id paths, record_short effects)

  pub closed_may : IsHistory s limits → MayClose limits s asked paths → hit_above Serial limits.serial (s.serial + 1) ≡ None → All IsWrittenEffect effects → MayRecordIfAny limits s (recorded_with effects [] (Move asked.split end)).plan
  closed_may history may none written = λ some.
      may_record limits s effects [] history (may.may some (sym hit_is ∙ none)) written
      (record { some = some; each = All-from_recursion IsSpellableEffect effects (spell_after asked.split s.next_id paths); short = short may })
      (ap (is_sorted path_cmp) (no_bumps_after asked.split s.next_id paths)) none_change
