-- What the report of a change by another program records.
use Rattle.std.proofs.Common.{◌≡◌, ◌≢◌, ◌+◌, ◌^◌, ◌≤◌, inl, Bool, true, false, cond, List, [], ◌∷◌, ◌++◌, length, Option, Some, None, refl, sym, ap, subst, ◌∙◌, arith}
use Rattle.std.specs.Prelude.{if◌then◌else◌, option_map}
use Rattle.std.specs.List.{All, list_any, flat_map}
use Rattle.std.specs.FinMap.{is_sorted}
use Rattle.std.specs.Option.{option_or, option_map_or}
use Rattle.std.proofs.lemmas.List.{length-append, append-nil}
use Rattle.std.proofs.lemmas.List.Elements.{All-from_recursion}
use Rattle.wse_path.specs.Path.{Path}
use Rattle.wse_path.specs.Order.{path_cmp}
use Rattle.wse_path.specs.Tree.{Entries, content, set_files, IsTree}
use Rattle.wse_path.specs.Changes.{is_same, change_to, changes_between}
use Rattle.wse_path.specs.declared.change.Change.{Change}
use Rattle.wse_path.specs.declared.change.Numbered.{Numbered}
use Rattle.wse_path.specs.declared.limits.Hit.{Hit}
use Rattle.wse_path.specs.declared.limits.Limits.{Limits}
use Rattle.wse_path.proofs.ContentLemmas.{content_set}
use Rattle.wse_path.proofs.TreeLemmas.{tied_itself}
use Rattle.wse_element.specs.declared.effect.Effect.{Effect}
use Rattle.wse_element.specs.declared.effect.Effect.TheVariants.{Invalidate, Bump, Set}
use Rattle.wse_element.specs.Content.{Content, content_len}
use Rattle.wse_element.specs.Live.{is_valid_at}
use Rattle.wse_element.specs.State.{State}
use Rattle.wse_element.specs.Effects.{state_after}
use Rattle.wse_element.specs.Applicable.{sets_tree}
use Rattle.wse_apply.specs.Draft.{LeadTo}
use Rattle.wse_apply.specs.Limit.{limit_hit, first_above}
use Rattle.wse_codec.specs.Spelling.{path_bytes, content_bytes, effect_bytes}
use Rattle.wse_codec.specs.Allowed.{IsAllowedPath, IsSpellableEffect, IsSpellable}
use Rattle.wse_history.specs.declared.answer.Answer.TheVariants.{Recorded, Same, OutsideInTheWay, Refused}
use Rattle.wse_history.specs.Done.{ones, raised, with_versions}
use Rattle.wse_history.specs.History.{IsHistory}
use Rattle.wse_history.specs.Laws.{MayApply}
use Rattle.wse_history.specs.Limits.{hit_of}
use Rattle.wse_history.specs.Outcome.{Outcome, stays, records, is_some_of, numbered}
use Rattle.wse_history.specs.Outsides.{outside_effects, outside_outcome}
use Rattle.wse_history.specs.Planning.{bumps_in, PlansAsOutcome, MayRecord}
use Rattle.wse_history.specs.Plain.{recorded_with}
use Rattle.wse_element.specs.Way.{in_the_way}
use Rattle.wse_history.specs.Written.{IsWrittenEffect}
use Rattle.wse_history.proofs.EffectLemmas.{alone_apart}
use Rattle.wse_history.proofs.HitLemmas.{bytes_within}
use Rattle.wse_history.proofs.LeadingLemmas.{changes_set}
use Rattle.wse_history.proofs.MayLemmas.{may_record}
use Rattle.wse_history.proofs.OneSpelled.{path_within, record_long}
use Rattle.wse_history.proofs.PlainLemmas.{records_plan}
use Rattle.wse_history.proofs.ReportLemmas.{outsides_apply}
use Rattle.wse_history.proofs.RisenLemmas.{versions_risen, numbered_risen}
use Rattle.wse_history.proofs.ShapeLemmas.{set_within, Within, within_of}
use Rattle.wse_history.proofs.SpellingLemmas.{content_short}
use Rattle.wse_element.proofs.WayLemmas.{tree_where_free}

-- The effects where the path had something valid, and where it had nothing.
abbrev effects_where : Bool → Path → Content → List Effect
effects_where valid p bytes = (if valid then Invalidate p ∷ [] else []) ++ (Set p bytes ∷ Bump p 1 ∷ [])

some_where : (valid : Bool) (p : Path) (bytes : Content) → effects_where valid p bytes ≢ []
some_where true p bytes e = cc
some_where false p bytes e = cc

bumps_where : (valid : Bool) (p : Path) (bytes : Content) → bumps_in (effects_where valid p bytes) ≡ (p, 1) ∷ []
bumps_where true p bytes = refl
bumps_where false p bytes = refl

sets_where : (valid : Bool) (p : Path) (bytes : Content) → list_any sets_tree (effects_where valid p bytes) ≡ true
sets_where true p bytes = refl
sets_where false p bytes = refl

files_where : (s : State) (valid : Bool) (p : Path) (bytes : Content) → (state_after s (effects_where valid p bytes)).files ≡ set_files ((p, bytes) ∷ []) s.files
files_where s true p bytes = refl
files_where s false p bytes = refl

allowed_where : (valid : Bool) (p : Path) (bytes : Content) → All IsWrittenEffect (effects_where valid p bytes) → IsAllowedPath p
allowed_where true p bytes all = all 0 (Invalidate p) (omega arith)
allowed_where false p bytes all = all 0 (Set p bytes) (omega arith)

set_long : (p : Path) (bytes : Content) → length (effect_bytes (Set p bytes)) ≤ length (path_bytes p) + content_len bytes + 6
unfolding effect_bytes
set_long p bytes = omega (arith, content_short bytes, length-append (path_bytes p) (content_bytes bytes))

bump_long : (p : Path) → length (effect_bytes (Bump p 1)) ≡ length (path_bytes p) + 2
unfolding effect_bytes
bump_long p = omega (arith, length-append (path_bytes p) (1 ∷ []))

invalidate_long : (p : Path) → length (effect_bytes (Invalidate p)) ≡ length (path_bytes p) + 1
unfolding effect_bytes
invalidate_long p = omega arith

two_long : (p : Path) (bytes : Content) → length (flat_map effect_bytes (Set p bytes ∷ Bump p 1 ∷ [])) ≡ length (effect_bytes (Set p bytes)) + length (effect_bytes (Bump p 1))
two_long p bytes = omega (arith, length-append (effect_bytes (Set p bytes)) (effect_bytes (Bump p 1) ++ []), length-append (effect_bytes (Bump p 1)) [])

spells_where : (valid : Bool) (p : Path) (bytes : Content) → IsAllowedPath p → content_len bytes ≤ 2 ^ 24 → IsSpellable (effects_where valid p bytes)
spells_where true p bytes allowed few = record {
  some = some_where true p bytes;
  each = All-from_recursion IsSpellableEffect (effects_where true p bytes) (tt, (tt, (inl refl, tt)));
  short = omega (arith, few, path_within p allowed, set_long p bytes, bump_long p, invalidate_long p, two_long p bytes, record_long (effects_where true p bytes), length-append (effect_bytes (Invalidate p)) (flat_map effect_bytes (Set p bytes ∷ Bump p 1 ∷ [])));
}
spells_where false p bytes allowed few = record {
  some = some_where false p bytes;
  each = All-from_recursion IsSpellableEffect (effects_where false p bytes) (tt, (inl refl, tt));
  short = omega (arith, few, path_within p allowed, set_long p bytes, bump_long p, two_long p bytes, record_long (effects_where false p bytes));
}

-- ---- a content that no limit refuses is short

none_of_mapped : {X Y : Type 0} (f : X → Y) (o : Option X) (more : Option Y) → option_or (option_map f o) more ≡ None → o ≡ None
none_of_mapped f None more e = refl
none_of_mapped f (Some x) more e = cc

short_in : (limits : Limits) (files : Entries) (p : Path) (bytes : Content) → Within limits → limit_hit limits files ≡ None → content files p ≡ bytes → content_len bytes ≤ 2 ^ 24
short_in limits files p None within none is = omega arith
short_in limits files p (Some bytes) within none is =
    let few = bytes_within limits.file_bytes files p bytes (none_of_mapped _ (first_above limits.file_bytes files) _ none) is in
    let most = within.file_bytes in
    omega (arith, few, most)

module _ (limits : Limits) (s : State) (p : Path) (bytes : Content) where
  abbrev effects : List Effect
  effects = outside_effects s.records p bytes

  abbrev next : State
  next = state_after s effects

  abbrev blocking : List Path
  blocking = in_the_way s.files ((p, bytes) ∷ [])

  abbrev valid : Bool
  valid = list_any (is_valid_at p) s.records

  abbrev changes : List Change
  changes = change_to s.files (p, bytes)

  abbrev changed : List Numbered
  changed = raised s.versions (ones (p ∷ []))

  -- ---- the outcome

  abbrev chosen : Bool → Bool → Option Hit → Outcome
  chosen same some hit =
      cond same (stays Same) (cond some (stays (OutsideInTheWay blocking)) (option_map_or (λ h. stays (Refused h)) hit (records effects (Recorded (numbered next (p ∷ []))))))

  outcome_is : (same some : Bool) (hit : Option Hit) → is_same (content s.files p) bytes ≡ same → is_some_of blocking ≡ some → hit_of limits effects next ≡ hit → chosen same some hit ≡ outside_outcome limits s p bytes
  outcome_is same some hit e f g = sym (λ i. chosen (e i) (f i) (g i))

  pub outside_same : is_same (content s.files p) bytes ≡ true → stays Same ≡ outside_outcome limits s p bytes
  outside_same e = outcome_is true (is_some_of blocking) (hit_of limits effects next) e refl refl

  pub outside_blocked : is_same (content s.files p) bytes ≡ false → is_some_of blocking ≡ true → stays (OutsideInTheWay blocking) ≡ outside_outcome limits s p bytes
  outside_blocked e f = outcome_is false true (hit_of limits effects next) e f refl

  module _ (differs : is_same (content s.files p) bytes ≡ false) (free : blocking ≡ []) where
    pub outside_refused : (hit : Hit) → hit_of limits effects next ≡ Some hit → stays (Refused hit) ≡ outside_outcome limits s p bytes
    outside_refused hit g = outcome_is false false (Some hit) differs (ap is_some_of free) g

    outside_recorded : hit_of limits effects next ≡ None → records effects (Recorded (numbered next (p ∷ []))) ≡ outside_outcome limits s p bytes
    outside_recorded g = outcome_is false false None differs (ap is_some_of free) g

    -- ---- what it leaves

    pub outside_sets : list_any sets_tree effects ≡ true
    outside_sets = sets_where valid p bytes

    pub outside_versions : next.versions ≡ with_versions changed s.versions
    outside_versions = versions_risen s effects (p ∷ []) (bumps_where valid p bytes) refl

    changes_are : IsHistory s limits → changes ≡ changes_between s.files next.files
    changes_are history =
        sym (append-nil changes) ∙ changes_set s.files ((p, bytes) ∷ []) history.linked.tree.rises refl ∙ ap (changes_between s.files) (sym (files_where s valid p bytes))

    pub outside_leads : IsHistory s limits → LeadTo s.files changes next.files
    outside_leads history = record {
      tree = subst IsTree (sym (files_where s valid p bytes)) (tree_where_free s.files ((p, bytes) ∷ []) history.linked.tree (alone_apart p bytes) free);
      between = changes_are history;
    }

    content_there : content next.files p ≡ bytes
    content_there = ap (λ (files : Entries). content files p) (files_where s valid p bytes) ∙ content_set s.files p bytes p ∙ ap (λ b. cond b bytes (content s.files p)) (tied_itself p)

    pub outside_plans : IsHistory s limits → hit_of limits effects next ≡ None → PlansAsOutcome s (outside_outcome limits s p bytes) (recorded_with effects changes (Recorded changed))
    outside_plans history none =
        subst (λ (o : Outcome). PlansAsOutcome s o (recorded_with effects changes (Recorded changed))) (outside_recorded none)
        (records_plan s effects changes (Recorded changed) (Recorded (numbered next (p ∷ []))) (some_where valid p bytes) (changes_are history)
        (ap (λ ns. Recorded ns) (numbered_risen s effects (p ∷ []) (bumps_where valid p bytes) refl)))

    pub outside_may : IsHistory s limits → hit_of limits effects next ≡ None → All IsWrittenEffect effects → MayRecord limits s (recorded_with effects changes (Recorded changed)).plan
    outside_may history none written =
        let applies = subst (λ (o : Outcome). o.effects ≢ [] → MayApply limits s o.effects) (sym (outside_recorded none)) (outsides_apply limits s p bytes history) in
        may_record limits s effects changes history (applies (some_where valid p bytes)) written
        (spells_where valid p bytes (allowed_where valid p bytes written) (short_in limits next.files p bytes (within_of limits history.within) (set_within limits s effects history outside_sets none).1 content_there))
        (ap (is_sorted path_cmp) (bumps_where valid p bytes)) (changes_are history)
