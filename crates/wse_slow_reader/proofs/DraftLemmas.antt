-- The effects of a record tried one by one, and all together.
use Rattle.std.proofs.Common.{◌≡◌, ◌≢◌, ℕ, ◌+◌, ◌*◌, ◌^◌, ◌<◌, ◌≤◌, Bool, true, false, not, ◌&&◌, ◌||◌, List, [], ◌∷◌, ◌++◌, length, drop, get_or, None, refl, sym, ap, subst, ◌∙◌, append_assoc, append-nil, eqb, arith}
use Rattle.std.specs.List.{list_any}
use Rattle.std.specs.Option.{option_map_or}
use Rattle.std.proofs.lemmas.Bool.{and_from, both_ways, eqb-true}
use Rattle.std.proofs.lemmas.List.{drop_all, drop_more}
use Rattle.wse_path.specs.Path.{Path}
use Rattle.wse_path.proofs.EntryLemmas.{and_parts}
use Rattle.wse_element.specs.Content.{Content}
use Rattle.wse_element.specs.declared.effect.Effect.{Effect}
use Rattle.wse_element.specs.declared.effect.Effect.TheVariants.{Push, MoveBack, MoveForward, Split, Drop, Invalidate, Bump, Set}
use Rattle.wse_element.specs.Record.{Record}
use Rattle.wse_element.specs.State.{StacksState, Kept, stacks_of}
use Rattle.wse_element.specs.Stacks.{record_of}
use Rattle.wse_element.specs.Numbers.{is_bounded, are_versions_bounded, is_known_bounded}
use Rattle.wse_element.specs.Effects.{after, after_each, begun, contents_set, ids_taken, versions_after, versions_after_each, kept_after}
use Rattle.wse_element.specs.Applicable.{sets_tree, may_come, may_bump, may_split, is_applicable, keeps_versions, first_refused_of_kept}
use Rattle.wse_element.specs.Laws.{AllApply}
use Rattle.wse_element.proofs.FoldLemmas.{none_refused}
use Rattle.wse_element.proofs.NumberLemmas.{bounded_parts}
use Rattle.wse_txn.specs.Replay.{Replayed, replayed, sets_each}
use Rattle.wse_plain.specs.Ids.{HasLowIds}
use Rattle.wse_slow_reader.specs.Draft.{DraftState, next_draft, next_drafts, is_next, all_next, begun_draft, is_draft_bounded}

-- ---- all of them

any_push : {X : Type 0} (test : X → Bool) (xs : List X) (x : X) → (list_any test xs || test x) ≡ list_any test (xs ++ x ∷ [])
any_push test [] x = elim (test x) as (λ b. b ≡ (b || false)) [ true ↦ refl | false ↦ refl ]
any_push test (y ∷ xs) x = elim (test y) as (λ b. ((b || list_any test xs) || test x) ≡ (b || list_any test (xs ++ x ∷ []))) [ true ↦ refl | false ↦ any_push test xs x ]

setting_push : (b : Bool) (before : List Effect) (e : Effect) → b ≡ list_any sets_tree before → (b || sets_tree e) ≡ list_any sets_tree (before ++ e ∷ [])
setting_push b before e h = ap (λ a. a || sets_tree e) h ∙ any_push sets_tree before e

apply_of : (d : DraftState) (before es : List Effect) → d.setting ≡ list_any sets_tree before → all_next d es ≡ true → AllApply d.kept.serial (stacks_of d.kept) d.kept.versions before es
apply_of d before [] s h = tt
apply_of d before (e ∷ es) s h =
    let both = and_parts (is_next d e) (all_next (next_draft d e) es) h in
    let here = and_parts (not (sets_tree e && d.setting)) (is_applicable (stacks_of d.kept) e && keeps_versions d.kept.serial d.kept.versions e) both.0 in
    let two = and_parts (is_applicable (stacks_of d.kept) e) (keeps_versions d.kept.serial d.kept.versions e) here.1 in
    (ap (λ b. not (sets_tree e && b)) (sym s) ∙ here.0, two.0, two.1, apply_of (next_draft d e) (before ++ e ∷ []) es (setting_push d.setting before e s) both.1)

next_from : (d : DraftState) (before es : List Effect) → d.setting ≡ list_any sets_tree before → AllApply d.kept.serial (stacks_of d.kept) d.kept.versions before es → all_next d es ≡ true
next_from d before [] s h = refl
next_from d before (e ∷ es) s h =
    and_from (is_next d e) (all_next (next_draft d e) es)
    (and_from (not (sets_tree e && d.setting)) (is_applicable (stacks_of d.kept) e && keeps_versions d.kept.serial d.kept.versions e)
    (ap (λ b. not (sets_tree e && b)) s ∙ h.0)
    (and_from (is_applicable (stacks_of d.kept) e) (keeps_versions d.kept.serial d.kept.versions e) h.1 h.2))
    (next_from (next_draft d e) (before ++ e ∷ []) es (setting_push d.setting before e s) h.3)

pub all_apply : (kept : Kept) (effects : List Effect) → all_next (begun_draft kept) effects ≡ true → first_refused_of_kept kept effects ≡ None
all_apply kept effects h = none_refused.refused kept effects (apply_of (begun_draft kept) [] effects refl h)

pub some_refused : (kept : Kept) (effects : List Effect) → all_next (begun_draft kept) effects ≡ false → first_refused_of_kept kept effects ≢ None
some_refused kept effects h none =
    both_ways (all_next (begun_draft kept) effects) h (next_from (begun_draft kept) [] effects refl (none_refused.apply kept effects none))

-- ---- what they leave

kept_drafts : (d : DraftState) (es : List Effect) → (next_drafts d es).kept ≡ record { versions = versions_after_each d.kept.versions es; records = (after_each (stacks_of d.kept) es).records; next_id = (after_each (stacks_of d.kept) es).next_id; serial = (after_each (stacks_of d.kept) es).serial }
kept_drafts d [] = refl
kept_drafts d (e ∷ es) = kept_drafts (next_draft d e) es

sets_drafts : (d : DraftState) (es : List Effect) → (next_drafts d es).sets ≡ d.sets ++ sets_each (stacks_of d.kept) es
sets_drafts d [] = sym (append-nil d.sets)
sets_drafts d (e ∷ es) = sets_drafts (next_draft d e) es ∙ append_assoc d.sets (contents_set d.kept.records e) (sets_each (after (stacks_of d.kept) e) es)

sets_begun : (h : StacksState) (n : ℕ) (es : List Effect) → sets_each (record h { serial = n }) es ≡ sets_each h es
sets_begun h n [] = refl
sets_begun h n (e ∷ es) = ap (λ cs. contents_set h.records e ++ cs) (sets_begun (after h e) n es)

pub left_drafts : (kept : Kept) (effects : List Effect) (d : DraftState) → next_drafts (begun_draft kept) effects ≡ d → record { kept = d.kept; sets = d.sets } ≡ replayed kept effects
left_drafts kept effects d is =
    (λ i. record { kept = (sym is i).kept; sets = (sym is i).sets })
    ∙ (λ i. record { kept = kept_drafts (begun_draft kept) effects i; sets = (sets_drafts (begun_draft kept) effects ∙ sets_begun (stacks_of kept) (kept.serial + 1) effects) i })

-- ---- step by step

module _ (d : DraftState) (es : List Effect) (i : ℕ) (e : Effect) where
  there : i < length es → e ≡ get_or es i e → drop i es ≡ e ∷ drop (i + 1) es
  there l is = drop_more es i e l ∙ ap (λ x. x ∷ drop (i + 1) es) (sym is)

  pub all_step : (n : DraftState) → i < length es → e ≡ get_or es i e → is_next d e ≡ true → n ≡ next_draft d e → all_next d (drop i es) ≡ all_next n (drop (i + 1) es)
  all_step n l is h k =
      ap (all_next d) (there l is)
      ∙ ap (λ b. b && all_next (next_draft d e) (drop (i + 1) es)) h
      ∙ ap (λ x. all_next x (drop (i + 1) es)) (sym k)

  pub all_stop : i < length es → e ≡ get_or es i e → is_next d e ≡ false → all_next d (drop i es) ≡ false
  all_stop l is h = ap (all_next d) (there l is) ∙ ap (λ b. b && all_next (next_draft d e) (drop (i + 1) es)) h

  pub drafts_step : (n : DraftState) → i < length es → e ≡ get_or es i e → n ≡ next_draft d e → next_drafts d (drop i es) ≡ next_drafts n (drop (i + 1) es)
  drafts_step n l is k = ap (next_drafts d) (there l is) ∙ ap (λ x. next_drafts x (drop (i + 1) es)) (sym k)

  pub bounded_step : (n : DraftState) → is_next d e ≡ true → n ≡ next_draft d e → is_bounded (stacks_of n.kept) ≡ true
  bounded_step n h k =
      let here = and_parts (not (sets_tree e && d.setting)) (is_applicable (stacks_of d.kept) e && keeps_versions d.kept.serial d.kept.versions e) h in
      let two = and_parts (is_applicable (stacks_of d.kept) e) (keeps_versions d.kept.serial d.kept.versions e) here.1 in
      ap (λ (x : DraftState). is_bounded (stacks_of x.kept)) k ∙ (and_parts (may_come (stacks_of d.kept) e) (is_bounded (after (stacks_of d.kept) e)) two.0).1

pub all_end : (d : DraftState) (es : List Effect) (i : ℕ) → length es ≤ i → all_next d (drop i es) ≡ true
all_end d es i l = ap (all_next d) (drop_all i es l)

pub drafts_end : (d : DraftState) (es : List Effect) (i : ℕ) → length es ≤ i → next_drafts d (drop i es) ≡ d
drafts_end d es i l = ap (next_drafts d) (drop_all i es l)

-- ---- numbers

pub low_next : (h : StacksState) → is_bounded h ≡ true → h.next_id < 2 ^ 63
low_next h b = let parts = bounded_parts h b in omega (arith, parts.ids, parts.serial)

pub low_serial : (h : StacksState) → is_bounded h ≡ true → h.serial < 2 ^ 30
low_serial h b = let parts = bounded_parts h b in omega (arith, parts.serial)

pub not_bounded : (h : StacksState) → 2 ^ 64 ≤ h.next_id → is_bounded h ≡ false
not_bounded h l =
    elim (is_bounded h) as (λ b. is_bounded h ≡ b → b ≡ false) [
      | true ↦ λ k. let parts = bounded_parts h k in absurd (omega (arith, parts.ids, parts.serial, l))
      | false ↦ λ k. refl
    ] refl

split_low : (h : StacksState) (id first : ℕ) → may_come h (Split id first) ≡ true → h.next_id < 2 ^ 63 → first < 2 ^ 63
split_low h id first h' l = subst (λ n. n < 2 ^ 63) (sym (eqb-true first h.next_id (and_parts (option_map_or may_split (record_of h.records id) false) (eqb first h.next_id) h').1)) l

pub low_ids : (h : StacksState) (e : Effect) → may_come h e ≡ true → h.next_id < 2 ^ 63 → HasLowIds e
low_ids h (Push r) k l = tt
low_ids h (MoveBack id) k l = tt
low_ids h (MoveForward id) k l = tt
low_ids h (Split id first) k l = split_low h id first k l
low_ids h (Drop path reason) k l = tt
low_ids h (Invalidate path) k l = tt
low_ids h (Bump path by) k l = tt
low_ids h (Set path content) k l = tt

-- ---- one effect

bools : (n m k x a b : Bool) → (n && ((m && x) && ((k && a) && b))) ≡ ((n && (m && k)) && (x && (a && b)))
bools false m k x a b = refl
bools true false k x a b = refl
bools true true false false a b = refl
bools true true false true a b = refl
bools true true true x a b = refl

module _ (d : DraftState) (e : Effect) where
  abbrev may : Bool
  may = not (sets_tree e && d.setting) && (may_come (stacks_of d.kept) e && may_bump d.kept.versions e)

  is_next_is : is_next d e ≡ (may && is_draft_bounded (next_draft d e).kept)
  is_next_is =
      let after_it = versions_after d.kept.versions e in
      bools (not (sets_tree e && d.setting)) (may_come (stacks_of d.kept) e) (may_bump d.kept.versions e) (is_bounded (after (stacks_of d.kept) e)) (are_versions_bounded d.kept.serial after_it) (is_known_bounded after_it)

  pub may_not : (b : Bool) → b ≡ may → b ≡ false → is_next d e ≡ false
  may_not b e' h = is_next_is ∙ ap (λ x. x && is_draft_bounded (next_draft d e).kept) (sym e' ∙ h)

  both_false : (a b : Bool) → b ≡ false → (a && b) ≡ false
  both_false true b h = h
  both_false false b h = refl

  pub no_room : 2 ^ 64 ≤ d.kept.next_id + ids_taken d.kept.records e → is_next d e ≡ false
  no_room l =
      is_next_is
      ∙ both_false may (is_draft_bounded (next_draft d e).kept)
      (ap (λ x. x && (are_versions_bounded d.kept.serial (versions_after d.kept.versions e) && is_known_bounded (versions_after d.kept.versions e))) (not_bounded (after (stacks_of d.kept) e) l))

  pub no_bounds : (next : DraftState) (b : Bool) → next ≡ next_draft d e → b ≡ is_draft_bounded next.kept → b ≡ false → is_next d e ≡ false
  no_bounds next b is k h = is_next_is ∙ both_false may (is_draft_bounded (next_draft d e).kept) (ap (λ (x : DraftState). is_draft_bounded x.kept) (sym is) ∙ sym k ∙ h)

  pub is_next_from : (next : DraftState) (b : Bool) → may ≡ true → next ≡ next_draft d e → b ≡ is_draft_bounded next.kept → b ≡ true → is_next d e ≡ true
  is_next_from next b g is k h = is_next_is ∙ (λ i. g i && (ap (λ (x : DraftState). is_draft_bounded x.kept) (sym is) ∙ sym k ∙ h) i)

  may_parts : (m : Bool) → m ≡ may → m ≡ true → (may_come (stacks_of d.kept) e ≡ true) × (may_bump d.kept.versions e ≡ true)
  may_parts m e' g = and_parts (may_come (stacks_of d.kept) e) (may_bump d.kept.versions e) (and_parts (not (sets_tree e && d.setting)) (may_come (stacks_of d.kept) e && may_bump d.kept.versions e) (sym e' ∙ g)).1

  pub may_low : (m : Bool) → m ≡ may → m ≡ true → d.kept.next_id < 2 ^ 63 → HasLowIds e
  may_low m e' g l = low_ids (stacks_of d.kept) e (may_parts m e' g).0 l

  pub may_rise : may ≡ true → may_bump d.kept.versions e ≡ true
  may_rise g = (may_parts may refl g).1

-- ---- lists

pub some_length : {X : Type 0} (xs : List X) → xs ≢ [] → 0 < length xs
some_length [] h = absurd (h refl)
some_length (x ∷ xs) h = omega arith
