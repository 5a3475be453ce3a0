-- What holds of records by their contents and origins goes on to hold after effects.
use Rattle.std.proofs.Common.{◌≡◌, ℕ, Bool, true, false, cond, List, [], ◌∷◌, ◌++◌, map, Option, Some, None, refl, sym, ap, subst, ◌∙◌}
use Rattle.std.specs.Prelude.{⊤, filter, option_map, option_and_then}
use Rattle.std.specs.List.{AllByRecursion, AllZip}
use Rattle.std.specs.Ordering.{eq_by_cmp}
use Rattle.wse_path.specs.Path.{Path}
use Rattle.wse_path.specs.Order.{path_cmp}
use Rattle.wse_element.specs.declared.state.PartState.{PartState}
use Rattle.wse_element.specs.declared.state.PartState.TheVariants.{Live, Closed, Incompatible}
use Rattle.wse_element.specs.declared.effect.Effect.{Effect}
use Rattle.wse_element.specs.declared.effect.Effect.TheVariants.{Push, MoveBack, MoveForward, Split, Drop, Invalidate, Bump, Set}
use Rattle.wse_element.specs.Content.{Content, old_content, new_content}
use Rattle.wse_element.specs.declared.body.Body.{Body}
use Rattle.wse_element.specs.Record.{RecordPart, Record}
use Rattle.wse_element.specs.Live.{is_live_part_at, live_part, is_live_at, old_at, new_at}
use Rattle.wse_element.specs.Stacks.{has_id, live_at}
use Rattle.wse_element.specs.Losses.{lost_at, future_lost_at, flushed, dropped, part_invalid_at, invalid_at}
use Rattle.wse_element.specs.State.{StacksState}
use Rattle.wse_element.specs.Split.{split}
use Rattle.wse_element.specs.Effects.{marked_one, lost_for, records_after, after, after_each}
use Rattle.wse_element.specs.Laws.{PushesParts}
use Rattle.wse_element.proofs.KeptLemmas.{HasParts, parts_after}
use Rattle.wse_element.proofs.LinkedLemmas.{by_paths}
use Rattle.wse_element.proofs.LiveLemmas.{live_part-invalid_at, live_part-lost_at_other}
use Rattle.wse_element.proofs.MoveLemmas.{live_at_marked}
use Rattle.wse_element.proofs.PastLemmas.{past-live_at, live_at_push, live_at_invalidated, live_at_flushed_same, live_at_flushed_other, live_at_dropped_other}
use Rattle.wse_element.proofs.LinkedLemmas.{live_at_dropped_same}
use Rattle.wse_element.proofs.PieceLemmas.{StandsIn, live_at_split}

invalid_body : (q : Path) (part : RecordPart) → (part_invalid_at q part).body ≡ part.body
invalid_body q part = elim (is_live_part_at q part) as (λ b. (cond b (record part { valid = false }) part).body ≡ part.body) [ true ↦ refl | false ↦ refl ]

-- an invalid part has its contents
of_invalid : (f : Body → Content) (q : Path) (o : Option RecordPart) → option_and_then (λ part. f part.body) (option_map (part_invalid_at q) o) ≡ option_and_then (λ part. f part.body) o
of_invalid f q None = refl
of_invalid f q (Some part) = ap f (invalid_body q part)

module _ {X : Type 0} (P : X → Type 0) where
  pub all_append : (xs ys : List X) → AllByRecursion P xs → AllByRecursion P ys → AllByRecursion P (xs ++ ys)
  all_append [] ys h k = k
  all_append (x ∷ xs) ys h k = (h.0, all_append xs ys h.1 k)

  pub all_filter : (test : X → Bool) (xs : List X) → AllByRecursion P xs → AllByRecursion P (filter test xs)
  all_filter test [] h = h
  all_filter test (x ∷ xs) h =
      elim (test x) as (λ b. AllByRecursion P (cond b (x ∷ filter test xs) (filter test xs))) [ true ↦ (h.0, all_filter test xs h.1) | false ↦ all_filter test xs h.1 ]

  pub all_map : (f : X → X) → ((x : X) → P x → P (f x)) → (xs : List X) → AllByRecursion P xs → AllByRecursion P (map f xs)
  all_map f keeps [] h = h
  all_map f keeps (x ∷ xs) h = (keeps x h.0, all_map f keeps xs h.1)

  pub all_zip : (R : X → X → Type 0) → ((x y : X) → R x y → P x → P y) → (xs ys : List X) → AllZip R xs ys → AllByRecursion P xs → AllByRecursion P ys
  all_zip R so [] [] z h = h
  all_zip R so [] (y ∷ ys) z h = absurd z
  all_zip R so (x ∷ xs) [] z h = absurd z
  all_zip R so (x ∷ xs) (y ∷ ys) z h = (so x y z.0 h.0, all_zip R so xs ys z.1 h.1)

-- the second says of the path what the first does, and comes from the same command
pub record SaysSame (p : Path) (r s : Record) : Type 0 where
  pub old : old_at p s ≡ old_at p r
  pub new : new_at p s ≡ new_at p r
  pub origin : s.origin ≡ r.origin

same_part : (p : Path) (r s : Record) → live_part p s ≡ live_part p r → s.origin ≡ r.origin → SaysSame p r s
same_part p r s e o = record { old = ap (λ x. option_and_then (λ (part : RecordPart). old_content part.body) x) e; new = ap (λ x. option_and_then (λ (part : RecordPart). new_content part.body) x) e; origin = o }

module _ (p : Path) (P : Record → Type 0) (keeps : (r s : Record) → SaysSame p r s → P r → P s) where
  abbrev pub Holds : List Record → Type 0
  Holds records = AllByRecursion P (live_at records p)

  marked_says : (id : ℕ) (done : Bool) (r : Record) → P r → P (marked_one id done r)
  marked_says id done r h = elim (has_id id r) as (λ b. P (cond b (record r { done = done }) r)) [ true ↦ keeps r (record r { done = done }) (record { old = refl; new = refl; origin = refl }) h | false ↦ h ]

  marked_holds : (records : List Record) (id : ℕ) (done : Bool) → Holds records → Holds (map (marked_one id done) records)
  marked_holds records id done h = subst (λ rs. AllByRecursion P rs) (sym (live_at_marked records id done p)) (all_map P (marked_one id done) (marked_says id done) (live_at records p) h)

  flushed_holds : (records : List Record) (q : Path) → Holds records → Holds (flushed records q)
  flushed_holds records q h =
      by_paths p q (λ x. AllByRecursion P (live_at (flushed records q) x))
      (subst (λ rs. AllByRecursion P rs) (sym (live_at_flushed_same records q)) tt)
      (λ other. subst (λ rs. AllByRecursion P rs) (sym (live_at_flushed_other records q p other))
      (all_map P (lost_at q Closed) (λ r k. keeps r (lost_at q Closed r) (same_part p r (lost_at q Closed r) (live_part-lost_at_other p q Closed r other refl) refl) k) (live_at records p) h))

  future_lost_says : (q : Path) (r : Record) → eq_by_cmp path_cmp p q ≡ false → P r → P (future_lost_at q r)
  future_lost_says q r other h =
      elim r.done as (λ b. P (cond b r (lost_at q Incompatible r))) [
        | true ↦ h
        | false ↦ keeps r (lost_at q Incompatible r) (same_part p r (lost_at q Incompatible r) (live_part-lost_at_other p q Incompatible r other refl) refl) h
      ]

  dropped_holds : (records : List Record) (q : Path) → Holds records → Holds (dropped records q)
  dropped_holds records q =
      by_paths p q (λ x. AllByRecursion P (live_at records x) → AllByRecursion P (live_at (dropped records q) x))
      (λ h. subst (λ rs. AllByRecursion P rs) (sym (live_at_dropped_same records q ∙ past-live_at records q)) (all_filter P (λ r. r.done) (live_at records q) h))
      (λ other h. subst (λ rs. AllByRecursion P rs) (sym (live_at_dropped_other records q p other)) (all_map P (future_lost_at q) (λ r k. future_lost_says q r other k) (live_at records p) h))

  lost_holds : (records : List Record) (q : Path) (reason : PartState) → Holds records → Holds (lost_for records q reason)
  lost_holds records q Live h = h
  lost_holds records q Closed h = flushed_holds records q h
  lost_holds records q Incompatible h = dropped_holds records q h

  invalid_says : (q : Path) (r : Record) → P r → P (invalid_at q r)
  invalid_says q r h = keeps r (invalid_at q r) (record {
    old = ap (λ x. option_and_then (λ (part : RecordPart). old_content part.body) x) (live_part-invalid_at p q r) ∙ of_invalid old_content q (live_part p r);
    new = ap (λ x. option_and_then (λ (part : RecordPart). new_content part.body) x) (live_part-invalid_at p q r) ∙ of_invalid new_content q (live_part p r);
    origin = refl;
  }) h

  pushed_holds : (records : List Record) (r : Record) → (is_live_at p r ≡ true → P r) → Holds records → Holds (records ++ r ∷ [])
  pushed_holds records r made h =
      subst (λ rs. AllByRecursion P rs) (sym (live_at_push records r p))
      (all_append P (live_at records p) (cond (is_live_at p r) (r ∷ []) []) h
      (elim (is_live_at p r) as (λ b. (b ≡ true → P r) → AllByRecursion P (cond b (r ∷ []) [])) [ true ↦ λ f. (f refl, tt) | false ↦ λ f. tt ] made))

  -- a record that is pushed and live there has the property
  abbrev pub Pushes : Effect → Type 0
  Pushes (Push r) = is_live_at p r ≡ true → P r
  Pushes _ = ⊤

  pub holds_after : (records : List Record) (effect : Effect) → AllByRecursion HasParts records → Pushes effect → Holds records → Holds (records_after records effect)
  holds_after records (Push r) parts made h = pushed_holds records r made h
  holds_after records (MoveBack id) parts made h = marked_holds records id false h
  holds_after records (MoveForward id) parts made h = marked_holds records id true h
  holds_after records (Split id first) parts made h =
      all_zip P (StandsIn p id) (λ r s stands k. keeps r s (same_part p r s stands.part stands.origin) k) (live_at records p) (live_at (split records id first) p) (live_at_split records id first p parts) h
  holds_after records (Drop path reason) parts made h = lost_holds records path reason h
  holds_after records (Invalidate path) parts made h = subst (λ rs. AllByRecursion P rs) (sym (live_at_invalidated records path p)) (all_map P (invalid_at path) (λ r k. invalid_says path r k) (live_at records p) h)
  holds_after records (Bump path by) parts made h = h
  holds_after records (Set path content) parts made h = h

  pub holds_after_each : (h : StacksState) (effects : List Effect) → AllByRecursion HasParts h.records → AllByRecursion PushesParts effects → AllByRecursion Pushes effects → Holds h.records → Holds (after_each h effects).records
  holds_after_each h [] parts pushes made holds = holds
  holds_after_each h (effect ∷ more) parts pushes made holds =
      holds_after_each (after h effect) more (parts_after h.records effect parts pushes.0) pushes.1 made.1 (holds_after h.records effect parts made.0 holds)
