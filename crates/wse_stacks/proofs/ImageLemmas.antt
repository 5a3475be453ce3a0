-- What an effect leaves, record by record.
use Rattle.std.proofs.Common.{◌≡◌, true, false, cond, List, [], ◌∷◌, ◌++◌, map, refl, sym, ap, ◌∙◌}
use Rattle.std.specs.Prelude.{filter, flat_map}
use Rattle.std.specs.List.{list_any}
use Rattle.std.proofs.lemmas.Bool.{or_parts}
use Rattle.wse_path.specs.Path.{Path}
use Rattle.wse_element.specs.declared.state.PartState.{PartState}
use Rattle.wse_element.specs.declared.state.PartState.TheVariants.{Live, Closed, Incompatible}
use Rattle.wse_element.specs.declared.effect.Effect.{Effect}
use Rattle.wse_element.specs.declared.effect.Effect.TheVariants.{Push, MoveBack, MoveForward, Split, Drop, Invalidate, Bump, Set}
use Rattle.wse_element.specs.Record.{RecordPart, Record}
use Rattle.wse_element.specs.Live.{is_live_part_at, is_live_at, has_live}
use Rattle.wse_element.specs.Losses.{lost, lost_at, future_lost_at, invalid_at}
use Rattle.wse_element.specs.Effects.{marked_one, lost_for, records_after}
use Rattle.wse_element.proofs.ListLemmas.{find-any}
use Rattle.wse_stacks.specs.Image.{if_live, image_lost, images}
use Rattle.wse_element.specs.Laws.{PushesParts, BringsNone}

-- ---- what stays

module _ (p : Path) (f : RecordPart → RecordPart) where
  all_stay : (parts : List RecordPart) → list_any (is_live_part_at p) parts ≡ false → map (λ part. cond (is_live_part_at p part) (f part) part) parts ≡ parts
  all_stay [] h = refl
  all_stay (part ∷ parts) h =
      let both = or_parts (is_live_part_at p part) (list_any (is_live_part_at p) parts) h in
      ap (λ b. cond b (f part) part ∷ map (λ (x : RecordPart). cond (is_live_part_at p x) (f x) x) parts) both.0
      ∙ ap (λ ps. part ∷ ps) (all_stay parts both.1)

pub lost_elsewhere : (p : Path) (state : PartState) (r : Record) → is_live_at p r ≡ false → lost_at p state r ≡ r
lost_elsewhere p state r h = ap (λ ps. record r { parts = ps }) (all_stay p (lost state) r.parts (sym (find-any (is_live_part_at p) r.parts) ∙ h))

pub invalid_elsewhere : (p : Path) (r : Record) → is_live_at p r ≡ false → invalid_at p r ≡ r
invalid_elsewhere p r h = ap (λ ps. record r { parts = ps }) (all_stay p (λ part. record part { valid = false }) r.parts (sym (find-any (is_live_part_at p) r.parts) ∙ h))

-- ---- one by one

flat_one : (f : Record → Record) (records : List Record) → flat_map (λ r. f r ∷ []) records ≡ map f records
flat_one f [] = refl
flat_one f (r ∷ records) = ap (λ rs. f r ∷ rs) (flat_one f records)

flat_live : (f : Record → Record) (records : List Record) → flat_map (λ r. if_live (f r)) records ≡ filter has_live (map f records)
flat_live f [] = refl
flat_live f (r ∷ records) =
    elim (has_live (f r)) as (λ b. cond b (f r ∷ []) [] ++ flat_map (λ x. if_live (f x)) records ≡ cond b (f r ∷ filter has_live (map f records)) (filter has_live (map f records))) [
      | true ↦ ap (λ rs. f r ∷ rs) (flat_live f records)
      | false ↦ flat_live f records
    ]

flat_same : (records : List Record) → flat_map (λ r. r ∷ []) records ≡ records
flat_same [] = refl
flat_same (r ∷ records) = ap (λ rs. r ∷ rs) (flat_same records)

flat_lost : (path : Path) (reason : PartState) (records : List Record) → flat_map (image_lost path reason) records ≡ lost_for records path reason
flat_lost path Live records = flat_same records
flat_lost path Closed records = flat_live (lost_at path Closed) records
flat_lost path Incompatible records = flat_live (future_lost_at path) records

pub no_push : (effect : Effect) → ((r : Record) → effect ≡ Push r → ⊥) → BringsNone effect
no_push (Push r) h = h r refl
no_push (MoveBack id) h = tt
no_push (MoveForward id) h = tt
no_push (Split id first) h = tt
no_push (Drop path reason) h = tt
no_push (Invalidate path) h = tt
no_push (Bump path by) h = tt
no_push (Set path content) h = tt

pub no_push_parts : (effect : Effect) → ((r : Record) → effect ≡ Push r → ⊥) → PushesParts effect
no_push_parts (Push r) h = absurd (h r refl)
no_push_parts (MoveBack id) h = tt
no_push_parts (MoveForward id) h = tt
no_push_parts (Split id first) h = tt
no_push_parts (Drop path reason) h = tt
no_push_parts (Invalidate path) h = tt
no_push_parts (Bump path by) h = tt
no_push_parts (Set path content) h = tt

pub images_are : (records : List Record) (effect : Effect) → BringsNone effect → images effect records ≡ records_after records effect
images_are records (Push r) h = absurd h
images_are records (MoveBack id) h = flat_one (marked_one id false) records
images_are records (MoveForward id) h = flat_one (marked_one id true) records
images_are records (Split id first) h = refl
images_are records (Drop path reason) h = flat_lost path reason records
images_are records (Invalidate path) h = flat_one (invalid_at path) records
images_are records (Bump path by) h = flat_same records
images_are records (Set path content) h = flat_same records
