-- Records that say the same of a path fit one another alike.
use Rattle.std.proofs.Common.{◌≡◌, Bool, true, false, ◌&&◌, ◌||◌, not, cond, List, [], ◌∷◌, map, Option, refl, sym, ap, subst, ◌∙◌}
use Rattle.std.specs.Prelude.{option_and_then}
use Rattle.std.specs.List.{list_any, AllZip}
use Rattle.std.specs.Option.{option_map_or}
use Rattle.wse_path.specs.Path.{Path}
use Rattle.wse_path.specs.Changes.{is_same}
use Rattle.wse_element.specs.Content.{old_content, new_content}
use Rattle.wse_element.specs.Record.{RecordPart, Record}
use Rattle.wse_element.specs.Live.{live_part, is_valid_at}
use Rattle.wse_element.specs.Stacks.{live_at}
use Rattle.wse_element.specs.Linked.{come_first, meets_first, neighbours_meet, IsLinkedAt}

-- the second has the first's part at the path, and is done like it
pub record SameAt (p : Path) (r s : Record) : Type 0 where
  pub part : live_part p s ≡ live_part p r
  pub done : s.done ≡ r.done

module _ {X : Type 0} (R : X → X → Type 0) (test : X → Bool) (alike : (x y : X) → R x y → test y ≡ test x) where
  any_alike : (xs ys : List X) → AllZip R xs ys → list_any test ys ≡ list_any test xs
  any_alike [] [] z = refl
  any_alike [] (y ∷ ys) z = absurd z
  any_alike (x ∷ xs) [] z = absurd z
  any_alike (x ∷ xs) (y ∷ ys) z = λ i. alike x y z.0 i || any_alike xs ys z.1 i

  pub come_first_alike : (xs ys : List X) → AllZip R xs ys → come_first test ys ≡ come_first test xs
  come_first_alike [] [] z = refl
  come_first_alike [] (y ∷ ys) z = absurd z
  come_first_alike (x ∷ xs) [] z = absurd z
  come_first_alike (x ∷ xs) (y ∷ ys) z = λ i. cond (alike x y z.0 i) (come_first_alike xs ys z.1 i) (not (any_alike xs ys z.1 i))

abbrev is_valid_part : Option RecordPart → Bool
is_valid_part part = option_map_or (λ x. x.valid) part false

abbrev met : Option RecordPart → Option RecordPart → Bool
met part next =
    cond (is_valid_part part && is_valid_part next) (is_same (option_and_then (λ x. new_content x.body) part) (option_and_then (λ x. old_content x.body) next)) true

-- the second has the first's part at the path
abbrev pub SamePart : Path → Record → Record → Type 0
SamePart p r s = live_part p s ≡ live_part p r

first_alike : (p : Path) (r s : Record) (xs ys : List Record) → SamePart p r s → AllZip (SamePart p) xs ys → meets_first p s ys ≡ meets_first p r xs
first_alike p r s [] [] same z = refl
first_alike p r s [] (y ∷ ys) same z = absurd z
first_alike p r s (x ∷ xs) [] same z = absurd z
first_alike p r s (x ∷ xs) (y ∷ ys) same z = λ i. met (same i) (z.0 i)

pub neighbours_alike : (p : Path) (xs ys : List Record) → AllZip (SamePart p) xs ys → neighbours_meet p ys ≡ neighbours_meet p xs
neighbours_alike p [] [] z = refl
neighbours_alike p [] (y ∷ ys) z = absurd z
neighbours_alike p (x ∷ xs) [] z = absurd z
neighbours_alike p (x ∷ xs) (y ∷ ys) z = λ i. first_alike p x y xs ys z.0 z.1 i && neighbours_alike p xs ys z.1 i

pub invalid_alike : (p : Path) (xs ys : List Record) → AllZip (SamePart p) xs ys → come_first (λ r. not (is_valid_at p r)) ys ≡ come_first (λ r. not (is_valid_at p r)) xs
invalid_alike p xs ys z = come_first_alike (SamePart p) (λ r. not (is_valid_at p r)) (λ r s same. ap (λ part. not (is_valid_part part)) same) xs ys z

part_of_same : (p : Path) (xs ys : List Record) → AllZip (SameAt p) xs ys → AllZip (SamePart p) xs ys
part_of_same p [] [] z = z
part_of_same p [] (y ∷ ys) z = absurd z
part_of_same p (x ∷ xs) [] z = absurd z
part_of_same p (x ∷ xs) (y ∷ ys) z = (z.0.part, part_of_same p xs ys z.1)

-- what holds of the path's records holds of those that say the same
pub linked_alike : (records new : List Record) (p : Path) → AllZip (SameAt p) (live_at records p) (live_at new p) → IsLinkedAt records p → IsLinkedAt new p
linked_alike records new p z linked = record {
  done_first = come_first_alike (SameAt p) (λ r. r.done) (λ r s same. same.done) (live_at records p) (live_at new p) z ∙ linked.done_first;
  invalid_first = invalid_alike p (live_at records p) (live_at new p) (part_of_same p (live_at records p) (live_at new p) z) ∙ linked.invalid_first;
  meet = neighbours_alike p (live_at records p) (live_at new p) (part_of_same p (live_at records p) (live_at new p) z) ∙ linked.meet;
}

-- a map that keeps what is said of the path
pub same_map : (p : Path) (f : Record → Record) → ((r : Record) → SameAt p r (f r)) → (records : List Record) → AllZip (SameAt p) records (map f records)
same_map p f same [] = tt
same_map p f same (r ∷ records) = (same r, same_map p f same records)

pub linked_map : (records new : List Record) (p : Path) (f : Record → Record) → ((r : Record) → SameAt p r (f r)) → live_at new p ≡ map f (live_at records p) → IsLinkedAt records p → IsLinkedAt new p
linked_map records new p f same is linked =
    linked_alike records new p (subst (λ rs. AllZip (SameAt p) (live_at records p) rs) (sym is) (same_map p f same (live_at records p))) linked
