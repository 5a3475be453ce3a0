-- After a split the piece at the path is the closest there, and has one part.
use Rattle.std.proofs.Common.{◌≡◌, ℕ, true, false, List, [], ◌∷◌, length, Option, Some, None, refl, ap, subst, ◌∙◌, ◌<◌}
use Rattle.std.specs.Prelude.{slice_get, nat_le, ⊤}
use Rattle.std.specs.List.{last_or, AllZip, AllByRecursion}
use Rattle.std.proofs.lemmas.Bool.{eq-eqb}
use Rattle.wse_path.specs.Path.{Path}
use Rattle.wse_path.specs.declared.command.Direction.{Direction}
use Rattle.wse_path.specs.declared.command.Direction.TheVariants.{Back, Forward}
use Rattle.wse_element.specs.declared.effect.Effect.TheVariants.{Split}
use Rattle.wse_element.specs.Record.{Record, AreParts}
use Rattle.wse_element.specs.Stacks.{past, future}
use Rattle.wse_element.specs.Split.{split}
use Rattle.wse_element.specs.State.{StacksState}
use Rattle.wse_element.specs.Effects.{after}
use Rattle.wse_element.specs.Applicable.{may_come}
use Rattle.wse_element.proofs.PieceLemmas.{StandsIn, past_split, future_split}
use Rattle.wse_element.proofs.KeptLemmas.{parts_after}
use Rattle.wse_element.proofs.EffectLemmas.{linked_after}
use Rattle.wse_rules.specs.Ruling.{closest}
use Rattle.wse_history.proofs.GoLemmas.{closest_stands, parts_in, one_may, closest_may_move, splits_in, splits_may}
use Rattle.wse_history.proofs.Words.{AreLinked, PiecesMayGo}

-- ---- the closest of each

-- Both are there and stand in that relation, or neither is.
abbrev pub Both : (Record → Record → Type 0) → Option Record → Option Record → Type 0
Both R None None = ⊤
Both R None (Some y) = ⊥
Both R (Some x) None = ⊥
Both R (Some x) (Some y) = R x y

pub both_last : (R : Record → Record → Type 0) (o u : Option Record) (xs ys : List Record) → Both R o u → AllZip R xs ys → Both R (last_or o xs) (last_or u ys)
both_last R o u [] [] h zip = h
both_last R o u [] (y ∷ ys) h zip = absurd zip
both_last R o u (x ∷ xs) [] h zip = absurd zip
both_last R o u (x ∷ xs) (y ∷ ys) h zip = both_last R (Some x) (Some y) xs ys zip.0 zip.1

pub both_first : (R : Record → Record → Type 0) (xs ys : List Record) → AllZip R xs ys → Both R (slice_get xs 0) (slice_get ys 0)
both_first R [] [] zip = tt
both_first R [] (y ∷ ys) zip = absurd zip
both_first R (x ∷ xs) [] zip = absurd zip
both_first R (x ∷ xs) (y ∷ ys) zip = zip.0

both_closest : (direction : Direction) (records : List Record) (id first : ℕ) (p : Path) → AllByRecursion (λ r. AreParts r.parts) records → Both (StandsIn p id) (closest direction records p) (closest direction (split records id first) p)
both_closest Back records id first p all = both_last (StandsIn p id) None None (past records p) (past (split records id first) p) tt (past_split records id first p all)
both_closest Forward records id first p all = both_first (StandsIn p id) (future records p) (future (split records id first) p) (future_split records id first p all)

-- The second of the two.
pub record SecondOf (R : Record → Record → Type 0) (r : Record) (u : Option Record) : Type 0 where
  pub second : Record
  pub is : u ≡ Some second
  pub stands : R r second

pub second_of : (R : Record → Record → Type 0) (r : Record) (o u : Option Record) → o ≡ Some r → Both R o u → SecondOf R r u
second_of R r o None is both = absurd (subst (λ x. Both R x None) is both)
second_of R r o (Some s) is both = record { second = s; is = refl; stands = subst (λ x. Both R x (Some s)) is both }

pub closest_piece : (direction : Direction) (h : StacksState) (p : Path) (id first : ℕ) (r : Record) → AreLinked h → closest direction h.records p ≡ Some r → SecondOf (StandsIn p id) r (closest direction (split h.records id first) p)
closest_piece direction h p id first r all is =
    second_of (StandsIn p id) r (closest direction h.records p) (closest direction (split h.records id first) p) is (both_closest direction h.records id first p all.parts)

pub linked_split_state : (h : StacksState) (id : ℕ) → AreLinked h → 0 < h.next_id → may_come h (Split id h.next_id) ≡ true → AreLinked (after h (Split id h.next_id))
linked_split_state h id all positive may = record {
  parts = parts_after h.records (Split id h.next_id) all.parts tt;
  linked = linked_after h (Split id h.next_id) positive all.parts tt may all.linked;
}

same_closest : (o : Option Record) (r s : Record) → o ≡ Some r → o ≡ Some s → s ≡ r
same_closest None r s h k = cc
same_closest (Some x) r s h k = cc

pub pieces_go : PiecesMayGo
pieces_go direction h locks by p choice id cause files made moved all positive go is ruled =
    let s = splits_in direction h locks by p choice id cause files go in
    let next = closest_piece direction h p id h.next_id s.whole all s.is in
    let same : made ≡ next.second = same_closest (closest direction (split h.records id h.next_id) p) next.second made next.is is in
    let few : nat_le 2 (length made.parts) ≡ false = ap (λ (r : Record). nat_le 2 (length r.parts)) same ∙ next.stands.alone (eq-eqb s.whole.id id s.same) in
    let after_split = after h (Split id h.next_id) in
    let linked = linked_split_state h id all positive (splits_may direction h locks by p choice id cause files all go) in
    let found = closest_stands direction after_split.records p made is in
    closest_may_move direction after_split p made moved linked is
    (one_may direction after_split.records locks by p made moved (parts_in after_split.records made linked.parts found.among) few is ruled)
