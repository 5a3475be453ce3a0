-- What the body of one record gives.
use Rattle.std.proofs.Common.{◌≡◌, ◌≢◌, ◌⊎◌, inl, inr, ℕ, ◌+◌, ◌<◌, List, [], ◌∷◌, refl, sym, ap, subst, ◌∙◌, arith}
use Rattle.std.specs.Prelude.{Bool, true, false, ◌&&◌, Result, Ok, Err, None, IsTrue, ◌↔◌, nat_lt}
use Rattle.std.specs.List.{All, AllByRecursion}
use Rattle.std.proofs.lemmas.Bool.{and_from, both_ways, lt-ltb}
use Rattle.std.proofs.lemmas.List.Elements.{recursion_from_All}
use Rattle.wse_path.specs.declared.change.Numbered.{Numbered}
use Rattle.wse_path.proofs.EntryLemmas.{and_parts}
use Rattle.wse_element.specs.declared.effect.Effect.{Effect}
use Rattle.wse_element.specs.State.{Kept, stacks_of}
use Rattle.wse_element.specs.Numbers.{is_bounded, are_some, are_versions_bounded, is_known_bounded}
use Rattle.wse_element.specs.Applicable.{first_refused_of_kept}
use Rattle.wse_element.specs.Linked.{IsLinked, IsKeptLinked}
use Rattle.wse_codec.specs.declared.snapshot.Snapshot.{Snapshot}
use Rattle.wse_codec.specs.Allowed.{numbers_of, IsAllowedVersion, IsAllowedState}
use Rattle.wse_codec.specs.Reading.{read_effects, read_snapshot}
use Rattle.wse_txn.specs.Replay as definitions
use Rattle.wse_txn.specs.Replay.{Replayed, replayed, kept_in, begun_with, GivesFirst, GivesNext}
use Rattle.wse_slow_reader.specs.declared.given.Given.{Given}
use Rattle.wse_slow_reader.specs.declared.given.Given.TheVariants.{Leaves, NoStore}
use Rattle.wse_slow_reader.specs.Given.{IsBegun, IsFirst, IsEntered, IsNext}

-- ---- the first record

some_each : (versions : List Numbered) → AllByRecursion IsAllowedVersion versions → are_some (numbers_of versions) ≡ true
some_each [] h = refl
some_each (v ∷ versions) h = and_from (nat_lt 0 v.number) (are_some (numbers_of versions)) (lt-ltb 0 v.number (omega (arith, h.0.some))) (some_each versions h.1)

pub are_some_allowed : (versions : List Numbered) → All IsAllowedVersion versions → are_some (numbers_of versions) ≡ true
are_some_allowed versions h = some_each versions (recursion_from_All IsAllowedVersion versions h)

module _ (s : Snapshot) where
  pub unbounded : (b : Bool) → b ≡ is_bounded (stacks_of (kept_in s)) → b ≡ false → IsKeptLinked (kept_in s) → ⊥
  unbounded b e h linked = both_ways b h (e ∙ linked.bounded)

  pub unlinked : (b : Bool) → IsTrue b ↔ IsLinked s.next_id s.elements → b ≡ false → IsKeptLinked (kept_in s) → ⊥
  unlinked b e h linked = both_ways b h (e.1 linked.records)

  pub versions_unbounded : (b : Bool) → b ≡ (are_versions_bounded s.serial (numbers_of s.versions) && is_known_bounded (numbers_of s.versions)) → b ≡ false → IsKeptLinked (kept_in s) → ⊥
  versions_unbounded b e h linked = both_ways b h (e ∙ (λ i. linked.versions i && linked.known i))

  pub kept_linked : (b l v : Bool) → IsAllowedState s → b ≡ is_bounded (stacks_of (kept_in s)) → b ≡ true → IsTrue l ↔ IsLinked s.next_id s.elements → l ≡ true
      → v ≡ (are_versions_bounded s.serial (numbers_of s.versions) && is_known_bounded (numbers_of s.versions)) → v ≡ true → IsKeptLinked (kept_in s)
  kept_linked b l v allowed eb hb el hl ev hv =
      let both = and_parts (are_versions_bounded s.serial (numbers_of s.versions)) (is_known_bounded (numbers_of s.versions)) (sym ev ∙ hv) in
      record {
        records = el.0 hl;
        rise = allowed.versions.rise;
        some = are_some_allowed s.versions allowed.versions.each;
        bounded = sym eb ∙ hb;
        versions = both.0;
        known = both.1;
      }

module _ (body : List ℕ) where
  pub first_unread : (at : ℕ) → read_snapshot body ≡ Err at → IsFirst body (NoStore (13 + at))
  first_unread at h = subst (λ (read : Result Snapshot ℕ). GivesFirst read (λ _. ⊥) (definitions.NoStoreAt (13 + at))) (sym h) refl

  pub first_begun : (s : Snapshot) (given : Given) → read_snapshot body ≡ Ok s → IsBegun s given → IsFirst body given
  first_begun s (Leaves left) h is = (s, h, is.0, is.1)
  first_begun s (NoStore at) h is =
      subst (λ (n : ℕ). IsFirst body (NoStore n)) (sym is.1)
      (subst (λ (read : Result Snapshot ℕ). GivesFirst read (λ _. ⊥) (definitions.NoStoreAt 8)) (sym h) (inr (is.0, refl)))

-- ---- each other one

module _ (kept : Kept) (gate : ℕ) (body : List ℕ) where
  pub next_unread : (at : ℕ) → read_effects body ≡ Err at → IsNext kept gate body (NoStore (gate + 5 + at))
  next_unread at h = subst (λ (read : Result (List Effect) ℕ). GivesNext kept gate read (λ _. ⊥) (definitions.NoStoreAt (gate + 5 + at))) (sym h) refl

  pub next_entered : (effects : List Effect) (given : Given) → read_effects body ≡ Ok effects → IsEntered kept gate effects given → IsNext kept gate body given
  next_entered effects (Leaves left) h is = (effects, h, is.0, is.1, is.2)
  next_entered effects (NoStore at) h is =
      subst (λ (n : ℕ). IsNext kept gate body (NoStore n)) (sym is.1)
      (subst (λ (read : Result (List Effect) ℕ). GivesNext kept gate read (λ _. ⊥) (definitions.NoStoreAt gate)) (sym h) (inr (is.0, refl)))
