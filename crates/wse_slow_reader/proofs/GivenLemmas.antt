-- What records give, one behind the other.
use Rattle.std.proofs.Common.{◌≡◌, ◌⊎◌, inl, inr, ℕ, ◌+◌, ◌<◌, ◌≤◌, List, [], ◌∷◌, length, drop, get_or, true, refl, sym, ap, subst, ◌∙◌, arith}
use Rattle.std.specs.Prelude.{Result, Ok, Err, None, sum_by}
use Rattle.std.proofs.lemmas.List.{drop_all, drop_more}
use Rattle.std.proofs.lemmas.List.Sums.{sum_by-drop_more}
use Rattle.wse_element.specs.declared.effect.Effect.{Effect}
use Rattle.wse_element.specs.State.{Kept, stacks_of}
use Rattle.wse_element.specs.Numbers.{is_bounded}
use Rattle.wse_element.specs.Linked.{IsKeptLinked}
use Rattle.wse_codec.specs.declared.snapshot.Snapshot.{Snapshot}
use Rattle.wse_codec.specs.Reading.{read_effects, read_snapshot}
use Rattle.wse_log.specs.Grammar.{JournalRecord, JournalEnd, ClosedAt, BrokenAt}
use Rattle.wse_log.specs.Writing.{next_gate}
use Rattle.wse_txn.specs.Replay as definitions
use Rattle.wse_txn.specs.Replay.{Replayed, replayed, kept_in, begun_with, GivesFirst, GivesNext, GivesBehind, Gives}
use Rattle.wse_slow_reader.specs.declared.given.Given.{Given}
use Rattle.wse_slow_reader.specs.declared.given.Given.TheVariants.{Leaves, NoStore}
use Rattle.wse_slow_reader.specs.Split.{length_of}
use Rattle.wse_slow_reader.specs.Given.{IsFirst, IsNext, IsGiven, IsGivenBehind}

-- ---- the first record

fails_first : (read : Result Snapshot ℕ) (GoesOn : Replayed → Type 0) (given : definitions.Given) → GivesFirst read (λ _. ⊥) given → GivesFirst read GoesOn given
fails_first (Err at) GoesOn given h = h
fails_first (Ok s) GoesOn given (inl p) = absurd p.1
fails_first (Ok s) GoesOn given (inr q) = inr q

module _ (r : JournalRecord) (more : List JournalRecord) (ending : JournalEnd) where
  pub gives_no_first : (at : ℕ) → IsFirst r.body (NoStore at) → Gives (r ∷ more) ending (definitions.NoStoreAt at)
  gives_no_first at h = fails_first (read_snapshot r.body) (λ left. GivesBehind left (next_gate 8 r.body) more ending (definitions.NoStoreAt at)) (definitions.NoStoreAt at) h

  pub gives_first : (left : Replayed) (given : definitions.Given) → IsFirst r.body (Leaves left) → GivesBehind left (next_gate 8 r.body) more ending given → Gives (r ∷ more) ending given
  gives_first left given h goes =
      let Behind : Replayed → Type 0 = λ l. GivesBehind l (next_gate 8 r.body) more ending given in
      subst (λ (read : Result Snapshot ℕ). GivesFirst read Behind given) (sym h.1) (inl (h.2, subst Behind h.3 goes))

pub bounded_first : (body : List ℕ) (left : Replayed) → IsFirst body (Leaves left) → is_bounded (stacks_of left.kept) ≡ true
bounded_first body left h = ap (λ (l : Replayed). is_bounded (stacks_of l.kept)) h.3 ∙ h.2.bounded

-- ---- each other one

fails_next : (kept : Kept) (gate : ℕ) (read : Result (List Effect) ℕ) (GoesOn : Replayed → Type 0) (given : definitions.Given) → GivesNext kept gate read (λ _. ⊥) given → GivesNext kept gate read GoesOn given
fails_next kept gate (Err at) GoesOn given h = h
fails_next kept gate (Ok effects) GoesOn given (inl p) = absurd p.1
fails_next kept gate (Ok effects) GoesOn given (inr q) = inr q

-- these records were looked at, and what goes on from here gives what all give
abbrev pub GoesFrom : Replayed → ℕ → List JournalRecord → JournalEnd → (now : Replayed) → (gate : ℕ) → (more : List JournalRecord) → Type 0
GoesFrom begun place records ending now gate more = (given : definitions.Given) → GivesBehind now gate more ending given → GivesBehind begun place records ending given

module _ (begun : Replayed) (place : ℕ) (records : List JournalRecord) (ending : JournalEnd) (now : Replayed) (gate i : ℕ) (r : JournalRecord) where
  there : i < length records → r ≡ get_or records i r → drop i records ≡ r ∷ drop (i + 1) records
  there l is = drop_more records i r l ∙ ap (λ x. x ∷ drop (i + 1) records) (sym is)

  pub goes_more : (next : Replayed) (later : ℕ) → i < length records → r ≡ get_or records i r → later ≡ next_gate gate r.body → IsNext now.kept gate r.body (Leaves next)
      → GoesFrom begun place records ending now gate (drop i records) → GoesFrom begun place records ending next later (drop (i + 1) records)
  goes_more next later l is e h goes = λ given rest.
      let Behind : Replayed → Type 0 = λ n. GivesBehind n (next_gate gate r.body) (drop (i + 1) records) ending given in
      let here : GivesBehind now gate (r ∷ drop (i + 1) records) ending given =
      subst (λ (read : Result (List Effect) ℕ). GivesNext now.kept gate read Behind given) (sym h.1)
      (inl (h.2, subst Behind h.3 (subst (λ (n : ℕ). GivesBehind next n (drop (i + 1) records) ending given) e rest))) in
      goes given (subst (λ (rs : List JournalRecord). GivesBehind now gate rs ending given) (sym (there l is)) here)

  pub goes_no_more : (at : ℕ) → i < length records → r ≡ get_or records i r → IsNext now.kept gate r.body (NoStore at)
      → GoesFrom begun place records ending now gate (drop i records) → GivesBehind begun place records ending (definitions.NoStoreAt at)
  goes_no_more at l is h goes =
      let given : definitions.Given = definitions.NoStoreAt at in
      let here : GivesBehind now gate (r ∷ drop (i + 1) records) ending given =
      fails_next now.kept gate (read_effects r.body) (λ n. GivesBehind n (next_gate gate r.body) (drop (i + 1) records) ending given) given h in
      goes given (subst (λ (rs : List JournalRecord). GivesBehind now gate rs ending given) (sym (there l is)) here)

  pub length_more : i < length records → r ≡ get_or records i r → length_of (drop i records) ≡ 6 + length r.body + length_of (drop (i + 1) records)
  length_more l is =
      sum_by-drop_more (λ (x : JournalRecord). 6 + length x.body) records i r l
      ∙ ap (λ (x : JournalRecord). 6 + length x.body + length_of (drop (i + 1) records)) (sym is)

module _ (begun : Replayed) (place : ℕ) (records : List JournalRecord) (now : Replayed) (gate i : ℕ) where
  pub goes_closed : (end : ℕ) → length records ≤ i → GoesFrom begun place records (ClosedAt end) now gate (drop i records) → IsGivenBehind begun place records (ClosedAt end) (Leaves now)
  goes_closed end l goes = ((end, refl), goes (definitions.Leaves now) (subst (λ (rs : List JournalRecord). GivesBehind now gate rs (ClosedAt end) (definitions.Leaves now)) (sym (drop_all i records l)) refl))

  pub goes_broken : (at : ℕ) → length records ≤ i → GoesFrom begun place records (BrokenAt at) now gate (drop i records) → IsGivenBehind begun place records (BrokenAt at) (NoStore at)
  goes_broken at l goes = goes (definitions.NoStoreAt at) (subst (λ (rs : List JournalRecord). GivesBehind now gate rs (BrokenAt at) (definitions.NoStoreAt at)) (sym (drop_all i records l)) refl)

-- ---- from the first on

next_is : (r : JournalRecord) → 14 + length r.body ≡ next_gate 8 r.body
next_is r = omega arith

pub given_from : (r : JournalRecord) (others : List JournalRecord) (ending : JournalEnd) (left : Replayed) (gate : ℕ) (given : Given) → IsFirst r.body (Leaves left) → gate ≡ 14 + length r.body
    → IsGivenBehind left gate others ending given → IsGiven (r ∷ others) ending given
given_from r others ending left gate (Leaves next) first e h =
    (h.0, gives_first r others ending left (definitions.Leaves next) first (subst (λ (n : ℕ). GivesBehind left n others ending (definitions.Leaves next)) (e ∙ next_is r) h.1))
given_from r others ending left gate (NoStore at) first e h =
    gives_first r others ending left (definitions.NoStoreAt at) first (subst (λ (n : ℕ). GivesBehind left n others ending (definitions.NoStoreAt at)) (e ∙ next_is r) h)
