-- An image stands for one state, or is no store, in one place.
use Rattle.std.proofs.Common.{◌≡◌, ℕ, List, sym, ap, subst, ◌∙◌}
use Rattle.wse_path.specs.Path.{Path}
use Rattle.wse_element.specs.Content.{Content}
use Rattle.wse_element.specs.State.{State, kept_of}
use Rattle.wse_disk.specs.Reading.{Reading}
use Rattle.wse_log.specs.Grammar.{JournalRecord, JournalEnd, ClosedAt}
use Rattle.wse_log.proofs.OneReading.{one_reading}
use Rattle.wse_txn.specs.Replay.{Replayed, Given, Leaves, NoStoreAt, Gives}
use Rattle.wse_txn.specs.Stands.{StandsFor, IsNoStore, IsSameButLocks, journal_of, finished}
use Rattle.wse_txn.specs.Laws.{ImagesStandForOne}
use Rattle.wse_txn.proofs.ReplayLemmas.{gives_once, same_left, leaves_no_fault}

abbrev left_of : State → List (Path × Content) → Replayed
left_of s sets = record { kept = kept_of s; sets = sets }

-- Two readings of an area give the same.
given_once : (area : List ℕ) (a b : List JournalRecord) (e f : JournalEnd) (x y : Given) → (a ≡ b) × (e ≡ f) → Gives a e x → Gives b f y → x ≡ y
given_once area a b e f x y same p q =
    gives_once b f x y
    (subst (λ (rs : List JournalRecord). Gives rs f x) same.0 (subst (λ (end : JournalEnd). Gives a end x) same.1 p)) q

module _ (image : Reading) (s t : State) (a : StandsFor s image) (b : StandsFor t image) where
  same_reading : (a.records ≡ b.records) × (ClosedAt a.gate ≡ ClosedAt b.gate)
  same_reading = one_reading (journal_of image) a.records b.records (ClosedAt a.gate) (ClosedAt b.gate) a.journal b.journal

  same_replayed : left_of s a.sets ≡ left_of t b.sets
  same_replayed =
      same_left (left_of s a.sets) (left_of t b.sets)
      (given_once (journal_of image) a.records b.records (ClosedAt a.gate) (ClosedAt b.gate) (Leaves (left_of s a.sets)) (Leaves (left_of t b.sets)) same_reading a.gives b.gives)

  same_state : IsSameButLocks s t
  same_state = record {
    kept = ap (λ (r : Replayed). r.kept) same_replayed;
    files = a.files
        ∙ ap (λ (rs : List JournalRecord). finished rs a.sets image.files) same_reading.0
        ∙ ap (λ (r : Replayed). finished b.records r.sets image.files) same_replayed
        ∙ sym b.files;
  }

never : (s : State) (image : Reading) (place : ℕ) → StandsFor s image → IsNoStore image place → ⊥
never s image place a b =
    let same = one_reading (journal_of image) a.records b.records (ClosedAt a.gate) b.ending a.journal b.reads in
    leaves_no_fault (left_of s a.sets) place
    (given_once (journal_of image) a.records b.records (ClosedAt a.gate) b.ending (Leaves (left_of s a.sets)) (NoStoreAt place) same a.gives b.gives)

place_in : Given → ℕ
place_in (Leaves left) = 0
place_in (NoStoreAt place) = place

one_place : (image : Reading) (p q : ℕ) → IsNoStore image p → IsNoStore image q → p ≡ q
unfolding place_in
one_place image p q a b =
    let same = one_reading (journal_of image) a.records b.records a.ending b.ending a.reads b.reads in
    ap place_in (given_once (journal_of image) a.records b.records a.ending b.ending (NoStoreAt p) (NoStoreAt q) same a.gives b.gives)

-- Locks don't matter.
pub stands_alike : (s t : State) (image : Reading) → IsSameButLocks s t → StandsFor s image → StandsFor t image
stands_alike s t image same a = record {
  records = a.records;
  gate = a.gate;
  journal = a.journal;
  sets = a.sets;
  gives = subst (λ kept. Gives a.records (ClosedAt a.gate) (Leaves (record { kept = kept; sets = a.sets }))) same.kept a.gives;
  files = sym same.files ∙ a.files;
}

pub stands_for_one : ImagesStandForOne
stands_for_one = record {
  one = λ s t image a b. same_state image s t a b;
  alike = stands_alike;
  never = never;
  place = one_place;
}
