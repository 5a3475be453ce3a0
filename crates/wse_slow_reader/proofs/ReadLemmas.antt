-- What the whole image stands for.
use Rattle.std.proofs.Common.{◌≡◌, ℕ, List, [], refl, sym, subst}
use Rattle.wse_path.specs.Path.{Path}
use Rattle.wse_path.specs.Tree.{Entries}
use Rattle.wse_element.specs.State.{State, kept_of}
use Rattle.wse_disk.specs.Reading.{Reading}
use Rattle.wse_log.specs.Grammar.{JournalRecord, JournalEnd, ClosedAt, BrokenAt, IsJournal, Reads}
use Rattle.wse_txn.specs.Replay as definitions
use Rattle.wse_txn.specs.Replay.{Replayed, Gives}
use Rattle.wse_txn.specs.Stands.{StandsFor, IsNoStore, journal_of, finished}
use Rattle.wse_slow_reader.specs.declared.piece.Ending.{Ending}
use Rattle.wse_slow_reader.specs.declared.piece.Ending.TheVariants.{Closed, Broken}
use Rattle.wse_slow_reader.specs.declared.given.Given.TheVariants.{Leaves, NoStore}
use Rattle.wse_slow_reader.specs.Split.{end_of, place_of}
use Rattle.wse_slow_reader.specs.Given.{IsGiven}

-- ---- no record at all

no_records : (area : List ℕ) (ending : Ending) → Reads area [] (end_of ending) → IsGiven [] (end_of ending) (NoStore (place_of ending))
no_records area (Closed gate) reads = absurd (reads.ends.some refl)
no_records area (Broken at) reads = refl

pub given_none : (records : List JournalRecord) (ending : Ending) → records ≡ [] → (area : List ℕ) × Reads area records (end_of ending) → IsGiven records (end_of ending) (NoStore (place_of ending))
given_none records ending none reads =
    subst (λ (rs : List JournalRecord). IsGiven rs (end_of ending) (NoStore (place_of ending))) (sym none)
    (no_records reads.0 ending (subst (λ (rs : List JournalRecord). Reads reads.0 rs (end_of ending)) none reads.1))

-- ---- the image

pub stands : (image : Reading) (s : State) (left : Replayed) (records : List JournalRecord) (ending : JournalEnd) → Reads (journal_of image) records ending → IsGiven records ending (Leaves left)
    → left.kept ≡ kept_of s → s.files ≡ finished records left.sets image.files → StandsFor s image
stands image s left records ending reads given e files =
    let gate = given.0.0 in
    record {
      records = records;
      gate = gate;
      journal = subst (λ (end : JournalEnd). Reads (journal_of image) records end) given.0.1 reads;
      sets = left.sets;
      gives = subst (λ (end : JournalEnd). Gives records end (definitions.Leaves (record { kept = kept_of s; sets = left.sets }))) given.0.1
          (subst (λ (l : Replayed). Gives records ending (definitions.Leaves l)) (λ i. record { kept = e i; sets = left.sets }) given.1);
      files = files;
    }

pub stands_not : (image : Reading) (place : ℕ) (records : List JournalRecord) (ending : JournalEnd) → Reads (journal_of image) records ending → IsGiven records ending (NoStore place) → IsNoStore image place
stands_not image place records ending reads given = record { records = records; ending = ending; reads = reads; gives = given }
