-- A journal that is read record by record.
use Rattle.std.specs.Prelude.{◌≡◌, ◌≢◌, ℕ, List, [], ◌++◌, length, Option}
use Rattle.wse_log.specs.Grammar.{JournalRecord, JournalEnd, front}
use Rattle.wse_txn.specs.Replay.{Replayed, Given, GivesBehind, Gives}
use Rattle.wse_recover.specs.declared.unsettled.Unsettled.{Unsettled}
use Rattle.wse_recover.specs.Unsettled.{IsLast}

-- Some of these records were read, up to the gate at this place, and left so much: what the others give behind that is what
-- all of them give. The last one of those that were read is settled, or is `last`.
pub record IsReplayed (records : List JournalRecord) (ending : JournalEnd) (place : ℕ) (left : Replayed) (last : Option Unsettled) : Type 0 where
  pub before : List JournalRecord
  pub more : List JournalRecord
  pub some : before ≢ []
  pub all : records ≡ before ++ more
  pub gate : place ≡ length (front before)
  pub goes : (given : Given) → GivesBehind left place more ending given → Gives records ending given
  pub ends : IsLast before left last
