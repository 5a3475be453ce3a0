-- The journal of a new store. This project's own format.
use Rattle.std.specs.Prelude.{◌≡◌, ℕ, ◌^◌, ◌<◌, true, List, [], map, length, Option}
use Rattle.wse_path.specs.Tree.{Entries}
use Rattle.wse_path.specs.declared.change.Numbered.{Numbered}
use Rattle.wse_element.specs.Numbers.{is_known_bounded}
use Rattle.wse_codec.specs.declared.snapshot.Snapshot.{Snapshot}
use Rattle.wse_codec.specs.Allowed.{IsAllowedState, numbers_of}
use Rattle.wse_codec.specs.Spelling.{state_bytes}
use Rattle.wse_disk.specs.Standing.{Standing}
use Rattle.wse_disk.specs.Told.{WhereTold}
use Rattle.wse_log.specs.Writing.{fresh_journal}

-- Each file has the version 1.
abbrev pub first_versions : Entries → List Numbered
first_versions files = map (λ e. record { path = e.0; number = 1 }) files

-- What the journal of a new store over these files begins with.
abbrev pub first_state : Entries → Snapshot
first_state files = record { serial = 0; next_id = 1; versions = first_versions files; elements = [] }

-- The bytes are the journal of a new store over these files.
pub record SpellsNew (files : Entries) (bytes : List ℕ) : Type 0 where
  pub spelled : bytes ≡ fresh_journal (state_bytes (first_state files))
  pub short : length (state_bytes (first_state files)) < 2 ^ 32
  pub allowed : IsAllowedState (first_state files)
  pub known : is_known_bounded (numbers_of (first_versions files)) ≡ true

-- They are that over the files that are read.
abbrev pub SpellsNewStore : Option Standing → List ℕ → Type 0
SpellsNewStore told bytes = WhereTold told (λ s. SpellsNew s.reading.files bytes)
