-- How the program ends. All of this is this project's own rule.
use Rattle.std.specs.Prelude.{◌≡◌, ◌⊎◌, ◌==◌, ℕ, List, [], ◌++◌, codes, decimal, Option}
use Rattle.wse_path.specs.Causes.{Rose}
use Rattle.wse_path.specs.Path.{Path, text_of}
use Rattle.wse_path.specs.declared.limits.Hit.{Hit}
use Rattle.wse_io.specs.Stream.{Piece, Adds, IsPrefix, bytes_of}
use Rattle.wse_stream.specs.Runs.{Ending}
use Rattle.wse_reply.specs.Limits.{limit_name}
use Rattle.wse_words.specs.Usage.{usage_text}
use Rattle.wse_run.specs.declared.end.RunEnd.{RunEnd}
use Rattle.wse_run.specs.declared.end.RunEnd.TheVariants.{Done, Read, Write, Disk, Memory, NotAStore, TooBig, InputLimit, Differs}
use Rattle.wsedit.specs.declared.status.Status.{Status}
use Rattle.wsedit.specs.declared.status.Status.TheVariants.{Words, Ran}

-- The number with which the program ends.
abbrev pub code_of_end : RunEnd → ℕ
code_of_end Done = 0
code_of_end Read = 3
code_of_end Write = 4
code_of_end Disk = 5
code_of_end Memory = 6
code_of_end (NotAStore at) = 7
code_of_end (TooBig hit) = 8
code_of_end (InputLimit limit) = 9
code_of_end (Differs p) = 10

abbrev pub code_of : Status → ℕ
code_of Words = 2
code_of (Ran end) = code_of_end end

-- No other status comes.
abbrev pub IsStatus : ℕ → Type 0
IsStatus status =
    (status ≡ 0) ⊎ (status ≡ 2) ⊎ (status ≡ 3) ⊎ (status ≡ 4) ⊎ (status ≡ 5) ⊎ (status ≡ 6) ⊎ (status ≡ 7) ⊎ (status ≡ 8) ⊎ (status ≡ 9) ⊎ (status ≡ 10)

-- What each status says of the run.
abbrev pub ending_by : ℕ → Ending
ending_by status = record {
  done = status == 0;
  read = status == 3;
  write = status == 4;
  disk = status == 5;
  memory = status == 6;
  passed = status == 9;
}

-- The first place at which it is no store.
abbrev pub no_store_line : ℕ → List ℕ
no_store_line at = codes "wsedit: not a store: byte " ++ (decimal at ++ codes "\n")

-- The limit's text, and the number that passes it.
abbrev pub too_big_line : Hit → List ℕ
too_big_line hit = (codes "wsedit: too big: " ++ (limit_name hit.which ++ codes " ")) ++ (decimal hit.would_be ++ codes "\n")

abbrev pub limit_line : ℕ → List ℕ
limit_line limit = codes "wsedit: input past " ++ (decimal limit ++ codes " bytes\n")

abbrev pub differs_line : Path → List ℕ
differs_line p = codes "wsedit: differs: " ++ (text_of p ++ codes "\n")

-- The line that tells people of an end.
abbrev pub line_of_end : RunEnd → List ℕ
line_of_end Done = []
line_of_end Read = codes "wsedit: reading failed\n"
line_of_end Write = codes "wsedit: writing failed\n"
line_of_end Disk = codes "wsedit: disk failed\n"
line_of_end Memory = codes "wsedit: out of memory\n"
line_of_end (NotAStore at) = no_store_line at
line_of_end (TooBig hit) = too_big_line hit
line_of_end (InputLimit limit) = limit_line limit
line_of_end (Differs p) = differs_line p

-- The same of a status. Where the words weren't understood, those that are come behind it.
abbrev pub line_of : Status → List ℕ
line_of Words = codes "wsedit: words not understood\n" ++ usage_text
line_of (Ran end) = line_of_end end

-- A front of the line came to the sink, and all of it where the sink didn't fail.
pub record TellsLine (line : List ℕ) (old new : Option (List Piece)) (faults_old faults_new : ℕ) : Type 0 where
  pub told : List Piece
  pub adds : Adds old new told
  pub front : IsPrefix (bytes_of told) line
  pub whole : (bytes_of told ≡ line) ⊎ Rose faults_old faults_new
