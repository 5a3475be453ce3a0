-- The paths of a store, as JSON with the members in byte order of their names. This project's own rule.
use Rattle.std.specs.Prelude.{ℕ, List, [], ◌++◌, map, length, codes, Option, Some, None, option_map}
use Rattle.std.specs.List.{flat_map}
use Rattle.serde_json.specs.Data.{Data, no_members, member, object, null, number, string, unsigned}
use Rattle.wse_path.specs.Path.{Path, text_of}
use Rattle.wse_path.specs.PathMap.{put_each}
use Rattle.wse_path.specs.Tree.{Entries, content}
use Rattle.wse_path.specs.Versions.{Numbers, version_of}
use Rattle.wse_show.specs.Line.{line_of}

-- The files' paths with their versions.
abbrev pub with_versions : Numbers → Entries → Numbers
with_versions versions files = map (λ e. (e.0, version_of versions e.0)) files

-- Each path that is a file or has a version entry, with its version, in path order.
abbrev pub numbered : Entries → Numbers → Numbers
numbered files versions = put_each (versions ++ with_versions versions files) []

-- How many bytes the file has, or null where there is none.
abbrev pub bytes_data : Option ℕ → Data
bytes_data (Some bytes) = number (unsigned bytes)
bytes_data None = null

-- What is told of a path: its bytes, its text and its version.
abbrev pub file_data : (bytes : Option ℕ) → Path → (version : ℕ) → Data
file_data bytes p version = object
    (member (codes "bytes") (bytes_data bytes)
    (member (codes "path") (string (text_of p))
    (member (codes "version") (number (unsigned version)) no_members)))

abbrev pub file_line : Entries → Path × ℕ → List ℕ
file_line files e = line_of (file_data (option_map length (content files e.0)) e.0 e.1)

-- A line for each of these paths.
abbrev pub files_text : Entries → Numbers → List ℕ
files_text files versions = flat_map (file_line files) (numbered files versions)
