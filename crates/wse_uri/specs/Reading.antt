-- The path below a root that a URI names. This project's own rule, on top of the URL Standard's parser.
use Rattle.std.specs.Prelude.{ℕ, not, ◌==◌, List, drop, length, position, Option, Some, None, Result, Ok, Err, if◌then◌else◌}
use Rattle.std.specs.List.{starts_with}
use Rattle.std.specs.Str.{bytes_eq, is_utf8}
use Rattle.url.specs.Parts.{Parts}
use Rattle.wse_path.specs.Path.{Path, refusal}
use Rattle.wse_path.specs.declared.path.PathRefused.{PathRefused}
use Rattle.wse_uri.specs.declared.refused.UriRefused.{UriRefused}
use Rattle.wse_uri.specs.declared.refused.UriRefused.TheVariants as refused
use Rattle.wse_uri.specs.FileUrl.{file_url}
use Rattle.wse_uri.specs.Segments.{segments_of}

-- The place of the first segment that isn't UTF-8.
abbrev pub first_escape : Path → Option ℕ
first_escape left = position (λ s. not (is_utf8 s)) left

abbrev pub path_unless : Option ℕ → Option PathRefused → Path → Result Path UriRefused
path_unless (Some segment) why left = Err (refused.Escape segment)
path_unless None (Some why) left = Err (refused.Path why)
path_unless None None left = Ok left

-- The segments left, where they are a path of text. Their places are counted below the root.
abbrev pub path_from : Path → Result Path UriRefused
path_from left =
    if length left == 0 then Err refused.IsRoot
    else path_unless (first_escape left) (refusal left) left

-- The segments behind those of the root, which are compared by their bytes.
abbrev pub path_below : Path → Path → Result Path UriRefused
path_below root segments =
    if starts_with bytes_eq segments root then path_from (drop (length root) segments)
    else Err refused.OutsideRoot

abbrev pub path_in : Parts → Result Parts UriRefused → Result Path UriRefused
path_in root (Ok url) = path_below (segments_of root.path) (segments_of url.path)
path_in root (Err why) = Err why

-- The path that the text names below the root, or the first cause against it.
abbrev pub path_of : Parts → List ℕ → Result Path UriRefused
path_of root text = path_in root (file_url text)
