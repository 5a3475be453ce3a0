-- The URI that is written for a path below a root, and that it names this path.
use Rattle.std.specs.Prelude.{◌≡◌, ℕ, Bool, ◌||◌, ◌==◌, List, [], ◌∷◌, ◌++◌, flat_map, All, None, Ok, if◌then◌else◌}
use Rattle.std.specs.Char.{is_ascii_alphanumeric}
use Rattle.std.specs.Io.BufRead.{strip_last}
use Rattle.std.specs.Str.{IsUtf8}
use Rattle.percent_encoding.specs.Percent.{percent_encode_byte}
use Rattle.url.specs.Parts.{Parts, serialize, IsValid}
use Rattle.url.specs.Parser.{parse_url}
use Rattle.wse_path.specs.Path.{Path, IsPath}
use Rattle.wse_uri.specs.FileUrl.{IsPlainFileUrl}
use Rattle.wse_uri.specs.Reading.{path_of}

-- An ASCII letter or digit, `-`, `.`, `_` or `~`, which stand for themselves in a URI (RFC 3986, section 2.3).
abbrev pub is_unreserved : ℕ → Bool
is_unreserved b = is_ascii_alphanumeric b || b == 45 || b == 46 || b == 95 || b == 126

-- An unreserved byte as it is, and any other as `%` and its two upper-case hexadecimal digits.
abbrev pub escaped_byte : ℕ → List ℕ
escaped_byte b = if is_unreserved b then b ∷ [] else percent_encode_byte b

-- The text of a segment in a URI.
abbrev pub escaped : List ℕ → List ℕ
escaped segment = flat_map escaped_byte segment

-- Each segment behind a `/`.
abbrev pub escaped_path : Path → List ℕ
escaped_path path = flat_map (λ segment. 47 ∷ escaped segment) path

-- The root's text without one final `/`, and then the path. This project's own rule.
abbrev pub uri_of : Parts → Path → List ℕ
uri_of root path = strip_last 47 (serialize root) ++ escaped_path path

-- The URL Standard reads the URI as a file URL without host, query and fragment whose path is the root's without one
-- final `/`, and then the same segments.
pub record ReadsBack (root : Parts) (path : Path) : Type 0 where
  pub url : Parts
  pub reads : parse_url None (uri_of root path) ≡ Ok url
  pub plain : IsPlainFileUrl url
  pub keeps : url.path ≡ strip_last 47 root.path ++ escaped_path path

-- A URI that is read back so names the path for which it was written.
abbrev pub UriNamesItsPath : Type 0
UriNamesItsPath =
    (root : Parts) (path : Path) → IsValid root → IsPlainFileUrl root → IsPath path → All IsUtf8 path
    → ReadsBack root path → path_of root (uri_of root path) ≡ Ok path
