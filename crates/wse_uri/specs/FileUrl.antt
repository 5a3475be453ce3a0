-- File URLs, read as the URL Standard reads a text.
use Rattle.std.specs.Prelude.{◌≡◌, ℕ, false, not, List, codes, None, is_some, Result, Ok, Err, if◌then◌else◌}
use Rattle.std.specs.Str.{bytes_eq}
use Rattle.url.specs.Parts.{Parts, has_host}
use Rattle.url.specs.Parser.{Parsed, parse_url}
use Rattle.wse_uri.specs.declared.refused.UriRefused.{UriRefused}
use Rattle.wse_uri.specs.declared.refused.UriRefused.TheVariants as refused
use Rattle.wse_uri.specs.declared.refused.RootRefused.{RootRefused}
use Rattle.wse_uri.specs.declared.refused.RootRefused.TheVariants as roots

-- A file URL without host, query and fragment, which is what a root is. A query or fragment that is empty is there.
pub record IsPlainFileUrl (url : Parts) : Type 0 where
  pub file : url.scheme ≡ codes "file"
  pub no_host : has_host url ≡ false
  pub no_query : url.query ≡ None
  pub no_fragment : url.fragment ≡ None

-- The text parses to a file URL without host, query and fragment.
abbrev pub IsRootText : List ℕ → Type 0
IsRootText text = (url : Parts) × (parse_url None text ≡ Ok url) × IsPlainFileUrl url

-- The URL, or the first thing that is wrong with it, in this order.
abbrev pub plain_file_url : Parts → Result Parts UriRefused
plain_file_url url =
    if not (bytes_eq url.scheme (codes "file")) then Err refused.NotFile
    else (if has_host url then Err refused.HasHost
    else (if is_some url.query then Err refused.HasQuery
    else (if is_some url.fragment then Err refused.HasFragment
    else Ok url)))

abbrev pub file_url_if : Parsed Parts → Result Parts UriRefused
file_url_if (Ok url) = plain_file_url url
file_url_if (Err why) = Err refused.NotUrl

-- The file URL that the text parses to, or the first thing that is wrong with the text.
abbrev pub file_url : List ℕ → Result Parts UriRefused
file_url text = file_url_if (parse_url None text)

-- A text that is refused is no root, whatever is wrong with it.
abbrev pub root_refusal : UriRefused → RootRefused
root_refusal refused.Memory = roots.Memory
root_refusal why = roots.NotARoot

-- Below a text that is no root no URI names a path: it is outside.
abbrev pub uri_refusal : RootRefused → UriRefused
uri_refusal roots.NotARoot = refused.OutsideRoot
uri_refusal roots.Memory = refused.Memory
