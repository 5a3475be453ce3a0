-- Why a URI names no path below the root, and a text no root, in words. This project's own rule.
use Rattle.std.specs.Prelude.{ℕ, List, ◌++◌, codes, decimal}
use Rattle.wse_path.specs.Path.{words_of}
use Rattle.wse_uri.specs.declared.refused.UriRefused.{UriRefused}
use Rattle.wse_uri.specs.declared.refused.UriRefused.TheVariants as uris
use Rattle.wse_uri.specs.declared.refused.RootRefused.{RootRefused}
use Rattle.wse_uri.specs.declared.refused.RootRefused.TheVariants as roots

-- A URI's segments are never refused for being none: it is the root then.
abbrev pub uri_text : UriRefused → List ℕ
uri_text uris.NotUrl = codes "not a URL"
uri_text uris.NotFile = codes "not a file URI"
uri_text uris.HasHost = codes "has a host"
uri_text uris.HasQuery = codes "has a query"
uri_text uris.HasFragment = codes "has a fragment"
uri_text uris.OutsideRoot = codes "outside the root"
uri_text uris.IsRoot = codes "is the root"
uri_text (uris.Escape segment) = codes "segment " ++ (decimal segment ++ codes " is not UTF-8")
uri_text (uris.Path why) = words_of why
uri_text uris.Memory = codes "out of memory"

abbrev pub root_text : RootRefused → List ℕ
root_text roots.NotARoot = codes "not a file URL without host, query and fragment"
root_text roots.Memory = codes "out of memory"
