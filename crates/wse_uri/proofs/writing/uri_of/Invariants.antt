use Rattle.std.proofs.Common.{◌≡◌, ◌++◌, string_bytes, take}
use Rattle.std.specs.Io.BufRead.{strip_last}
use Rattle.url.specs.Parts.{serialize}
use Rattle.wse_uri.specs.Writing.{escaped_path}
use Rattle.wse_uri.proofs.writing.uri_of.Given as goal

abbrev pub invariant-loop-index : goal.invariant-loop-index
invariant-loop-index l = string_bytes l.uri ≡ strip_last 47 (serialize l.root) ++ escaped_path (take l.index l.path)
