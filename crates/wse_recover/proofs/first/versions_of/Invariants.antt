use Rattle.std.proofs.Common.{◌≡◌, []}
use Rattle.std.specs.List.{All}
use Rattle.wse_recover.specs.Versions.{with_firsts, HasShortText}
use Rattle.wse_recover.proofs.first.versions_of.Given as goal

abbrev pub invariant-loop-path : goal.invariant-loop-path
invariant-loop-path l = record {
  all : with_firsts [] l.fn.paths.items ≡ with_firsts l.versions.items l.path-iterator.rest.items;
  short : All HasShortText l.versions.items;
}
