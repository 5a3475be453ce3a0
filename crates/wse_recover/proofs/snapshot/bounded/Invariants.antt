use Rattle.std.proofs.Common.{◌≡◌, ◌++◌, true}
use Rattle.wse_element.specs.Numbers.{are_versions_bounded}
use Rattle.wse_codec.specs.Allowed.{numbers_of}
use Rattle.wse_recover.proofs.snapshot.bounded.Given as goal

abbrev pub invariant-loop-version : goal.invariant-loop-version
invariant-loop-version l = record {
  parts : numbers_of l.fn.versions ≡ l.all.items ++ numbers_of l.version-iterator.rest.items;
  bounded : are_versions_bounded l.serial l.all.items ≡ true;
}
