use Rattle.std.proofs.Common.{◌≡◌, take}
use Rattle.wse_codec.specs.Allowed.{numbers_of}
use Rattle.wse_slow_reader.proofs.first.numbers.Given as goal

abbrev pub invariant-loop-version : goal.invariant-loop-version
invariant-loop-version l = l.all.items ≡ numbers_of (take l.version-index l.versions)
