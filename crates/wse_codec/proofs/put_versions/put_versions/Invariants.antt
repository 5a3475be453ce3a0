use Rattle.wse_codec.specs.Allowed.{IsAllowedVersion}
use Rattle.wse_codec.specs.Spelling.{version_bytes}
use Rattle.wse_codec.proofs.WrittenLemmas.{IsSpelledSoFar}
use Rattle.wse_codec.proofs.put_versions.put_versions.Given as goal

abbrev pub invariant-loop-version : goal.invariant-loop-version
invariant-loop-version l = IsSpelledSoFar version_bytes IsAllowedVersion l.versions l.version-index l.initial.out.items l.out.items
