use Rattle.std.proofs.Common.{length, arith}
use Rattle.std.specs.Int.{w32, to_be_bytes}
use Rattle.wse_codec.specs.Allowed.{IsAllowedVersion}
use Rattle.wse_codec.specs.Spelling.{version_bytes, versions_bytes}
use Rattle.wse_codec.proofs.ShortLemmas.{versions_count_short}
use Rattle.wse_codec.proofs.WrittenLemmas.{put_step, put_all}
use Rattle.wse_codec.proofs.put_versions.put_versions.Goals as goal

pub overflow_cast-versions : goal.overflow_cast-versions
overflow_cast-versions c = omega (arith, versions_count_short c.args.versions.now c.requires.short)

pub loop-version-preserved : goal.loop-version-preserved
loop-version-preserved c =
    put_step version_bytes IsAllowedVersion c.args.versions.now c.loop-version.version-index c.version-item.result c.put_u32.new.out.items c.loop-version.out.items c.put_version.new.out.items
    c.loop-version-test.true c.version-item.is c.in_ok-put_version.ensures.spelled c.in_ok-put_version.ensures.allowed c.loop-version.invariant

pub returns-clause-spelled : goal.returns-clause-spelled
unfolding versions_bytes
returns-clause-spelled c =
    put_all version_bytes c.args.versions.now c.loop-version.version-index c.args.out.now.items (to_be_bytes w32 (length c.args.versions.now)) c.put_u32.new.out.items c.loop-version.out.items
    c.loop-version-test.false c.in_ok-put_u32.ensures c.loop-version.invariant.0
