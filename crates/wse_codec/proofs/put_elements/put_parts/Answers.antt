use Rattle.std.proofs.Common.{length, arith}
use Rattle.std.specs.Int.{w32, to_be_bytes}
use Rattle.wse_codec.specs.Allowed.{IsAllowedPart}
use Rattle.wse_codec.specs.Spelling.{part_bytes, parts_bytes}
use Rattle.wse_codec.proofs.ShortLemmas.{parts_row_short, parts_count_short}
use Rattle.wse_codec.proofs.WrittenLemmas.{put_step, put_all, item_short}
use Rattle.wse_codec.proofs.put_elements.put_parts.Goals as goal

pub overflow_cast-parts : goal.overflow_cast-parts
overflow_cast-parts c = omega (arith, parts_count_short c.args.parts.now c.requires)

pub put_part-requires : goal.put_part-requires
put_part-requires c = item_short part_bytes c.args.parts.now c.loop-part.part-index c.part-item.result c.loop-part-test.true c.part-item.is (parts_row_short c.args.parts.now c.requires)

pub loop-part-preserved : goal.loop-part-preserved
loop-part-preserved c =
    put_step part_bytes IsAllowedPart c.args.parts.now c.loop-part.part-index c.part-item.result c.put_u32.new.out.items c.loop-part.out.items c.put_part.new.out.items
    c.loop-part-test.true c.part-item.is c.in_ok-put_part.ensures.spelled c.in_ok-put_part.ensures.allowed c.loop-part.invariant

pub returns-clause-spelled : goal.returns-clause-spelled
unfolding parts_bytes
returns-clause-spelled c =
    put_all part_bytes c.args.parts.now c.loop-part.part-index c.args.out.now.items (to_be_bytes w32 (length c.args.parts.now)) c.put_u32.new.out.items c.loop-part.out.items
    c.loop-part-test.false c.in_ok-put_u32.ensures c.loop-part.invariant.0
