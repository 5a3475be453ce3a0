use Rattle.std.proofs.Common.{length, arith}
use Rattle.std.specs.Int.{w32, to_be_bytes}
use Rattle.wse_codec.specs.Allowed.{IsAllowedElement}
use Rattle.wse_codec.specs.Spelling.{element_bytes, elements_bytes}
use Rattle.wse_codec.proofs.ShortLemmas.{elements_row_short, elements_count_short}
use Rattle.wse_codec.proofs.WrittenLemmas.{put_step, put_all, item_short}
use Rattle.wse_codec.proofs.put_elements.put_elements.Goals as goal

pub overflow_cast-elements : goal.overflow_cast-elements
overflow_cast-elements c = omega (arith, elements_count_short c.args.elements.now c.requires)

pub put_element-requires : goal.put_element-requires
put_element-requires c = item_short element_bytes c.args.elements.now c.loop-element.element-index c.element-item.result c.loop-element-test.true c.element-item.is (elements_row_short c.args.elements.now c.requires)

pub loop-element-preserved : goal.loop-element-preserved
loop-element-preserved c =
    put_step element_bytes IsAllowedElement c.args.elements.now c.loop-element.element-index c.element-item.result c.put_u32.new.out.items c.loop-element.out.items c.put_element.new.out.items
    c.loop-element-test.true c.element-item.is c.in_ok-put_element.ensures.spelled c.in_ok-put_element.ensures.allowed c.loop-element.invariant

pub returns-clause-spelled : goal.returns-clause-spelled
unfolding elements_bytes
returns-clause-spelled c =
    put_all element_bytes c.args.elements.now c.loop-element.element-index c.args.out.now.items (to_be_bytes w32 (length c.args.elements.now)) c.put_u32.new.out.items c.loop-element.out.items
    c.loop-element-test.false c.in_ok-put_u32.ensures c.loop-element.invariant.0
