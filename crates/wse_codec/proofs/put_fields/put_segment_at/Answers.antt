use Rattle.std.proofs.Common.{sym}
use Rattle.std.proofs.lemmas.Result.{on_ok_weaker}
use Rattle.wse_codec.proofs.SegmentLemmas.{short, written_at, no_place}
use Rattle.wse_codec.proofs.put_fields.put_segment_at.Goals as goal

pub put_segment-requires : goal.put_segment-requires
put_segment-requires c = short c.args.path.now c.args.at c.in-Some.segment.now c.requires.path (sym c.in-Some.ensures)

pub returns-in-Some : goal.returns-in-Some
returns-in-Some c =
    on_ok_weaker c.put_segment.result (written_at c.args.path.now c.args.at c.in-Some.segment.now c.args.out.now.items c.put_segment.new.out.items (sym c.in-Some.ensures)) c.put_segment.ensures

pub returns-in-None : goal.returns-in-None
returns-in-None c = absurd (no_place c.args.path.now c.args.at c.requires.within (sym c.in-None.ensures))
