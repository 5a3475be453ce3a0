use Rattle.std.proofs.Common.{◌++◌, ◌∷◌, [], length, ap, ◌∙◌, get_or, arith}
use Rattle.wse_codec.specs.Spelling.{segment_bytes, path_bytes}
use Rattle.wse_codec.proofs.WrittenLemmas.{item_more, put_all}
use Rattle.wse_codec.proofs.put_fields.put_path.Goals as goal

pub loop-at-preserved : goal.loop-at-preserved
loop-at-preserved c =
    c.in_ok-put_segment_at.ensures
    ∙ ap (λ t. t ++ segment_bytes (get_or c.args.path.now c.loop-at.at [])) c.loop-at.invariant
    ∙ item_more segment_bytes c.push.new.self.items c.args.path.now c.loop-at.at [] (omega (arith, c.loop-at-test.true, c.depth-depth.ensures.depth))

pub returns-clause-spelled : goal.returns-clause-spelled
unfolding path_bytes
returns-clause-spelled c =
    put_all segment_bytes c.args.path.now c.loop-at.at c.args.out.now.items (length c.args.path.now ∷ []) c.push.new.self.items c.loop-at.out.items
    (omega (arith, c.loop-at-test.false, c.depth-depth.ensures.depth))
    (c.in_ok-push.ensures.items ∙ ap (λ n. c.args.out.now.items ++ n ∷ []) c.depth-depth.ensures.depth)
    c.loop-at.invariant
