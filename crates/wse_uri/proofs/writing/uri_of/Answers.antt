use Rattle.std.proofs.Common.{◌++◌, [], ◌∷◌, option_copied, arith, sym, ap, ◌∙◌}
use Rattle.std.specs.Io.BufRead.{strip_last}
use Rattle.url.specs.Parts.{serialize}
use Rattle.wse_uri.specs.Writing.{escaped}
use Rattle.wse_uri.proofs.WritingLemmas.{is_there, uri_next}
use Rattle.wse_uri.proofs.writing.uri_of.Goals as goal

pub unwrap-requires : goal.unwrap-requires
unwrap-requires c = is_there c.args.path.now c.loop-index.index c.segment.result c.segment.ensures (omega arith)

pub loop-index-preserved : goal.loop-index-preserved
unfolding lib.Utf8.encode
loop-index-preserved c =
    c.in_ok-push_escaped.ensures
    ∙ ap (λ t. t ++ escaped c.unwrap.result.now) (c.in_ok-push.ensures.bytes ∙ ap (λ t. t ++ 47 ∷ []) c.loop-index.invariant)
    ∙ uri_next (strip_last 47 (serialize c.args.root.now)) c.args.path.now c.loop-index.index c.unwrap.result.now (sym c.segment.ensures ∙ ap option_copied c.unwrap.ensures)
