use Rattle.std.proofs.Common.{◌+◌, [], ◌∷◌, ◌++◌, drop, string_bytes, option_copied, String, Global, sym, ap, ◌∙◌}
use Rattle.std.proofs.lemmas.List.{map-append}
use Rattle.wse_path.specs.Path.{bytes_of}
use Rattle.wse_resource.proofs.MovesLemmas.{push_next}
use Rattle.wse_resource.proofs.moves.push_segments.Goals as goal

pub loop-index-preserved : goal.loop-index-preserved
loop-index-preserved c =
    let path = c.args.path.now in
    let i = c.loop-index.index in
    let front = c.loop-index.segments.items in
    let pushed = c.in_ok-from_str.field-0 in
    ap (λ ss. bytes_of ss ++ drop (i + 1) path) c.in_ok-push.ensures.items
    ∙ ap (λ b. b ++ drop (i + 1) path) (map-append (λ (s : String Global). string_bytes s) front (pushed ∷ []) ∙ ap (λ s. bytes_of front ++ s ∷ []) c.in_ok-from_str.ensures.ok)
    ∙ push_next (bytes_of front) path i c.unwrap.result.now (sym c.segment.ensures ∙ ap option_copied c.unwrap.ensures)
    ∙ c.loop-index.invariant
