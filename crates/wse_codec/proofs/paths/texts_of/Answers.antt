use Rattle.std.proofs.Common.{◌≡◌, ℕ, List, Vec, Global, Some, IsUtf8, ap, ◌∙◌, sym, subst, arith, get_or}
use Rattle.std.specs.List.{All}
use Rattle.std.proofs.lemmas.Grind.{common_steps}
use Rattle.std.proofs.lemmas.List.{take_all}
use Rattle.std.proofs.lemmas.List.Elements.{All-more, All-map}
use Rattle.wse_path.specs.Path.{Path}
use Rattle.wse_codec.specs.Gives.{bytes_in}
use Rattle.wse_codec.proofs.TextLemmas.{texts_some, texts_none}
use Rattle.wse_codec.proofs.paths.texts_of.Goals as goal

pub returns-in-Err : goal.returns-in-Err
returns-in-Err c =
    let bytes : c.deref.result.now ≡ (get_or c.args.segments.now c.loop-segment.segment-index c.segment-item.result).items = c.deref.ensures.value ∙ ap (λ (s : Vec ℕ Global). s.items) c.segment-item.is in
    texts_none c.args.segments.now c.loop-segment.segment-index c.segment-item.result c.loop-segment-test.true (λ u. c.in-Err.ensures.cases.0 (subst IsUtf8 (sym bytes) u))

pub loop-segment-preserved : goal.loop-segment-preserved
loop-segment-preserved c =
    let bytes : c.deref.result.now ≡ (get_or c.args.segments.now c.loop-segment.segment-index c.segment-item.result).items = c.deref.ensures.value ∙ ap (λ (s : Vec ℕ Global). s.items) c.segment-item.is in (
      grind (arith, common_steps, bytes),
      All-more (λ s. IsUtf8 s.items) c.args.segments.now c.loop-segment.segment-index c.segment-item.result c.loop-segment-test.true c.loop-segment.invariant.1 (subst IsUtf8 bytes c.in-Ok.ensures.cases.1),
    )

pub returns : goal.returns
returns c =
    let whole = take_all c.loop-segment.segment-index c.args.segments.now c.loop-segment-test.false in
    texts_some (bytes_in c.args.segments.now) (All-map IsUtf8 (λ s. s.items) c.args.segments.now (subst (All (λ (s : Vec ℕ Global). IsUtf8 s.items)) whole c.loop-segment.invariant.1))
    ∙ ap (λ (p : Path). Some p) (sym (c.loop-segment.invariant.0 ∙ ap (λ (ss : List (Vec ℕ Global)). bytes_in ss) whole))
