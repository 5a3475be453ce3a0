use Rattle.std.proofs.Common.{◌≡◌, ℕ, Vec, Global, IsUtf8, refl, inr, ap, ◌∙◌, sym, subst, arith, get_or}
use Rattle.std.specs.List.{All}
use Rattle.std.proofs.lemmas.Grind.{common_steps}
use Rattle.std.proofs.lemmas.List.{take_all}
use Rattle.std.proofs.lemmas.List.Elements.{All-more, All-map}
use Rattle.wse_uri.specs.Segments.{bytes_in}
use Rattle.wse_uri.proofs.ReadingLemmas.{first_escape-at, first_escape-none}
use Rattle.wse_uri.proofs.reading.texts.Goals as goal

pub returns-in-Err-clause-refused : goal.returns-in-Err-clause-refused
returns-in-Err-clause-refused c =
    let bytes : c.deref.result.now ≡ (get_or c.args.segments.now c.loop-index.index c.index-segments-index.result).items = c.deref.ensures.value ∙ ap (λ (s : Vec ℕ Global). s.items) c.index-segments-index.is in
    inr (c.loop-index.index, refl, first_escape-at c.args.segments.now c.loop-index.index c.index-segments-index.result (omega arith) c.loop-index.invariant.1 (λ u. c.in-Err.ensures.cases.0 (subst IsUtf8 (sym bytes) u)))

pub loop-index-preserved : goal.loop-index-preserved
loop-index-preserved c =
    let bytes : c.deref.result.now ≡ (get_or c.args.segments.now c.loop-index.index c.index-segments-index.result).items = c.deref.ensures.value ∙ ap (λ (s : Vec ℕ Global). s.items) c.index-segments-index.is in (
      grind (arith, common_steps, bytes),
      All-more (λ s. IsUtf8 s.items) c.args.segments.now c.loop-index.index c.index-segments-index.result (omega arith) c.loop-index.invariant.1 (subst IsUtf8 bytes c.in-Ok.ensures.cases.1),
    )

pub returns-clause-all : goal.returns-clause-all
returns-clause-all c =
    first_escape-none (bytes_in c.args.segments.now)
    (All-map IsUtf8 (λ s. s.items) c.args.segments.now (subst (All (λ (s : Vec ℕ Global). IsUtf8 s.items)) (take_all c.loop-index.index c.args.segments.now (omega arith)) c.loop-index.invariant.1))
