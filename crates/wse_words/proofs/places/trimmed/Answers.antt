use Rattle.std.proofs.Common.{◌≡◌, ◌+◌, ◌-◌, take, sym, ap, ◌∙◌, arith}
use Rattle.wse_words.specs.Words.{without_slashes}
use Rattle.wse_words.proofs.PlaceLemmas.{one_less, no_less}
use Rattle.wse_words.proofs.places.trimmed.Goals as goal

pub returns-then-word-end-ne47 : goal.returns-then-word-end-ne47
returns-then-word-end-ne47 c =
    let w = c.args.word.now in
    let end = c.loop-end.end in
    let last : (end - 1) + 1 ≡ end = omega arith in
    ap (λ n. take n w) (sym last) ∙ sym (no_less w (end - 1) (omega arith) c.if-word-end-ne47.true) ∙ ap (λ n. without_slashes (take n w)) last ∙ c.loop-end.invariant.same

pub loop-end-preserved : goal.loop-end-preserved
loop-end-preserved c =
    let w = c.args.word.now in
    let end = c.loop-end.end in
    let last : (end - 1) + 1 ≡ end = omega arith in
    record {
      within = omega arith;
      same = one_less w (end - 1) (omega arith) c.if-word-end-ne47.false ∙ ap (λ n. without_slashes (take n w)) last ∙ c.loop-end.invariant.same;
    }
