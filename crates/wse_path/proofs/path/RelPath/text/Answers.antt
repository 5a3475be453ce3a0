use Rattle.std.proofs.Common.{◌≡◌, ◌++◌, ◌∷◌, [], sym, ap, ◌∙◌, string_bytes, String, Global, arith, ◌+◌, ◌<◌, get_or, take, length}
use Rattle.wse_path.specs.Path.{bytes_of, text_of}
use Rattle.wse_path.proofs.PathLemmas.{text_first, text_next}
use Rattle.wse_path.proofs.path.RelPath.text.Goals as goal
use Rattle.wse_path.proofs.path.RelPath.text.Goals.{then-index-gt0+in_ok-push, else-index-gt0}

pub loop-index-preserved : goal.loop-index-preserved
unfolding lib.Utf8.encode
loop-index-preserved c =
    let xs = c.deref-segment-items.result.now in
    let i = c.loop-index.index in
    let d = c.segment-item.result in
    let within : i < length xs = omega arith in
    let said : string_bytes c.push_str.new.self ≡ string_bytes c.if-index-gt0.text ++ string_bytes (get_or xs i d) =
    c.in_ok-push_str.ensures.bytes ∙ ap (λ b. string_bytes c.if-index-gt0.text ++ b) (c.as_str.ensures.value ∙ ap (λ (s : String Global). string_bytes s) c.segment-item.is) in
    said ∙ elim c.if-index-gt0.branch [
      | then-index-gt0+in_ok-push w ↦
          ap (λ (s : String Global). string_bytes s ++ string_bytes (get_or xs i d)) w.text-is
          ∙ ap (λ b. b ++ string_bytes (get_or xs i d)) (w.in_ok-push.ensures.bytes ∙ ap (λ b. b ++ 47 ∷ []) c.loop-index.invariant)
          ∙ sym (text_next xs i d within (omega (arith, w.if-index-gt0.true)))
      | else-index-gt0 w ↦
          let first : i ≡ 0 = omega (arith, w.if-index-gt0.false) in
          ap (λ (s : String Global). string_bytes s ++ string_bytes (get_or xs i d)) w.text-is
          ∙ ap (λ b. b ++ string_bytes (get_or xs i d)) (c.loop-index.invariant ∙ ap (λ n. text_of (bytes_of (take n xs))) first)
          ∙ ap (λ n. string_bytes (get_or xs n d)) first
          ∙ sym (text_first xs d (omega arith))
          ∙ ap (λ n. text_of (bytes_of (take (n + 1) xs))) (sym first)
    ]
