use Rattle.std.proofs.Common.{ap, sym, ◌∙◌, ◌++◌, ◌∷◌, [], true, false, Vec, Global, List, ℕ}
use Rattle.std.proofs.lemmas.List.{append-nil}
use Rattle.wse_text.specs.Place.{begins_line}
use Rattle.wse_text.proofs.LineLemmas.{starts_more}
use Rattle.wse_text.proofs.index.starts_of.Goals as goal
use Rattle.wse_text.proofs.index.starts_of.Goals.{then-begins_line+in_ok-push, else-begins_line}

abbrev items : Vec ℕ Global → List ℕ
items v = v.items

pub loop-place-preserved : goal.loop-place-preserved
loop-place-preserved c =
    let text = c.args.text.now in
    let place = c.loop-place.place in
    elim c.if-begins_line.branch [
      | then-begins_line+in_ok-push w ↦
          ap items w.starts-is ∙ w.in_ok-push.ensures.items ∙ ap (λ ks. ks ++ place ∷ []) c.loop-place.invariant
          ∙ sym (starts_more text place true (w.if-begins_line.ensures ∙ ap (λ bytes. begins_line bytes place) c.as_bytes-bytes.ensures.value))
      | else-begins_line w ↦
          ap items w.starts-is ∙ c.loop-place.invariant ∙ sym (append-nil _)
          ∙ sym (starts_more text place false (w.if-begins_line.ensures ∙ ap (λ bytes. begins_line bytes place) c.as_bytes-bytes.ensures.value))
    ]
