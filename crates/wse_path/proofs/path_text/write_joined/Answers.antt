use Rattle.std.proofs.Common.{◌≡◌, ◌+◌, ◌-◌, ◌<◌, ◌++◌, ◌∷◌, [], length, get_or, take, drop, true, sym, refl, ◌∙◌, ap, arith, string_bytes, String, Global}
use Rattle.std.proofs.Output.{has_written_append, has_written_of_eq}
use Rattle.std.proofs.lemmas.List.{get_or-take}
use Rattle.std.proofs.lemmas.Grind.{get_or_after_one}
use Rattle.wse_path.specs.Path.{bytes_of, text_of}
use Rattle.wse_path.proofs.PathLemmas.{text_next}
use Rattle.wse_path.proofs.path_text.write_joined.Goals as goal

pub loop-segment-preserved : goal.loop-segment-preserved
loop-segment-preserved g c p =
    let xs = c.args.segments.now in
    let i = c.loop-segment.segment-index in
    let d = c.segment-item.result in
    let within : i + 1 < length xs = omega arith in
    let item : d ≡ get_or xs (i + 1) d =
    c.segment-item.is ∙ get_or-take (length xs - 1) (drop 1 xs) i d (omega arith) ∙ get_or_after_one xs i d ∙ ap (λ n. get_or xs n d) {x = 1 + i} (omega arith) in
    let said : (text_of (bytes_of (take (i + 1) xs)) ++ 47 ∷ []) ++ c.as_str-in-loop-segment.result.now ≡ text_of (bytes_of (take (i + 1 + 1) xs)) =
    ap (λ b. (text_of (bytes_of (take (i + 1) xs)) ++ 47 ∷ []) ++ b) (c.as_str-in-loop-segment.ensures.value ∙ ap (λ (s : String Global). string_bytes s) item)
    ∙ sym (text_next xs (i + 1) d within (omega arith)) in
    let before = c.loop-segment.invariant p in
    let slash = c.in_ok-write_str-2.ensures.writes before.plain (refl {a = true}) in
    has_written_of_eq _ _ _ _ _ said (has_written_append _ _ _ _ _ _ (has_written_append _ _ _ _ _ _ before slash) (c.in_ok-write_str-3.ensures.writes slash.plain (refl {a = true})))
