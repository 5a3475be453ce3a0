use Rattle.std.proofs.Common.{◌≡◌, ◌+◌, ◌-◌, ◌<◌, ◌≤◌, ◌++◌, ◌∷◌, take, drop, get_or, length, sym, ap, subst, ◌∙◌, arith, String, Global, string_bytes}
use Rattle.wse_path.specs.Path.{bytes_of as segments_of, text_of}
use Rattle.std.proofs.lemmas.List.{append-nil}
use Rattle.wse_io.specs.Stream.{IsPrefix, bytes_of}
use Rattle.wse_io.proofs.StreamLemmas.{prefix_of, prefix_refl}
use Rattle.wsedit.proofs.StatusLemmas.{told_front, told_part}
use Rattle.wsedit.proofs.PathLemmas.{behind, behind_more, behind_all, text_from}
use Rattle.wsedit.proofs.telling.emit_joined.Goals as goal

pub loop-segment-init : goal.loop-segment-init
loop-segment-init g c =
    let xs = c.args.segments.now in
    let rest = take (length xs - 1) (drop 1 xs) in
    let a = c.in-Ok.ensures.added in
    let d = c.first-item.result in
    let first : c.as_bytes.result.now ≡ string_bytes (get_or xs 0 d) = c.as_bytes.ensures.value ∙ c.as_str.ensures.value ∙ ap (λ (s : String Global). string_bytes s) c.first-item.is in
    record {
      told = (a.0, a.1, ap (λ l. l ++ behind rest) (a.4 ∙ first) ∙ sym (text_from xs d (omega arith)));
      faults = c.in-Ok.ensures.cause.kept;
    }

pub loop-segment-preserved : goal.loop-segment-preserved
loop-segment-preserved g c =
    let xs = c.args.segments.now in
    let rest = take (length xs - 1) (drop 1 xs) in
    let i = c.loop-segment.segment-index in
    let inv = c.loop-segment.invariant in
    let so = inv.told in
    let b = c.in-Ok-emit_two.ensures.told in
    let d = c.segment-item.result in
    let within : i < length rest = omega arith in
    let part = 47 ∷ string_bytes (get_or rest i d) in
    let said : 47 ∷ c.as_str-in-loop-segment.result.now ≡ part = ap (λ l. 47 ∷ l) (c.as_str-in-loop-segment.ensures.value ∙ ap (λ (s : String Global). string_bytes s) c.segment-item.is) in
    let apart = ap (λ l. bytes_of so.0 ++ l) (sym (behind_more rest i d within)) ∙ so.2 in
    let more = told_part _ _ _ so.0 b.0 part (behind (drop (i + 1) rest)) (text_of (segments_of xs)) so.1 apart b.1 (b.3 ∙ said) in
    record { told = (so.0 ++ b.0, more.0, more.1); faults = c.in-Ok-emit_two.ensures.cause.kept ∙ inv.faults }

-- the first segment isn't told whole
pub returns-in_default-emit_all-clause-told : goal.returns-in_default-emit_all-clause-told
returns-in_default-emit_all-clause-told g c =
    let xs = c.args.segments.now in
    let rest = take (length xs - 1) (drop 1 xs) in
    let a = c.in_default-emit_all.ensures.added in
    let d = c.first-item.result in
    let first : c.as_bytes.result.now ≡ string_bytes (get_or xs 0 d) = c.as_bytes.ensures.value ∙ c.as_str.ensures.value ∙ ap (λ (s : String Global). string_bytes s) c.first-item.is in (
      a.0,
      a.1,
      subst (λ l. IsPrefix (bytes_of a.0) l) (sym (text_from xs d (omega arith))) (prefix_of (bytes_of a.0) (string_bytes (get_or xs 0 d)) (behind rest) (subst (λ l. IsPrefix (bytes_of a.0) l) first a.3)),
      tt,
    )

-- another one isn't
pub returns-in_default-emit_two-clause-told : goal.returns-in_default-emit_two-clause-told
returns-in_default-emit_two-clause-told g c =
    let xs = c.args.segments.now in
    let rest = take (length xs - 1) (drop 1 xs) in
    let i = c.loop-segment.segment-index in
    let so = c.loop-segment.invariant.told in
    let b = c.in_default-emit_two.ensures.told in
    let d = c.segment-item.result in
    let within : i < length rest = omega arith in
    let part = 47 ∷ string_bytes (get_or rest i d) in
    let said : 47 ∷ c.as_str-in-loop-segment.result.now ≡ part = ap (λ l. 47 ∷ l) (c.as_str-in-loop-segment.ensures.value ∙ ap (λ (s : String Global). string_bytes s) c.segment-item.is) in
    let apart = ap (λ l. bytes_of so.0 ++ l) (sym (behind_more rest i d within)) ∙ so.2 in
    let front = told_front _ _ _ so.0 b.0 part (behind (drop (i + 1) rest)) (text_of (segments_of xs)) so.1 apart b.1 (subst (λ l. IsPrefix (bytes_of b.0) l) said b.2) in
    (so.0 ++ b.0, front.0, front.1, tt)

pub returns-clause-told : goal.returns-clause-told
returns-clause-told g c =
    let xs = c.args.segments.now in
    let rest = take (length xs - 1) (drop 1 xs) in
    let i = c.loop-segment.segment-index in
    let so = c.loop-segment.invariant.told in
    let past : length rest ≤ i = omega arith in
    let whole = sym (append-nil (bytes_of so.0)) ∙ ap (λ l. bytes_of so.0 ++ l) (sym (behind_all rest i past)) ∙ so.2 in
    (so.0, so.1, subst (λ l. IsPrefix (bytes_of so.0) l) whole (prefix_refl (bytes_of so.0)), whole)
