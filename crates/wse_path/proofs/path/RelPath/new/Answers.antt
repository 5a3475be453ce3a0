use Rattle.std.proofs.Common.{◌≡◌, None, Some, sym, ◌∙◌, string_bytes, arith, length}
use Rattle.std.proofs.lemmas.Bool.Decides.{nat_tests}
use Rattle.wse_path.specs.Path.{is_bad, bytes_of, text_of}
use Rattle.wse_path.proofs.PathLemmas.{position_map, all_short, refusal_at, too_long, not_too_long}
use Rattle.wse_path.proofs.path.RelPath.new.Goals as goal

pub text_bytes-bytes-requires-clause-short : goal.text_bytes-bytes-requires-clause-short
text_bytes-bytes-requires-clause-short c =
    rw c.deref-2.ensures.value (all_short c.args.segments.items (position_map is_bad (λ s. string_bytes s) c.args.segments.items ∙ rw (← c.deref.ensures.value) (sym c.first_bad.ensures ∙ c.in_default.is)))

pub returns-in-Some-clause-refused : goal.returns-in-Some-clause-refused
returns-in-Some-clause-refused c = refusal_at c.args.segments.items (Some c.in-Some.index) (rw (← c.deref.ensures.value) c.in-Some.ensures) (grind (arith, nat_tests)) (omega arith)

pub returns-then-bytes-gt-MAX_TEXT-clause-refused : goal.returns-then-bytes-gt-MAX_TEXT-clause-refused
returns-then-bytes-gt-MAX_TEXT-clause-refused c =
    let is : c.text_bytes-bytes.result ≡ length (text_of (bytes_of c.args.segments.items)) = c.text_bytes-bytes.ensures ∙ rw c.deref-2.ensures.value in
    refusal_at c.args.segments.items None (rw (← c.deref.ensures.value) (sym c.in_default.is ∙ c.first_bad.ensures)) (grind (arith, nat_tests)) (omega arith)
    ∙ rw is (too_long (bytes_of c.args.segments.items) (rw (← is) c.if-bytes-gt-MAX_TEXT.true))

pub returns-clause-taken : goal.returns-clause-taken
returns-clause-taken c =
    let is : c.text_bytes-bytes.result ≡ length (text_of (bytes_of c.args.segments.items)) = c.text_bytes-bytes.ensures ∙ rw c.deref-2.ensures.value in
    refusal_at c.args.segments.items None (rw (← c.deref.ensures.value) (sym c.in_default.is ∙ c.first_bad.ensures)) (grind (arith, nat_tests)) (omega arith)
    ∙ not_too_long (bytes_of c.args.segments.items) (rw (← is) c.if-bytes-gt-MAX_TEXT.false)

pub invariant_of-result : goal.invariant_of-result
invariant_of-result c = returns-clause-taken c
