use Rattle.std.proofs.Common.{ℕ, List, Some, ap, ◌∙◌, sym}
use Rattle.wse_codec.proofs.TextLemmas.{text_some, text_none}
use Rattle.wse_codec.proofs.labels.label_of.Goals as goal

pub returns-in_ok-from_str-in-Ok : goal.returns-in_ok-from_str-in-Ok
returns-in_ok-from_str-in-Ok c =
    ap (λ (s : List ℕ). Some s) (c.new.ensures ∙ c.in_ok-from_str-in-Ok.ensures.ok ∙ c.in-Ok.ensures.cases.0) ∙ sym (text_some c.args.run.now c.in-Ok.ensures.cases.1)

pub returns-in-Err : goal.returns-in-Err
returns-in-Err c = sym (text_none c.args.run.now c.in-Err.ensures.cases.0)
