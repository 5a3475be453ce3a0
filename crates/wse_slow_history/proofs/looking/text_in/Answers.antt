use Rattle.std.proofs.Common.{Some, None, cond, sym, ap, ◌∙◌}
use Rattle.std.specs.Str.{is_utf8}
use Rattle.std.proofs.lemmas.Bool.{false_from_ne_true}
use Rattle.std.proofs.lemmas.Str.{IsUtf8-from_is_utf8, is_utf8-from_IsUtf8}
use Rattle.wse_slow_history.proofs.looking.text_in.Goals as goal

pub returns-in_ok-from_str-in-Ok : goal.returns-in_ok-from_str-in-Ok
returns-in_ok-from_str-in-Ok c =
    let bytes = c.args.bytes.now in
    ap Some (c.new.ensures ∙ c.in_ok-from_str-in-Ok.ensures.ok ∙ c.in-Ok.ensures.same)
    ∙ ap (λ b. cond b (Some bytes) None) (sym (is_utf8-from_IsUtf8 bytes c.in-Ok.ensures.ok))

pub returns-in-Err : goal.returns-in-Err
returns-in-Err c =
    let bytes = c.args.bytes.now in
    ap (λ b. cond b (Some bytes) None) (sym (false_from_ne_true (is_utf8 bytes) (λ h. c.in-Err.ensures.err (IsUtf8-from_is_utf8 bytes h))))
