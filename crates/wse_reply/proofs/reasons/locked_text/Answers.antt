use Rattle.std.proofs.Common.{◌≡◌, codes, string_bytes, sym, ap, ◌∙◌, rules}
use Rattle.std.specs.List.{join_by}
use Rattle.wse_path.specs.Path.{text_of}
use Rattle.wse_reply.proofs.ReplyLemmas.{joined_alike}
use Rattle.wse_reply.proofs.reasons.locked_text.Goals as goal

pub returns : goal.returns
returns c =
    let joined : string_bytes c.in_ok-files.files ≡ join_by text_of (codes ", ") c.args.files.now =
    c.in_ok-files.ensures.ok
    ∙ ap (join_by string_bytes (codes ", ")) c.deref.ensures.value
    ∙ joined_alike string_bytes text_of (codes ", ") c.in_ok-texts.field-0.items c.args.files.now c.in_ok-texts.ensures in
    rw (sym joined) (search rules)
