use Rattle.std.proofs.Common.{◌≡◌, ℕ, false, List, [], ◌∷◌, ◌++◌, ap, ◌∙◌}
use Rattle.serde_json.specs.Written.{has_float, compact_text}
use Rattle.serde_json.specs.View.{view}
use Rattle.wse_reply.specs.Reply.{reply_data}
use Rattle.wse_reply.proofs.FloatLemmas.{reply_no_float}
use Rattle.wse_reply.proofs.reply.reply_text.Goals as goal

pub returns : goal.returns
returns c =
    let is : view c.in_ok-value.value ≡ reply_data c.args.n c.args.reply.now = c.in_ok-value.ensures in
    let plain : has_float (view c.in_ok-value.value) ≡ false = ap has_float is ∙ reply_no_float c.args.n c.args.reply.now in
    c.new.ensures ∙ c.in_ok-push.ensures.items ∙ ap (λ (b : List ℕ). b ++ 10 ∷ []) (c.in_ok-line.ensures.text plain ∙ ap compact_text is)
