use Rattle.std.proofs.Common.{◌≡◌, true, cond, bytes_eq, take, get_or, string_bytes, ap, ◌∙◌}
use Rattle.std.proofs.lemmas.Map.Text.{btree_set_updates_text}
use Rattle.wse_json.specs.Members.{is_among}
use Rattle.wse_json.proofs.SetLemmas.{is_among-more}
use Rattle.wse_json.proofs.notes.set_of.Goals as goal

pub loop-text-preserved : goal.loop-text-preserved
loop-text-preserved c = λ text.
    let texts = c.args.texts.now in
    let i = c.loop-text.text-index in
    let key = string_bytes c.in_ok-from_str.field-0 in
    let here : key ≡ get_or texts i c.text-item.result = c.in_ok-from_str.ensures.ok ∙ c.as_str.ensures ∙ c.text-item.is in
    btree_set_updates_text key c.loop-text.set c.insert.new.self true c.in_ok-insert.ensures.updates text
    ∙ ap (λ b. cond (bytes_eq key text) true b) (c.loop-text.invariant text)
    ∙ ap (λ k. cond (bytes_eq k text) true (is_among (take i texts) text)) here
    ∙ is_among-more texts i c.text-item.result text c.loop-text-test.true
