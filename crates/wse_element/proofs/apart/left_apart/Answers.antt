use Rattle.std.proofs.Common.{◌≡◌, true, not, ◌&&◌, Some, drop, ◌+◌, sym, ap, ◌∙◌, arith}
use Rattle.std.specs.Prelude.{is_some}
use Rattle.std.specs.Option.{option_copied}
use Rattle.wse_element.specs.Content.{new_content}
use Rattle.wse_element.specs.Live.{is_live}
use Rattle.wse_element.specs.Apart.{paths_with}
use Rattle.wse_element.specs.Near.{near_from, under_last}
use Rattle.wse_element.proofs.NearLemmas.{near_hit, near_end, near_paths}
use Rattle.wse_element.proofs.apart.left_apart.Goals as goal

pub returns-then-is_under_last : goal.returns-then-is_under_last
returns-then-is_under_last c =
    let parts = c.args.parts.now in
    let at = c.loop-part.part-index in
    let part = c.part-item.result in
    let last = option_copied c.loop-part.last in
    let is_file : (is_live part.state && is_some (new_content part.body)) ≡ true = λ i. (sym c.is_live.ensures ∙ c.if-is_live.true) i && (sym c.left_file.ensures ∙ c.if-left_file.true) i in
    let under : under_last last part.path ≡ true = ap (under_last last) (sym c.path.ensures) ∙ sym c.is_under_last.ensures ∙ c.if-is_under_last.true in
    sym
    (near_paths new_content parts c.requires
    ∙ sym c.loop-part.invariant
    ∙ near_hit new_content parts at part last (omega (arith, c.loop-part-test.true)) c.part-item.is is_file
    ∙ ap (λ b. not b && near_from (Some part.path) (paths_with new_content (drop (at + 1) parts))) under)

pub returns : goal.returns
returns c = sym (near_paths new_content c.args.parts.now c.requires ∙ sym c.loop-part.invariant ∙ near_end new_content c.args.parts.now c.loop-part.part-index (option_copied c.loop-part.last) (omega (arith, c.loop-part-test.false)))
