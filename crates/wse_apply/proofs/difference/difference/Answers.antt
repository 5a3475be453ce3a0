use Rattle.std.proofs.Common.{ap, flat_map, ◌∙◌}
use Rattle.std.proofs.lemmas.List.{take_all}
use Rattle.wse_path.specs.Tree.{Entries}
use Rattle.wse_path.specs.Changes.{change_at}
use Rattle.wse_apply.proofs.DifferenceLemmas.{changes_at_all}
use Rattle.wse_apply.proofs.difference.difference.Goals as goal

pub returns : goal.returns
returns c =
    let old = c.args.old.now.files in
    let new = c.args.new.now.files in
    let entries = c.as_slice-entry-items.result.now in
    c.new.ensures ∙ c.loop-entry.invariant
    ∙ ap (λ (es : Entries). flat_map (λ e. change_at old new e.0) es) (take_all c.loop-entry.entry-index entries c.loop-entry-test.false)
    ∙ changes_at_all old new entries (c.as_slice-entry-items.ensures ∙ c.in_ok-both.ensures)
