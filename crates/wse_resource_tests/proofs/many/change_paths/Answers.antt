use Rattle.std.proofs.Common.{ap, ◌∙◌}
use Rattle.wse_path.specs.Tree.{Entries}
use Rattle.wse_path.specs.Changes.{changes_between}
use Rattle.wse_resource_tests.proofs.many.change_paths.Goals as goal

pub set_all-requires : goal.set_all-requires
set_all-requires c =
    let shown = c.put_each.new.overlay in
    let base = c.put_each.ensures ∙ c.take_away.ensures ∙ c.new-overlay.ensures.base in
    record {
      old = c.args.tree.now.is_tree;
      new = shown.files;
      tree = shown.is_tree;
      between = c.as_slice.ensures ∙ c.in_ok-changes.ensures ∙ ap (λ (es : Entries). changes_between es shown.files) base;
    }
