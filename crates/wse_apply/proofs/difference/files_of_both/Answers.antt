use Rattle.std.proofs.Common.{ap, ◌∙◌}
use Rattle.wse_path.specs.Tree.{Entries, put_all}
use Rattle.wse_apply.proofs.DifferenceLemmas.{put_alone}
use Rattle.wse_apply.proofs.difference.files_of_both.Goals as goal

pub returns : goal.returns
returns c =
    let old = c.args.old.now in
    c.in_ok-put_files-2.ensures
    ∙ ap (λ (es : Entries). put_all c.args.new.now.files es) (c.in_ok-put_files.ensures ∙ ap (λ (es : Entries). put_all old.files es) c.new-both.ensures ∙ put_alone old.files old.is_tree.rises)
