use Rattle.std.proofs.Common.{sym, ap, ◌∙◌}
use Rattle.wse_path.specs.Tree.{Entries, set_file}
use Rattle.wse_plain.proofs.PutLemmas.{set_files_push}
use Rattle.wse_plain.proofs.entries.set_files.Goals as goal

pub loop-path-preserved : goal.loop-path-preserved
loop-path-preserved c =
    c.in_ok-all.ensures
    ∙ ap (λ (files : Entries). set_file files c.in-Some.path c.in-Some.content) c.loop-path.invariant
    ∙ sym (set_files_push c.loop-path.yielded c.in-Some.path c.in-Some.content c.args.files.items)
