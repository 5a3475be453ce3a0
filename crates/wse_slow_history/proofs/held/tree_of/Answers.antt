use Rattle.std.proofs.Common.{List, ℕ, take, inr, ◌∙◌, ap}
use Rattle.wse_path.specs.Path.{Path}
use Rattle.wse_path.specs.Tree.{Entries, fits, put_file}
use Rattle.wse_slow_history.proofs.FileLemmas.{put_next, fits_next}
use Rattle.wse_slow_history.proofs.held.tree_of.Goals as goal

pub put-requires : goal.put-requires
put-requires c =
    let es = c.args.files.now in
    let i = c.loop-file.file-index in
    let d : Path × List ℕ = c.file-item.result in
    inr (ap (λ (p : Path). fits c.loop-file.tree.files p) c.in_ok-duplicate.ensures
    ∙ ap (λ (l : Entries). fits l d.0) c.loop-file.invariant
    ∙ ap (λ (e : Path × List ℕ). fits (take i es) e.0) c.file-item.is
    ∙ fits_next es i d c.loop-file-test.true c.requires)

pub loop-file-preserved : goal.loop-file-preserved
loop-file-preserved c =
    let es = c.args.files.now in
    let i = c.loop-file.file-index in
    let d : Path × List ℕ = c.file-item.result in
    c.in_ok-put.ensures.ok
    ∙ ap (put_file c.loop-file.tree.files c.in_ok-duplicate.field-0) c.in_ok-duplicate-2.ensures
    ∙ ap (λ (p : Path). put_file c.loop-file.tree.files p d.1) c.in_ok-duplicate.ensures
    ∙ ap (λ (l : Entries). put_file l d.0 d.1) c.loop-file.invariant
    ∙ ap (λ (e : Path × List ℕ). put_file (take i es) e.0 e.1) c.file-item.is
    ∙ put_next es i d c.loop-file-test.true c.requires.rises
