use Rattle.std.proofs.Common.{◌≡◌, ◌<◌, List, ℕ, length, take, true, get_or, sym, ◌∙◌, ap, arith}
use Rattle.wse_path.specs.Path.{Path}
use Rattle.wse_path.specs.Tree.{Entries, fits, put_file}
use Rattle.wse_disk.proofs.EntryLemmas.{put_next, fits_next}
use Rattle.wse_disk.proofs.draft.tree_of.Goals as goal

pub returns-then-not-fits : goal.returns-then-not-fits
returns-then-not-fits c = λ tree.
    let es = c.args.files.now.entries in
    let i = c.loop-entry.entry-index in
    let d : Path × List ℕ = c.entry-item.result in
    let lt : i < length es = omega (arith, ap length c.as_slice-entry-items.ensures, c.loop-entry-test.true) in
    let item : d ≡ get_or es i d = c.entry-item.is ∙ ap (λ (l : Entries). get_or l i d) c.as_slice-entry-items.ensures in
    let fits_here : fits c.loop-entry.tree.files d.0 ≡ true =
    ap (λ (l : Entries). fits l d.0) c.loop-entry.invariant ∙ ap (λ (e : Path × List ℕ). fits (take i es) e.0) item ∙ fits_next es i d lt tree in
    let x = sym c.if-not-fits.true ∙ c.fits.ensures ∙ fits_here in
    cc

pub loop-entry-preserved : goal.loop-entry-preserved
loop-entry-preserved c =
    let es = c.args.files.now.entries in
    let i = c.loop-entry.entry-index in
    let d : Path × List ℕ = c.entry-item.result in
    let lt : i < length es = omega (arith, ap length c.as_slice-entry-items.ensures, c.loop-entry-test.true) in
    let item : d ≡ get_or es i d = c.entry-item.is ∙ ap (λ (l : Entries). get_or l i d) c.as_slice-entry-items.ensures in
    c.in_ok-put.ensures.ok
    ∙ ap (put_file c.loop-entry.tree.files c.in_ok-duplicate.field-0) c.in_ok-duplicate-2.ensures
    ∙ ap (λ (p : Path). put_file c.loop-entry.tree.files p d.1) c.in_ok-duplicate.ensures
    ∙ ap (λ (l : Entries). put_file l d.0 d.1) c.loop-entry.invariant
    ∙ ap (λ (e : Path × List ℕ). put_file (take i es) e.0 e.1) item
    ∙ put_next es i d lt c.args.files.now.rises
