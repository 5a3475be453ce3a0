use Rattle.std.proofs.Common.{◌≡◌, [], get_or, sym, ◌∙◌, ap}
use Rattle.std.specs.Prelude.{Result, Ok, Err, OnOk}
use Rattle.std.proofs.lemmas.Option.{get_or_from_slice_get}
use Rattle.wse_path.specs.Path.{Path}
use Rattle.wse_path.specs.Tree.{Entries, put_file}
use Rattle.wse_disk.proofs.EntryLemmas.{File, put_next}
use Rattle.wse_disk.proofs.draft.add_file.Goals as goal

on_ok : {T E : Type 0} (r : Result T E) (files new : Entries) (whole : Entries) → OnOk r (files ≡ new) → new ≡ whole → OnOk r (files ≡ whole)
on_ok (Ok x) files new whole is same = is ∙ same
on_ok (Err e) files new whole is same = tt

pub returns : goal.returns
returns c =
    let es = c.args.tree.now.files in
    let i = c.args.index in
    let d : File = ([], []) in
    let file : File = (c.file_at.result.0.now, c.file_at.result.1.now) in
    let is : file ≡ get_or es i d = sym (get_or_from_slice_get es i file d c.file_at.ensures) in
    on_ok c.put.result _ _ _ c.put.ensures.ok
    (ap (put_file c.args.files.now.entries c.in_ok-duplicate.field-0) c.in_ok-copy_bytes.ensures
    ∙ ap (λ (p : Path). put_file c.args.files.now.entries p c.file_at.result.1.now) c.in_ok-duplicate.ensures
    ∙ ap (λ (e : File). put_file c.args.files.now.entries e.0 e.1) is
    ∙ ap (λ (l : Entries). put_file l (get_or es i d).0 (get_or es i d).1) c.requires.before
    ∙ put_next es i d c.requires.within c.args.tree.now.is_tree.rises)
