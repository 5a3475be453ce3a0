-- Changes of which those that take away come first set all their contents.
use Rattle.std.proofs.Common.{◌≡◌, ℕ, Bool, true, false, cond, List, [], ◌∷◌, Option, Some, None, refl, sym, ap, ◌∙◌}
use Rattle.std.specs.Option.{unwrap_or}
use Rattle.std.specs.Ordering.{eq_by_cmp}
use Rattle.std.specs.FinMap.{find, is_sorted, slice_cmp-IsAntisymmetric, nat_cmp-IsAntisymmetric}
use Rattle.std.specs.FinMap.Entries.{below_all, same_entries}
use Rattle.std.specs.Cmp.Lexicographic.{lists_total, nat_list_cmp_total}
use Rattle.wse_path.specs.Path.{Path}
use Rattle.wse_path.specs.Order.{path_cmp}
use Rattle.wse_path.specs.Tree.{Entries, content, put_file, remove_file, set_files}
use Rattle.wse_path.specs.Changes.{erased, erased_at, stored, stored_at, contents_of}
use Rattle.wse_path.specs.declared.change.Change.{Change}
use Rattle.wse_path.proofs.EntryLemmas.{and_parts, to_so}
use Rattle.wse_path.proofs.TreeLemmas.{same_path}
use Rattle.wse_path.proofs.ContentLemmas.{content_set_files, sorted_set_files}
use Rattle.wse_path.proofs.PutLemmas.{below_so}
use Rattle.wse_path.proofs.ChangeLemmas.{content_put, content_remove, rises_erased, rises_stored}

absent_later : (p q : Path) (es : List (Path × Option (List ℕ))) → eq_by_cmp path_cmp q p ≡ true → below_all path_cmp p es ≡ true → find path_cmp q es ≡ None
absent_later p q es t h = ap (λ k. find path_cmp k es) (same_path q p t) ∙ below_so p es h

-- ---- what goes away first, and then what is put

-- what is left at a path of what is given for it
abbrev left_at : Option (Option (List ℕ)) → Option (List ℕ) → Option (List ℕ)
left_at None was = was
left_at (Some None) was = None
left_at (Some (Some v)) was = was

-- what is put at a path of what is given for it
abbrev put_at : Option (Option (List ℕ)) → Option (List ℕ) → Option (List ℕ)
put_at None was = was
put_at (Some None) was = was
put_at (Some (Some v)) was = Some v

erased_first : (files : Entries) (p q : Path) (after : Option (List ℕ)) (b : Bool) → eq_by_cmp path_cmp q p ≡ b → (later : Option (Option (List ℕ))) → (b ≡ true → later ≡ None)
    → left_at later (content (erased_at p after files) q) ≡ left_at (cond b (Some after) later) (content files q)
erased_first files p q None true t later none =
    ap (λ o. left_at o (content (remove_file files p) q)) (none refl) ∙ content_remove files p q ∙ ap (λ b. cond b None (content files q)) t
erased_first files p q (Some v) true t later none = ap (λ o. left_at o (content files q)) (none refl)
erased_first files p q None false t later none = ap (left_at later) (content_remove files p q ∙ ap (λ b. cond b None (content files q)) t)
erased_first files p q (Some v) false t later none = refl

content_left : (cs : List Change) (files : Entries) (q : Path) → is_sorted path_cmp (contents_of cs) ≡ true → content (erased cs files) q ≡ left_at (find path_cmp q (contents_of cs)) (content files q)
content_left [] files q s = refl
content_left (c ∷ cs) files q s =
    let parts = and_parts (below_all path_cmp c.path (contents_of cs)) (is_sorted path_cmp (contents_of cs)) s in
    content_left cs (erased_at c.path c.after files) q parts.1
    ∙ erased_first files c.path q c.after (eq_by_cmp path_cmp q c.path) refl (find path_cmp q (contents_of cs)) (λ t. absent_later c.path q (contents_of cs) t parts.0)

stored_first : (files : Entries) (p q : Path) (after : Option (List ℕ)) (b : Bool) → eq_by_cmp path_cmp q p ≡ b → (later : Option (Option (List ℕ))) → (b ≡ true → later ≡ None)
    → put_at later (content (stored_at p after files) q) ≡ put_at (cond b (Some after) later) (content files q)
stored_first files p q (Some v) true t later none =
    ap (λ o. put_at o (content (put_file files p v) q)) (none refl) ∙ content_put files p v q ∙ ap (λ b. cond b (Some v) (content files q)) t
stored_first files p q None true t later none = ap (λ o. put_at o (content files q)) (none refl)
stored_first files p q (Some v) false t later none = ap (put_at later) (content_put files p v q ∙ ap (λ b. cond b (Some v) (content files q)) t)
stored_first files p q None false t later none = refl

content_put_later : (cs : List Change) (files : Entries) (q : Path) → is_sorted path_cmp (contents_of cs) ≡ true → content (stored cs files) q ≡ put_at (find path_cmp q (contents_of cs)) (content files q)
content_put_later [] files q s = refl
content_put_later (c ∷ cs) files q s =
    let parts = and_parts (below_all path_cmp c.path (contents_of cs)) (is_sorted path_cmp (contents_of cs)) s in
    content_put_later cs (stored_at c.path c.after files) q parts.1
    ∙ stored_first files c.path q c.after (eq_by_cmp path_cmp q c.path) refl (find path_cmp q (contents_of cs)) (λ t. absent_later c.path q (contents_of cs) t parts.0)

put_and_left : (o : Option (Option (List ℕ))) (was : Option (List ℕ)) → put_at o (left_at o was) ≡ unwrap_or o was
put_and_left None was = refl
put_and_left (Some None) was = refl
put_and_left (Some (Some v)) was = refl

-- changes at rising paths, of which those that take away come first, set all their contents
pub stored_is_set : (cs : List Change) (files : Entries) → is_sorted path_cmp (contents_of cs) ≡ true → is_sorted path_cmp files ≡ true → stored cs (erased cs files) ≡ set_files (contents_of cs) files
stored_is_set cs files s t =
    same_entries path_cmp (lists_total nat_list_cmp_total) (slice_cmp-IsAntisymmetric (slice_cmp-IsAntisymmetric nat_cmp-IsAntisymmetric)) (stored cs (erased cs files)) (set_files (contents_of cs) files)
    (to_so _ (rises_stored cs (erased cs files) (rises_erased cs files t))) (to_so _ (sorted_set_files (contents_of cs) files t))
    (λ q. content_put_later cs (erased cs files) q s
    ∙ ap (put_at (find path_cmp q (contents_of cs))) (content_left cs files q s)
    ∙ put_and_left (find path_cmp q (contents_of cs)) (content files q)
    ∙ sym (content_set_files (contents_of cs) files q s))
