-- What changes do to files, path by path.
use Rattle.std.proofs.Common.{◌≡◌, ◌⊎◌, inl, inr, ℕ, zero, suc, ◌<◌, Bool, true, false, cond, not, ◌&&◌, ◌||◌, List, [], ◌∷◌, ◌++◌, take, length, get_or, Option, Some, None, is_some, refl, sym, ap, ◌∙◌, arith}
use Rattle.std.specs.Prelude.{is_none, flat_map, ⊤}
use Rattle.std.specs.List.{list_any}
use Rattle.std.specs.Ordering.{eq_by_cmp}
use Rattle.std.specs.FinMap.{is_sorted}
use Rattle.std.specs.FinMap.Entries.{find-put, find-where_key, is_some-find}
use Rattle.std.specs.Cmp.{eq_by_cmp_equiv}
use Rattle.std.specs.Cmp.Lexicographic.{lists_total, nat_list_cmp_total, same_text}
use Rattle.std.proofs.lemmas.Bool.{or_parts}
use Rattle.std.proofs.lemmas.List.Folds.{list_any-append}
use Rattle.wse_path.specs.Path.{Path}
use Rattle.wse_path.specs.Order.{path_cmp}
use Rattle.wse_path.specs.Tree.{Entries, content, put_file, put_all, remove_file}
use Rattle.wse_path.specs.Changes.{is_same, change_at, paths_of_both, changes_between, erased, erased_at, stored, stored_at, is_changed}
use Rattle.wse_path.specs.declared.change.Change.{Change}
use Rattle.wse_path.proofs.TreeLemmas.{rises_put, rises_remove, same_path, tied_path, tied_itself}
use Rattle.wse_path.proofs.PutLemmas.{has_put_all}

-- the content that a removal leaves
pub content_remove : (es : Entries) (k q : Path) → content (remove_file es k) q ≡ cond (eq_by_cmp path_cmp q k) None (content es q)
content_remove es k q =
    find-where_key path_cmp (λ x. not (eq_by_cmp path_cmp k x)) q (λ x t. ap (λ y. not (eq_by_cmp path_cmp k y)) (sym (tied_path q x t))) es
    ∙ ap (λ b. cond (not b) (content es q) None) ((eq_by_cmp_equiv (lists_total nat_list_cmp_total)).symm k q)
    ∙ elim (eq_by_cmp path_cmp q k) as (λ b. cond (not b) (content es q) None ≡ cond b None (content es q)) [ true ↦ refl | false ↦ refl ]

pub content_put : (es : Entries) (k : Path) (v : List ℕ) (q : Path) → content (put_file es k v) q ≡ cond (eq_by_cmp path_cmp q k) (Some v) (content es q)
content_put es k v q = find-put path_cmp (lists_total nat_list_cmp_total) q k v es

pub same_content : (a b : Option (List ℕ)) → is_same a b ≡ true → a ≡ b
same_content None None h = refl
same_content None (Some b) h = cc
same_content (Some a) None h = cc
same_content (Some a) (Some b) h = ap (λ x. Some x) (same_text a b (sym h))

-- a change from the first files to the second
pub record IsTrueChange (old new : Entries) (c : Change) : Type 0 where
  pub before : c.before ≡ content old c.path
  pub after : c.after ≡ content new c.path
  pub differs : is_same (content old c.path) (content new c.path) ≡ false

abbrev pub AllTrue : Entries → Entries → List Change → Type 0
AllTrue old new [] = ⊤
AllTrue old new (c ∷ more) = IsTrueChange old new c × AllTrue old new more

pub all_true : (old new : Entries) (ps : List Path) → AllTrue old new (flat_map (change_at old new) ps)
all_true old new [] = tt
all_true old new (p ∷ ps) =
    elim (is_same (content old p) (content new p)) as (λ b. is_same (content old p) (content new p) ≡ b → AllTrue old new (cond b [] (record { path = p; before = content old p; after = content new p } ∷ []) ++ flat_map (change_at old new) ps)) [
      | true ↦ λ e. all_true old new ps
      | false ↦ λ e. (record { before = refl; after = refl; differs = e }, all_true old new ps)
    ] refl

pub true_take : (old new : Entries) (cs : List Change) (n : ℕ) → AllTrue old new cs → AllTrue old new (take n cs)
true_take old new cs zero h = tt
true_take old new [] (suc n) h = tt
true_take old new (c ∷ cs) (suc n) h = (h.0, true_take old new cs n h.1)

pub true_at : (old new : Entries) (cs : List Change) (i : ℕ) (d : Change) → i < length cs → AllTrue old new cs → IsTrueChange old new (get_or cs i d)
true_at old new [] i d l h = absurd (omega arith)
true_at old new (c ∷ cs) zero d l h = h.0
true_at old new (c ∷ cs) (suc i) d l h = true_at old new cs i d (omega arith) h.1

pub changed_at : (cs : List Change) (i : ℕ) (d : Change) → i < length cs → is_changed cs (get_or cs i d).path ≡ true
changed_at [] i d l = absurd (omega arith)
changed_at (c ∷ cs) zero d l = ap (λ b. b || is_changed cs c.path) (tied_itself c.path)
changed_at (c ∷ cs) (suc i) d l =
    elim (eq_by_cmp path_cmp (get_or cs i d).path c.path) as (λ b. (b || is_changed cs (get_or cs i d).path) ≡ true) [ true ↦ refl | false ↦ changed_at cs i d (omega arith) ]

-- a path that doesn't change isn't among the first changes
pub unchanged_take : (cs : List Change) (n : ℕ) (q : Path) → is_changed cs q ≡ false → is_changed (take n cs) q ≡ false
unchanged_take cs zero q h = refl
unchanged_take [] (suc n) q h = refl
unchanged_take (c ∷ cs) (suc n) q h =
    let parts = or_parts (eq_by_cmp path_cmp q c.path) (is_changed cs q) h in
    rw parts.0 (unchanged_take cs n q parts.1)

-- one change more
pub erased_more : (cs : List Change) (c : Change) (files : Entries) → erased (cs ++ c ∷ []) files ≡ erased_at c.path c.after (erased cs files)
erased_more [] c files = refl
erased_more (x ∷ cs) c files = erased_more cs c (erased_at x.path x.after files)

pub stored_more : (cs : List Change) (c : Change) (files : Entries) → stored (cs ++ c ∷ []) files ≡ stored_at c.path c.after (stored cs files)
stored_more [] c files = refl
stored_more (x ∷ cs) c files = stored_more cs c (stored_at x.path x.after files)

pub rises_erased : (cs : List Change) (files : Entries) → is_sorted path_cmp files ≡ true → is_sorted path_cmp (erased cs files) ≡ true
rises_erased [] files s = s
rises_erased (c ∷ cs) files s =
    elim c.after as (λ o. is_sorted path_cmp (erased cs (erased_at c.path o files)) ≡ true) [
      | None ↦ rises_erased cs (remove_file files c.path) (rises_remove files c.path s)
      | Some b ↦ rises_erased cs files s
    ]

pub rises_stored : (cs : List Change) (files : Entries) → is_sorted path_cmp files ≡ true → is_sorted path_cmp (stored cs files) ≡ true
rises_stored [] files s = s
rises_stored (c ∷ cs) files s =
    elim c.after as (λ o. is_sorted path_cmp (stored cs (stored_at c.path o files)) ≡ true) [
      | None ↦ rises_stored cs files s
      | Some b ↦ rises_stored cs (put_file files c.path b) (rises_put files c.path b s)
    ]

-- the content after one change, by what is to be there
erased_one : (files : Entries) (p q : Path) (after : Option (List ℕ)) (is : Option (List ℕ)) (b : Bool) → eq_by_cmp path_cmp q p ≡ b → (q ≡ p → is ≡ after) → (more : Bool)
    → cond (more && is_none is) None (content (erased_at p after files) q) ≡ cond ((b || more) && is_none is) None (content files q)
erased_one files p q None is true e same more =
    let gone : content (remove_file files p) q ≡ None = content_remove files p q ∙ ap (λ t. cond t None (content files q)) e in
    rw (same (same_path q p e), gone) (elim more as (λ m. cond {A = Option (List ℕ)} (m && true) None None ≡ None) [ true ↦ refl | false ↦ refl ])
erased_one files p q (Some v) is true e same more =
    rw (same (same_path q p e)) (elim more as (λ m. cond {A = Option (List ℕ)} (m && false) None (content files q) ≡ content files q) [ true ↦ refl | false ↦ refl ])
erased_one files p q None is false e same more =
    ap (λ o. cond (more && is_none is) None o) (content_remove files p q ∙ ap (λ t. cond t None (content files q)) e)
erased_one files p q (Some v) is false e same more = refl

pub content_erased : (old new : Entries) (cs : List Change) (files : Entries) (q : Path) → AllTrue old new cs → content (erased cs files) q ≡ cond (is_changed cs q && is_none (content new q)) None (content files q)
content_erased old new [] files q h = refl
content_erased old new (c ∷ cs) files q h =
    content_erased old new cs (erased_at c.path c.after files) q h.1
    ∙ erased_one files c.path q c.after (content new q) (eq_by_cmp path_cmp q c.path) refl (λ e. ap (content new) e ∙ sym h.0.after) (is_changed cs q)

stored_one : (files : Entries) (p q : Path) (after : Option (List ℕ)) (is : Option (List ℕ)) (b : Bool) → eq_by_cmp path_cmp q p ≡ b → (q ≡ p → is ≡ after) → (more : Bool)
    → cond (more && is_some is) is (content (stored_at p after files) q) ≡ cond ((b || more) && is_some is) is (content files q)
stored_one files p q None is true e same more =
    rw (same (same_path q p e)) (elim more as (λ m. cond {A = Option (List ℕ)} (m && false) None (content files q) ≡ content files q) [ true ↦ refl | false ↦ refl ])
stored_one files p q (Some v) is true e same more =
    let put : content (put_file files p v) q ≡ Some v = content_put files p v q ∙ ap (λ t. cond t (Some v) (content files q)) e in
    rw (same (same_path q p e), put) (elim more as (λ m. cond {A = Option (List ℕ)} (m && true) (Some v) (Some v) ≡ Some v) [ true ↦ refl | false ↦ refl ])
stored_one files p q None is false e same more = refl
stored_one files p q (Some v) is false e same more =
    ap (λ o. cond (more && is_some is) is o) (content_put files p v q ∙ ap (λ t. cond t (Some v) (content files q)) e)

pub content_stored : (old new : Entries) (cs : List Change) (files : Entries) (q : Path) → AllTrue old new cs → content (stored cs files) q ≡ cond (is_changed cs q && is_some (content new q)) (content new q) (content files q)
content_stored old new [] files q h = refl
content_stored old new (c ∷ cs) files q h =
    content_stored old new cs (stored_at c.path c.after files) q h.1
    ∙ stored_one files c.path q c.after (content new q) (eq_by_cmp path_cmp q c.path) refl (λ e. ap (content new) e ∙ sym h.0.after) (is_changed cs q)

-- which paths change
changed_one : (old new : Entries) (p q : Path) → is_changed (change_at old new p) q ≡ (eq_by_cmp path_cmp q p && not (is_same (content old q) (content new q)))
changed_one old new p q =
    elim (eq_by_cmp path_cmp q p) as (λ b. eq_by_cmp path_cmp q p ≡ b → is_changed (change_at old new p) q ≡ (b && not (is_same (content old q) (content new q)))) [
      | true ↦ λ e. rw (same_path q p e) (elim (is_same (content old p) (content new p)) as (λ s. is_changed (cond s [] (record { path = p; before = content old p; after = content new p } ∷ [])) p ≡ not s) [
        | true ↦ refl
        | false ↦ ap (λ t. t || false) (tied_itself p)
      ])
      | false ↦ λ e. elim (is_same (content old p) (content new p)) as (λ s. is_changed (cond s [] (record { path = p; before = content old p; after = content new p } ∷ [])) q ≡ false) [
        | true ↦ refl
        | false ↦ ap (λ t. t || false) e
      ]
    ] refl

changed_among : (old new : Entries) (ps : List Path) (q : Path) → is_changed (flat_map (change_at old new) ps) q ≡ (list_any (eq_by_cmp path_cmp q) ps && not (is_same (content old q) (content new q)))
changed_among old new [] q = refl
changed_among old new (p ∷ ps) q =
    list_any-append (λ (c : Change). eq_by_cmp path_cmp q c.path) (change_at old new p) (flat_map (change_at old new) ps)
    ∙ (λ i. changed_one old new p q i || changed_among old new ps q i)
    ∙ elim (eq_by_cmp path_cmp q p) as (λ a. ((a && not (is_same (content old q) (content new q))) || (list_any (eq_by_cmp path_cmp q) ps && not (is_same (content old q) (content new q)))) ≡ ((a || list_any (eq_by_cmp path_cmp q) ps) && not (is_same (content old q) (content new q)))) [
      | true ↦ elim (not (is_same (content old q) (content new q))) as (λ s. (s || (list_any (eq_by_cmp path_cmp q) ps && s)) ≡ s) [ true ↦ refl | false ↦ elim (list_any (eq_by_cmp path_cmp q) ps) as (λ l. (l && false) ≡ false) [ true ↦ refl | false ↦ refl ] ]
      | false ↦ refl
    ]

both_none : (a b : Option (List ℕ)) → (is_some a || is_some b) ≡ false → is_same a b ≡ true
both_none None None h = refl
both_none None (Some b) h = cc
both_none (Some a) None h = cc
both_none (Some a) (Some b) h = cc

and_false : (a b : Bool) → (a && b) ≡ false → (a ≡ false) ⊎ (b ≡ false)
and_false true b h = inr h
and_false false b h = inl refl

not_false : (b : Bool) → not b ≡ false → b ≡ true
not_false true h = refl
not_false false h = cc

-- a path that isn't among the changes has the same content before and after
pub unchanged_same : (old new : Entries) (q : Path) → is_changed (changes_between old new) q ≡ false → content old q ≡ content new q
unchanged_same old new q h =
    same_content _ _ (elim (and_false _ _ (sym (changed_among old new (paths_of_both old new) q) ∙ h)) [
      | inl absent ↦ both_none (content old q) (content new q) (sym (has_put_all new old q) ∙ is_some-find path_cmp q (put_all new old) ∙ absent)
      | inr same ↦ not_false _ same
    ])
