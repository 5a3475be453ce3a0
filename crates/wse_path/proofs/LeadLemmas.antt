-- Each change of a list that leads to a tree finds room, and all of them leave that tree.
use Rattle.std.proofs.Common.{◌≡◌, ℕ, ◌<◌, Bool, true, false, cond, ◌&&◌, List, [], ◌∷◌, ◌++◌, map, take, length, get_or, Option, Some, None, is_some, refl, sym, ap, subst, ◌∙◌, arith, length-append}
use Rattle.std.proofs.Math.Seq.{take-append_seam, get_or-append_seam}
use Rattle.std.specs.Prelude.{is_none, flat_map}
use Rattle.std.specs.Ordering.{is_lt}
use Rattle.std.specs.FinMap.{is_sorted, slice_cmp-IsAntisymmetric, nat_cmp-IsAntisymmetric}
use Rattle.std.specs.FinMap.Entries.{below_all, same_entries}
use Rattle.std.specs.Cmp.Lexicographic.{lists_total, nat_list_cmp_total}
use Rattle.wse_path.specs.Path.{Path}
use Rattle.wse_path.specs.Order.{path_cmp}
use Rattle.wse_path.specs.Tree.{Entries, content, put_all, set_files, HasRoom}
use Rattle.wse_path.specs.Changes.{is_same, change_at, paths_of_both, erased, stored, is_changed, contents_of, LeadToTree}
use Rattle.wse_path.specs.declared.change.Change.{Change}
use Rattle.wse_path.proofs.EntryLemmas.{and_parts, to_so}
use Rattle.wse_path.proofs.PutLemmas.{sorted_put_each, put_all_is}
use Rattle.wse_path.proofs.RoomLemmas.{room_in}
use Rattle.wse_path.proofs.ChangeLemmas.{AllTrue, all_true, true_take, true_at, unchanged_take, content_erased, content_stored, unchanged_same, rises_erased, rises_stored}
use Rattle.wse_path.proofs.SetLemmas.{stored_is_set}

-- the changes of a list that leads to a tree are true
pub lead_true : (files : Entries) (cs : List Change) (lead : LeadToTree files cs) → AllTrue files lead.new cs
lead_true files cs lead = subst (AllTrue files lead.new) (sym lead.between) (all_true files lead.new (paths_of_both files lead.new))

pub lead_same : (files : Entries) (cs : List Change) (lead : LeadToTree files cs) (q : Path) → is_changed cs q ≡ false → content files q ≡ content lead.new q
lead_same files cs lead q h = unchanged_same files lead.new q (subst (λ l. is_changed l q ≡ false) lead.between h)

some_kept : (b : Bool) (o : Option (List ℕ)) → is_some (cond b None o) ≡ true → is_some o ≡ true
some_kept true o h = cc
some_kept false o h = h

was_there : (a : Option (List ℕ)) (b : Option (List ℕ)) → b ≡ None → is_same a b ≡ false → is_some a ≡ true
was_there None b e h = let x = ap (is_same None) e in cc
was_there (Some a) b e h = refl

-- what is taken away finds room: it is there, among files that were there
pub room_to_erase : (files mid : Entries) (cs : List Change) (i : ℕ) (d : Change) → LeadToTree files cs → i < length cs → (get_or cs i d).after ≡ None → mid ≡ erased (take i cs) files → HasRoom mid (get_or cs i d).path
room_to_erase files mid cs i d lead l gone is =
    let all = lead_true files cs lead in
    let one = true_at files lead.new cs i d l all in
    subst (λ m. HasRoom m (get_or cs i d).path) (sym is)
    (room_in (erased (take i cs) files) files (get_or cs i d).path lead.old
    (λ q h. some_kept _ _ (ap is_some (sym (content_erased files lead.new (take i cs) files q (true_take files lead.new cs i all))) ∙ h))
    (was_there _ _ (sym one.after ∙ gone) one.differs))

kept_in_new : (first any : Bool) (is was : Option (List ℕ)) → (any ≡ false → was ≡ is) → is_some (cond (first && is_some is) is (cond (any && is_none is) None was)) ≡ true → is_some is ≡ true
kept_in_new first any (Some v) was same h = refl
kept_in_new true true None was same h = cc
kept_in_new false true None was same h = cc
kept_in_new true false None was same h = ap is_some (sym (same refl)) ∙ h
kept_in_new false false None was same h = ap is_some (sym (same refl)) ∙ h

some_after : (o p : Option (List ℕ)) (v : List ℕ) → o ≡ p → o ≡ Some v → is_some p ≡ true
some_after o p v e s = ap is_some (sym e ∙ s)

-- what is put finds room among what is left and what was put
pub room_to_store : (files mid : Entries) (cs : List Change) (i : ℕ) (d : Change) (v : List ℕ) → LeadToTree files cs → i < length cs → (get_or cs i d).after ≡ Some v → mid ≡ stored (take i cs) (erased cs files) → HasRoom mid (get_or cs i d).path
room_to_store files mid cs i d v lead l put is =
    let all = lead_true files cs lead in
    let one = true_at files lead.new cs i d l all in
    subst (λ m. HasRoom m (get_or cs i d).path) (sym is)
    (room_in (stored (take i cs) (erased cs files)) lead.new (get_or cs i d).path lead.tree
    (λ q h. kept_in_new (is_changed (take i cs) q) (is_changed cs q) (content lead.new q) (content files q) (lead_same files cs lead q)
    (ap is_some (sym (content_stored files lead.new (take i cs) (erased cs files) q (true_take files lead.new cs i all)
    ∙ ap (λ o. cond (is_changed (take i cs) q && is_some (content lead.new q)) (content lead.new q) o) (content_erased files lead.new cs files q all))) ∙ h))
    (some_after _ _ v one.after put))

-- the same of what comes behind some of the changes
pub room_to_store_next : (files mid : Entries) (cs before : List Change) (c : Change) (rest : List Change) (v : List ℕ) → LeadToTree files cs → cs ≡ before ++ c ∷ rest → c.after ≡ Some v → mid ≡ stored before (erased cs files) → HasRoom mid c.path
room_to_store_next files mid cs before c rest v lead split put is =
    let at : get_or cs (length before) c ≡ c = ap (λ (l : List Change). get_or l (length before) c) split ∙ get_or-append_seam before c rest c in
    let front : take (length before) cs ≡ before = ap (λ (l : List Change). take (length before) l) split ∙ take-append_seam before (c ∷ rest) in
    let within : length before < length cs = omega (arith, ap (λ (l : List Change). length l) split, length-append before (c ∷ rest)) in
    subst (λ (x : Change). HasRoom mid x.path) at
    (room_to_store files mid cs (length before) c v lead within (ap (λ (x : Change). x.after) at ∙ put) (is ∙ ap (λ (l : List Change). stored l (erased cs files)) (sym front)))

finished_at : (any : Bool) (is was : Option (List ℕ)) → (any ≡ false → was ≡ is) → cond (any && is_some is) is (cond (any && is_none is) None was) ≡ is
finished_at true (Some v) was same = refl
finished_at true None was same = refl
finished_at false is was same = same refl

-- all changes together leave the new tree
pub finished : (files : Entries) (cs : List Change) (lead : LeadToTree files cs) → stored cs (erased cs files) ≡ lead.new
finished files cs lead =
    let all = lead_true files cs lead in
    same_entries path_cmp (lists_total nat_list_cmp_total) (slice_cmp-IsAntisymmetric (slice_cmp-IsAntisymmetric nat_cmp-IsAntisymmetric)) (stored cs (erased cs files)) lead.new
    (to_so _ (rises_stored cs (erased cs files) (rises_erased cs files lead.old.rises))) (to_so _ lead.tree.rises)
    (λ q. content_stored files lead.new cs (erased cs files) q all
    ∙ ap (λ o. cond (is_changed cs q && is_some (content lead.new q)) (content lead.new q) o) (content_erased files lead.new cs files q all)
    ∙ finished_at (is_changed cs q) (content lead.new q) (content files q) (lead_same files cs lead q))

below_changes : (old new : Entries) (x : Path) (es : Entries) → below_all path_cmp x es ≡ true → below_all path_cmp x (contents_of (flat_map (change_at old new) (map (λ e. e.0) es))) ≡ true
below_changes old new x [] h = refl
below_changes old new x (e ∷ es) h =
    let parts = and_parts (is_lt (path_cmp x e.0)) (below_all path_cmp x es) h in
    elim (is_same (content old e.0) (content new e.0)) as (λ b. below_all path_cmp x (contents_of (cond b [] (record { path = e.0; before = content old e.0; after = content new e.0 } ∷ []) ++ flat_map (change_at old new) (map (λ f. f.0) es))) ≡ true) [
      | true ↦ below_changes old new x es parts.1
      | false ↦ rw parts.0 (below_changes old new x es parts.1)
    ]

rises_changes : (old new : Entries) (es : Entries) → is_sorted path_cmp es ≡ true → is_sorted path_cmp (contents_of (flat_map (change_at old new) (map (λ e. e.0) es))) ≡ true
rises_changes old new [] s = refl
rises_changes old new (e ∷ es) s =
    let parts = and_parts (below_all path_cmp e.0 es) (is_sorted path_cmp es) s in
    elim (is_same (content old e.0) (content new e.0)) as (λ b. is_sorted path_cmp (contents_of (cond b [] (record { path = e.0; before = content old e.0; after = content new e.0 } ∷ []) ++ flat_map (change_at old new) (map (λ f. f.0) es))) ≡ true) [
      | true ↦ rises_changes old new es parts.1
      | false ↦ rw (below_changes old new e.0 es parts.0) (rises_changes old new es parts.1)
    ]

-- the paths of changes that lead to a tree rise
pub lead_rises : (files : Entries) (cs : List Change) → LeadToTree files cs → is_sorted path_cmp (contents_of cs) ≡ true
lead_rises files cs lead =
    subst (λ (l : List Change). is_sorted path_cmp (contents_of l) ≡ true) (sym lead.between)
    (rises_changes files lead.new (put_all lead.new files) (ap (is_sorted path_cmp) (put_all_is lead.new files) ∙ sorted_put_each lead.new files lead.old.rises))

-- so do all their contents, set one after another
pub lead_set : (files : Entries) (cs : List Change) (lead : LeadToTree files cs) → set_files (contents_of cs) files ≡ lead.new
lead_set files cs lead = sym (stored_is_set cs files (lead_rises files cs lead) lead.old.rises) ∙ finished files cs lead

-- some of the changes leave each path that doesn't change
pub erased_others : (files : Entries) (cs : List Change) (n : ℕ) → LeadToTree files cs → (q : Path) → is_changed cs q ≡ false → content (erased (take n cs) files) q ≡ content files q
erased_others files cs n lead q h =
    content_erased files lead.new (take n cs) files q (true_take files lead.new cs n (lead_true files cs lead))
    ∙ ap (λ b. cond (b && is_none (content lead.new q)) None (content files q)) (unchanged_take cs n q h)

pub stored_others : (files mid : Entries) (cs : List Change) (n : ℕ) → LeadToTree files cs → (q : Path) → is_changed cs q ≡ false → content (stored (take n cs) mid) q ≡ content mid q
stored_others files mid cs n lead q h =
    content_stored files lead.new (take n cs) mid q (true_take files lead.new cs n (lead_true files cs lead))
    ∙ ap (λ b. cond (b && is_some (content lead.new q)) (content lead.new q) (content mid q)) (unchanged_take cs n q h)
