-- What is taken away goes before anything is put.
use Rattle.std.proofs.Common.{◌≡◌, inl, inr, ℕ, zero, suc, ◌<◌, Bool, true, false, cond, ◌||◌, List, [], ◌∷◌, length, get_or, Option, Some, None, is_some, refl, sym, ◌∙◌, ap, subst, arith}
use Rattle.std.specs.Prelude.{is_none, filter}
use Rattle.std.specs.Ordering.{eq_by_cmp}
use Rattle.std.proofs.lemmas.Bool.{or_parts, or_from}
use Rattle.std.proofs.lemmas.List.{take_all}
use Rattle.wse_path.specs.Order.{path_cmp}
use Rattle.wse_path.specs.Path.{Path}
use Rattle.wse_path.specs.Tree.{Entries, content}
use Rattle.wse_path.specs.Changes.{is_changed, erased, erased_at}
use Rattle.wse_path.specs.declared.change.Change.{Change}
use Rattle.wse_path.proofs.TreeLemmas.{tied_itself}
use Rattle.wse_path.proofs.LeadLemmas.{erased_others}
use Rattle.wse_disk.specs.Reading.{Reading, area_of, with_files, nothing_read}
use Rattle.wse_disk.specs.Standing.{Standing}
use Rattle.wse_disk.specs.Told.{reading_of}
use Rattle.wse_disk.specs.Changes.{ChangesOnly, ErasesFirst, LeadsToTree, HasErased, erasing, storing}
use Rattle.wse_disk.specs.LeavesOnly.{LeavesOnly}
use Rattle.wse_disk.proofs.AreaLemmas.{areas_stay}
use Rattle.wse_disk.proofs.Moments.{joined, weaker}

-- a change that passes is among those that pass
passed_at : (f : Change → Bool) (cs : List Change) (i : ℕ) (d : Change) → i < length cs → f (get_or cs i d) ≡ true → is_changed (filter f cs) (get_or cs i d).path ≡ true
passed_at f [] i d lt h = absurd (omega arith)
passed_at f (c ∷ cs) zero d lt h =
    ap (λ b. is_changed (cond b (c ∷ filter f cs) (filter f cs)) c.path) h ∙ ap (λ b. b || is_changed (filter f cs) c.path) (tied_itself c.path)
passed_at f (c ∷ cs) (suc i) d lt h =
    let p = (get_or cs i d).path in
    let more = passed_at f cs i d (omega arith) h in
    elim (f c) as (λ b. is_changed (cond b (c ∷ filter f cs) (filter f cs)) p ≡ true) [
      | true ↦ elim (eq_by_cmp path_cmp p c.path) as (λ b. (b || is_changed (filter f cs) p) ≡ true) [ true ↦ refl | false ↦ more ]
      | false ↦ more
    ]

pub erased_here : (cs : List Change) (i : ℕ) (c : Change) → c.after ≡ None → i < length cs → c ≡ get_or cs i c → is_changed (erasing cs) c.path ≡ true
erased_here cs i c gone lt is =
    ap (λ (x : Change). is_changed (erasing cs) x.path) is
    ∙ passed_at (λ x. is_none x.after) cs i c lt (ap (λ (x : Change). is_none x.after) (sym is) ∙ ap is_none gone)

pub stored_here : (cs : List Change) (i : ℕ) (c : Change) (bytes : List ℕ) → c.after ≡ Some bytes → i < length cs → c ≡ get_or cs i c → is_changed (storing cs) c.path ≡ true
stored_here cs i c bytes put lt is =
    ap (λ (x : Change). is_changed (storing cs) x.path) is
    ∙ passed_at (λ x. is_some x.after) cs i c lt (ap (λ (x : Change). is_some x.after) (sym is) ∙ ap is_some put)

-- what doesn't change doesn't change by some of the changes
unchanged_by_some : (f : Change → Bool) (cs : List Change) (q : Path) → is_changed cs q ≡ false → is_changed (filter f cs) q ≡ false
unchanged_by_some f [] q h = refl
unchanged_by_some f (c ∷ cs) q h =
    let parts = or_parts (eq_by_cmp path_cmp q c.path) (is_changed cs q) h in
    let more = unchanged_by_some f cs q parts.1 in
    elim (f c) as (λ b. is_changed (cond b (c ∷ filter f cs) (filter f cs)) q ≡ false) [ true ↦ or_from _ _ parts.0 more | false ↦ more ]

some_only : (f : Change → Bool) (cs : List Change) (old image : Reading) → ChangesOnly (filter f cs) old image → ChangesOnly cs old image
some_only f cs old image only = record {
  files = record { tree = only.files.tree; others = λ q none. only.files.others q (unchanged_by_some f cs q none) };
  areas = only.areas;
}

pub erasing_only : (cs : List Change) (old image : Reading) → ChangesOnly (erasing cs) old image → ChangesOnly cs old image
erasing_only cs old image only = some_only (λ c. is_none c.after) cs old image only

storing_only : (cs : List Change) (old image : Reading) → ChangesOnly (storing cs) old image → ChangesOnly cs old image
storing_only cs old image only = some_only (λ c. is_some c.after) cs old image only

after_erase : (cs : List Change) (old mid : Option Standing) (image : Reading) → LeadsToTree old cs → HasErased cs old mid → ChangesOnly cs (reading_of mid) image → ChangesOnly cs (reading_of old) image
after_erase cs None None image lead first next = next
after_erase cs None (Some t) image lead first next = absurd first
after_erase cs (Some s) None image lead first next = absurd first
after_erase cs (Some s) (Some t) image lead first next = record {
  files = record {
    tree = next.files.tree;
    others = λ q none. next.files.others q none ∙ ap (λ (r : Reading). content r.files q) first
        ∙ ap (λ (l : List Change). content (erased l s.reading.files) q) (sym (take_all (length cs) cs (omega arith)))
        ∙ erased_others s.reading.files cs (length cs) lead q none;
  };
  areas = λ a. next.areas a ∙ ap (area_of a) first ∙ areas_stay a (erased cs s.reading.files) s.reading;
}

-- The two parts, one after the other.
pub both_parts : (cs : List Change) (old mid new : Option Standing) → LeadsToTree old cs → HasErased cs old mid → LeavesOnly old mid (ChangesOnly (erasing cs) (reading_of old)) → LeavesOnly mid new (ChangesOnly (storing cs) (reading_of mid)) → LeavesOnly old new (ChangesOnly cs (reading_of old))
both_parts cs old mid new lead first leaves more =
    let P = ChangesOnly cs (reading_of old) in
    joined old mid new P
    (weaker old mid (ChangesOnly (erasing cs) (reading_of old)) P (erasing_only cs (reading_of old)) leaves)
    (weaker mid new (ChangesOnly (storing cs) (reading_of mid)) P (λ image only. after_erase cs old mid image lead first (storing_only cs (reading_of mid) image only)) more)

nothing_erased : (cs : List Change) → erased cs [] ≡ []
nothing_erased [] = refl
nothing_erased (c ∷ cs) = elim c.after as (λ o. erased cs (erased_at c.path o []) ≡ []) [ None ↦ nothing_erased cs | Some b ↦ nothing_erased cs ]

read_then : (cs : List Change) (old mid : Option Standing) → HasErased cs old mid → reading_of mid ≡ with_files (erased cs (reading_of old).files) (reading_of old)
read_then cs None None first = sym (ap (λ (es : Entries). with_files es nothing_read) (nothing_erased cs))
read_then cs None (Some t) first = absurd first
read_then cs (Some s) None first = absurd first
read_then cs (Some s) (Some t) first = first

-- and the order in which they go
pub in_order : (cs : List Change) (old mid new : Option Standing) → HasErased cs old mid → LeavesOnly old mid (ChangesOnly (erasing cs) (reading_of old)) → LeavesOnly mid new (ChangesOnly (storing cs) (reading_of mid)) → LeavesOnly old new (ErasesFirst cs (reading_of old))
in_order cs old mid new first leaves more =
    let P = ErasesFirst cs (reading_of old) in
    joined old mid new P
    (weaker old mid (ChangesOnly (erasing cs) (reading_of old)) P (λ image only. inl only) leaves)
    (weaker mid new (ChangesOnly (storing cs) (reading_of mid)) P (λ image only. inr (subst (λ (r : Reading). ChangesOnly (storing cs) r image) (read_then cs old mid first) only)) more)
