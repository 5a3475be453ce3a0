-- A part by its path, where paths rise.
use Rattle.std.proofs.Common.{◌≡◌, ℕ, zero, suc, ◌<◌, ◌+◌, Bool, true, false, cond, ◌&&◌, ◌||◌, List, [], ◌∷◌, length, get_or, Some, None, Result, Ok, Err, refl, sym, ap, ◌∙◌, arith}
use Rattle.std.specs.Prelude.{find, option_and_then, IfOk, IfErr}
use Rattle.std.specs.List.{list_any}
use Rattle.std.specs.List.Sorted.{IsSortedBy, IsSearchInRange, IsBinarySearchResult}
use Rattle.std.specs.Ordering.{eq_by_cmp, is_lt}
use Rattle.std.specs.FinMap.{is_sorted}
use Rattle.std.specs.FinMap.{find as find_entry}
use Rattle.std.specs.FinMap.Entries.{below_all}
use Rattle.std.specs.declared.cmp.Ordering.TheVariants.{Equal}
use Rattle.std.proofs.lemmas.List.{length-map}
use Rattle.std.proofs.lemmas.List.Sorted.{searchable_from_sorted}
use Rattle.wse_path.specs.Path.{Path}
use Rattle.wse_path.specs.Order.{path_cmp}
use Rattle.wse_path.specs.Place.{IsGapAt}
use Rattle.wse_path.proofs.EntryLemmas.{and_parts, find_at, find_gap, sorted_by_key}
use Rattle.wse_path.proofs.PathOrder.{total, same_path}
use Rattle.wse_element.specs.Record.{RecordPart, by_path}
use Rattle.wse_element.specs.Live.{is_live, is_live_part_at, where_live}
use Rattle.wse_element.proofs.PieceLemmas.{none_behind_path}

-- the entry that a part makes
entry_at : (parts : List RecordPart) (i : ℕ) (d : RecordPart) → get_or (by_path parts) i (d.path, d) ≡ ((get_or parts i d).path, get_or parts i d)
entry_at [] i d = refl
entry_at (part ∷ parts) zero d = refl
entry_at (part ∷ parts) (suc i) d = entry_at parts i d

key_within : (parts : List RecordPart) (i : ℕ) (e : Path × RecordPart) → i < length parts → (get_or (by_path parts) i e).0 ≡ (get_or parts i e.1).path
key_within [] i e l = absurd (omega arith)
key_within (part ∷ parts) zero e l = refl
key_within (part ∷ parts) (suc i) e l = key_within parts i e (omega arith)

none_found : {X : Type 0} (test : X → Bool) (xs : List X) → list_any test xs ≡ false → find test xs ≡ None
none_found test [] h = refl
none_found test (x ∷ xs) h =
    elim (test x) as (λ b. (b || list_any test xs) ≡ false → cond b (Some x) (find test xs) ≡ None) [ true ↦ λ k. cc | false ↦ λ k. none_found test xs k ] h

-- the live part is the one that the path finds, where that is live
live_by_key : (parts : List RecordPart) (p : Path) → is_sorted path_cmp (by_path parts) ≡ true → find (is_live_part_at p) parts ≡ option_and_then where_live (find_entry path_cmp p (by_path parts))
live_by_key [] p s = refl
live_by_key (part ∷ parts) p s =
    let both = and_parts (below_all path_cmp part.path (by_path parts)) (is_sorted path_cmp (by_path parts)) s in
    let rest = find (is_live_part_at p) parts in
    elim (eq_by_cmp path_cmp p part.path) as (λ b. eq_by_cmp path_cmp p part.path ≡ b → cond (b && is_live part.state) (Some part) rest ≡ option_and_then where_live (cond b (Some part) (find_entry path_cmp p (by_path parts)))) [
      | true ↦ λ e.
          let none : rest ≡ None = none_found (is_live_part_at p) parts (none_behind_path p parts (ap (λ q. below_all path_cmp q (by_path parts)) (same_path p part.path e) ∙ both.0)) in
          ap (λ o. cond (is_live part.state) (Some part) o) none
      | false ↦ λ e. live_by_key parts p both.1
    ] refl

length_entries : (parts : List RecordPart) → length (by_path parts) ≡ length parts
length_entries parts = length-map parts (λ (part : RecordPart). (part.path, part))

pub found_live : (parts : List RecordPart) (p : Path) (i : ℕ) (part : RecordPart) → is_sorted path_cmp (by_path parts) ≡ true → i < length parts → part ≡ get_or parts i part
    → path_cmp (get_or parts i part).path p ≡ Equal → find (is_live_part_at p) parts ≡ where_live part
found_live parts p i part s l is tied =
    let len = length_entries parts in
    live_by_key parts p s
    ∙ ap (option_and_then where_live)
    (find_at total (by_path parts) p i (part.path, part) s (omega (arith, l, len)) (ap (λ (e : Path × RecordPart). path_cmp e.0 p) (entry_at parts i part) ∙ tied)
    ∙ ap (λ (e : Path × RecordPart). Some e.1) (entry_at parts i part))
    ∙ ap where_live (sym is)

sorted_parts : (parts : List RecordPart) → is_sorted path_cmp (by_path parts) ≡ true → IsSortedBy (λ a b. is_lt (path_cmp a.path b.path)) parts
sorted_parts parts s i d low l =
    let len = length_entries parts in
    (λ j. is_lt (path_cmp (sym (entry_at parts (i + 1) d) j).0 (sym (entry_at parts i d) j).0)) ∙ sorted_by_key total (by_path parts) s i (d.path, d) low (omega (arith, l, len))

pub none_live : (parts : List RecordPart) (p : Path) (r : Result ℕ ℕ) → is_sorted path_cmp (by_path parts) ≡ true → IsSearchInRange r (length parts)
    → IsBinarySearchResult (λ part. path_cmp part.path p) parts r → IfErr r (λ _. find (is_live_part_at p) parts ≡ None)
none_live parts p (Ok i) s l h = tt
none_live parts p (Err i) s l h =
    let len = length_entries parts in
    let parted = h (searchable_from_sorted total (λ (part : RecordPart). part.path) parts p (sorted_parts parts s)) in
    let gap : IsGapAt path_cmp (by_path parts) p i = record {
      within = omega (arith, l, len);
      smaller = λ j e lt. ap (λ q. path_cmp q p) (key_within parts j e (omega (arith, l, lt))) ∙ parted.0 j e.1 (omega arith) lt;
      greater = λ j e le lt. let within : j < length parts = omega (arith, lt, len) in ap (λ q. path_cmp q p) (key_within parts j e within) ∙ parted.1 j e.1 le within;
    } in
    live_by_key parts p s ∙ ap (option_and_then where_live) (find_gap total (by_path parts) p i gap)

pub place_found : (parts : List RecordPart) (p : Path) (r : Result ℕ ℕ) → IsSearchInRange r (length parts)
    → IsBinarySearchResult (λ part. path_cmp part.path p) parts r → IfOk r (λ i. (i < length parts) × ((d : RecordPart) → path_cmp (get_or parts i d).path p ≡ Equal))
place_found parts p (Ok i) l h = (l, h)
place_found parts p (Err i) l h = tt
