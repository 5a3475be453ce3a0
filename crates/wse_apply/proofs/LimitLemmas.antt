-- The first large file of a tree, file by file.
use Rattle.std.proofs.Common.{◌≡◌, ℕ, ◌+◌, ◌<◌, ◌≤◌, cond, List, [], length, get_or, drop, slice_get, Option, Some, None, sym, ap, ◌∙◌}
use Rattle.std.specs.Prelude.{nat_lt}
use Rattle.std.proofs.lemmas.Bool.{lt-ltb, le-ltb}
use Rattle.std.proofs.lemmas.List.{drop_all}
use Rattle.std.proofs.lemmas.Option.{slice_get-get_or}
use Rattle.wse_path.specs.Path.{Path}
use Rattle.wse_path.specs.Tree.{Entries}
use Rattle.wse_apply.specs.Limit.{first_above}
use Rattle.wse_apply.proofs.StepLemmas.{drop_next}

same_some : (a b : Path × List ℕ) → ◌≡◌ {A = Option (Path × List ℕ)} (Some a) (Some b) → a ≡ b
same_some a b e = cc

-- an entry by its place
pub bytes_there : (files : Entries) (i : ℕ) (p : Path) (bytes : List ℕ) → i < length files → slice_get files i ≡ Some (p, bytes) → (d : Path × List ℕ) → bytes ≡ (get_or files i d).1
bytes_there files i p bytes l e d =
    let same = same_some (p, bytes) (get_or files i d) (sym e ∙ slice_get-get_or files i d l) in ap (λ (x : Path × List ℕ). x.1) same

above_at : (limit : ℕ) (files : Entries) (i : ℕ) (d : Path × List ℕ) → i < length files → first_above limit (drop i files) ≡ cond (nat_lt limit (length (get_or files i d).1)) (Some (length (get_or files i d).1)) (first_above limit (drop (i + 1) files))
above_at limit files i d l =
    ap (first_above limit) (drop_next files i (get_or files i d) l (at_itself files i d l))
  where
    at_itself : (files : Entries) (i : ℕ) (d : Path × List ℕ) → i < length files → get_or files i d ≡ get_or files i (get_or files i d)
    at_itself files i d l = same_some (get_or files i d) (get_or files i (get_or files i d)) (sym (slice_get-get_or files i d l) ∙ slice_get-get_or files i (get_or files i d) l)

-- a large file
pub above_here : (limit : ℕ) (files : Entries) (i : ℕ) (bytes : List ℕ) → i < length files → ((d : Path × List ℕ) → bytes ≡ (get_or files i d).1) → limit < length bytes → first_above limit (drop i files) ≡ first_above limit files → Some (length bytes) ≡ first_above limit files
above_here limit files i bytes l is large so_far =
    let d : Path × List ℕ = ([], bytes) in
    sym (ap (λ b. cond b (Some (length bytes)) (first_above limit (drop (i + 1) files))) (lt-ltb limit (length bytes) large))
    ∙ ap (λ bs. cond (nat_lt limit (length bs)) (Some (length bs)) (first_above limit (drop (i + 1) files))) (is d)
    ∙ sym (above_at limit files i d l) ∙ so_far

-- and one that isn't
pub above_later : (limit : ℕ) (files : Entries) (i : ℕ) (bytes : List ℕ) → i < length files → ((d : Path × List ℕ) → bytes ≡ (get_or files i d).1) → length bytes ≤ limit → first_above limit (drop i files) ≡ first_above limit files → first_above limit (drop (i + 1) files) ≡ first_above limit files
above_later limit files i bytes l is small so_far =
    let d : Path × List ℕ = ([], bytes) in
    sym (ap (λ b. cond b (Some (length bytes)) (first_above limit (drop (i + 1) files))) (le-ltb limit (length bytes) small))
    ∙ ap (λ bs. cond (nat_lt limit (length bs)) (Some (length bs)) (first_above limit (drop (i + 1) files))) (is d)
    ∙ sym (above_at limit files i d l) ∙ so_far

pub above_none : (limit : ℕ) (files : Entries) (i : ℕ) → length files ≤ i → first_above limit (drop i files) ≡ first_above limit files → None ≡ first_above limit files
above_none limit files i l so_far = sym (ap (first_above limit) (drop_all i files l)) ∙ so_far
