-- How the tree of a disk is loaded.
use Rattle.std.proofs.Common.{◌≡◌, ℕ, suc, ◌+◌, ◌&&◌, cond, List, [], ◌∷◌, ◌++◌, map, take, length, is_some, Option, Some, None, refl, sym, ap, subst, ◌∙◌, length-append, arith, Bool}
use Rattle.std.proofs.lemmas.List.{take_all}
use Rattle.std.proofs.Math.Seq.{take-append-add, take-append_seam}
use Rattle.wse_disk.specs.Standing.{Standing}
use Rattle.wse_disk.specs.Told.{WhereTold, ReadsFiles, ReadsAnImage}
use Rattle.wse_disk.specs.Calls.{bytes_or_none, ReadsNames, ReadsFile}
use Rattle.wse_recover.specs.Load.{with_file, LoadsFile}
use Rattle.wse_path.specs.Path.{Path}
use Rattle.wse_path.specs.Tree.{Entries, content, fits, put_file, IsTree}
use Rattle.wse_path.proofs.TreeLemmas.{fits_front, put_front, content_of}

-- the entry whose path follows some others
pub record Parted (all : Entries) (before : List Path) (p : Path) : Type 0 where
  pub front : Entries
  pub here : Path × List ℕ
  pub back : Entries
  pub whole : all ≡ front ++ here ∷ back
  pub path : here.0 ≡ p
  pub as_many : length front ≡ length before

pub parted : (all : Entries) (before : List Path) (p : Path) (rest : List Path) → map (λ e. e.0) all ≡ before ++ p ∷ rest → Parted all before p
parted [] [] p rest e = cc
parted [] (q ∷ before) p rest e = cc
parted (e ∷ all) [] p rest is = record { front = []; here = e; back = all; whole = refl; path = cc; as_many = refl }
parted (e ∷ all) (q ∷ before) p rest is =
    let more = parted all before p rest (cc) in
    record { front = e ∷ more.front; here = more.here; back = more.back; whole = ap (λ l. e ∷ l) more.whole; path = more.path; as_many = ap suc more.as_many }

with_next : (front : Entries) (e : Path × List ℕ) (back : Entries) → IsTree (front ++ e ∷ back) → with_file (front ++ e ∷ back) front e.0 ≡ front ++ e ∷ []
with_next front e back tree =
    let found = content_of front e back tree.rises in
    ap (λ o. cond (is_some o && fits front e.0) (put_file front e.0 (bytes_or_none o)) front) found
    ∙ ap (λ b. cond b (put_file front e.0 e.1) front) (fits_front front e back tree)
    ∙ put_front front e back tree.rises

loaded_at : (front : Entries) (e : Path × List ℕ) (back : Entries) (p : Path) (n m : ℕ) → e.0 ≡ p → length front ≡ n → m ≡ n + 1 → IsTree (front ++ e ∷ back)
    → with_file (front ++ e ∷ back) (take n (front ++ e ∷ back)) p ≡ take m (front ++ e ∷ back)
loaded_at front e back p n m path as_many one tree =
    ap (λ q. with_file (front ++ e ∷ back) (take n (front ++ e ∷ back)) q) (sym path)
    ∙ ap (λ k. with_file (front ++ e ∷ back) (take k (front ++ e ∷ back)) e.0) (sym as_many)
    ∙ ap (λ l. with_file (front ++ e ∷ back) l e.0) (take-append_seam front (e ∷ back))
    ∙ with_next front e back tree
    ∙ sym (ap (λ k. take k (front ++ e ∷ back)) (one ∙ ap (λ k. k + 1) (sym as_many)) ∙ take-append-add front (e ∷ back) 1)

-- one file more is loaded
pub loaded_more : (all : Entries) (before : List Path) (p : Path) (rest : List Path) → IsTree all → map (λ e. e.0) all ≡ before ++ p ∷ rest
    → with_file all (take (length before) all) p ≡ take (length (before ++ p ∷ [])) all
loaded_more all before p rest tree is =
    let parts = parted all before p rest is in
    subst (λ (es : Entries). with_file es (take (length before) es) p ≡ take (length (before ++ p ∷ [])) es) (sym parts.whole)
    (loaded_at parts.front parts.here parts.back p (length before) (length (before ++ p ∷ [])) parts.path parts.as_many (length-append before (p ∷ [])) (subst IsTree parts.whole tree))

-- These are the first files that are read.
abbrev pub HasLoaded : Option Standing → ℕ → Entries → Type 0
HasLoaded told n files = WhereTold told (λ s. files ≡ take n s.reading.files)

-- nothing is loaded at first
pub none_loaded : (told : Option Standing) → HasLoaded told 0 []
none_loaded None = tt
none_loaded (Some s) = refl

-- and then one file after the other
pub next_loaded : (told : Option Standing) (before : List Path) (p : Path) (rest : List Path) (files new : Entries) → ReadsAnImage told → ReadsNames told (before ++ p ∷ rest)
    → HasLoaded told (length before) files → LoadsFile told p files new → HasLoaded told (length (before ++ p ∷ [])) new
next_loaded None before p rest files new image names loaded step = tt
next_loaded (Some s) before p rest files new image names loaded step =
    step ∙ ap (λ (es : Entries). with_file s.reading.files es p) loaded ∙ loaded_more s.reading.files before p rest image.tree (sym names)

length-keys : (es : Entries) → length (map (λ e. e.0) es) ≡ length es
length-keys [] = refl
length-keys (e ∷ es) = ap suc (length-keys es)

-- all files in the end
pub all_loaded : (told : Option Standing) (paths : List Path) (files : Entries) → ReadsNames told paths → HasLoaded told (length paths) files → ReadsFiles told files
all_loaded None paths files names loaded = tt
all_loaded (Some s) paths files names loaded =
    sym (loaded ∙ ap (λ n. take n s.reading.files) (ap length names ∙ length-keys s.reading.files) ∙ take_all (length s.reading.files) s.reading.files (omega arith))

-- a file that is there, and has room
pub file_loads : (told : Option Standing) (p : Path) (found : Bool) (bytes : List ℕ) (files new : Entries) → ReadsFile told p found bytes
    → new ≡ cond (found && fits files p) (put_file files p bytes) files → LoadsFile told p files new
file_loads None p found bytes files new reads is = tt
file_loads (Some s) p found bytes files new reads is =
    is ∙ ap (λ b. cond (b && fits files p) (put_file files p bytes) files) reads.0
    ∙ ap (λ bs. cond (is_some (content s.reading.files p) && fits files p) (put_file files p bs) files) reads.1
