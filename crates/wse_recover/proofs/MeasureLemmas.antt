-- Sizes that are asked for file by file.
use Rattle.std.proofs.Common.{◌≡◌, ℕ, zero, suc, ◌+◌, ◌-◌, ◌^◌, ◌<◌, ◌≤◌, min, cond, Bool, true, false, List, [], ◌∷◌, length, map, drop, get_or, Option, Some, None, refl, sym, ap, subst, ◌∙◌, arith}
use Rattle.std.specs.Prelude.{nat_lt, sum_by, option_map}
use Rattle.std.specs.Option.{option_or, option_map_or}
use Rattle.std.specs.Ordering.{eq_by_cmp}
use Rattle.std.specs.FinMap.{is_sorted}
use Rattle.std.specs.declared.cmp.Ordering.TheVariants.{Equal}
use Rattle.std.proofs.lemmas.Bool.{lt-ltb, le-ltb}
use Rattle.std.proofs.lemmas.List.{drop_more, drop_all}
use Rattle.std.proofs.lemmas.List.Sums.{sum_by-cons}
use Rattle.wse_path.specs.Order.{path_cmp}
use Rattle.wse_path.proofs.EntryLemmas.{equal_so, find_at}
use Rattle.wse_path.proofs.PathOrder.{total}
use Rattle.wse_path.proofs.TreeLemmas.{tied_itself}
use Rattle.wse_path.specs.Path.{Path}
use Rattle.wse_path.specs.Tree.{Entries, content, total_bytes}
use Rattle.wse_path.specs.declared.limits.Limits.{Limits}
use Rattle.wse_path.specs.declared.limits.Hit.{Hit}
use Rattle.wse_path.specs.declared.limits.Which.TheVariants.{Files, FileBytes, TreeBytes}
use Rattle.wse_disk.specs.Standing.{Standing}
use Rattle.wse_disk.specs.Told.{WhereTold, ReadsAnImage}
use Rattle.wse_disk.specs.Calls.{ReadsNames}
use Rattle.wse_apply.specs.Limit.{hit_by, hit_above, first_above, file_count}
use Rattle.wse_recover.specs.Start.{start_hit}
use Rattle.wse_recover.specs.Measure.{ReadsBytes, TellsHit}

-- Behind some files of so many bytes, the limits on the bytes of a file and of all.
abbrev pub bytes_hit : Limits → ℕ → Entries → Option Hit
bytes_hit limits total [] = hit_above TreeBytes limits.tree_bytes total
bytes_hit limits total (e ∷ es) =
    cond (nat_lt limits.file_bytes (length e.1)) (Some (hit_by FileBytes (length e.1))) (bytes_hit limits (min (total + length e.1) (2 ^ 64 - 1)) es)

capped : (total n sum more : ℕ) → more ≡ n + sum → min (min (total + n) (2 ^ 64 - 1) + sum) (2 ^ 64 - 1) ≡ min (total + more) (2 ^ 64 - 1)
capped total n sum more e = omega arith

bytes_hit_is : (limits : Limits) (total : ℕ) (es : Entries) → total ≤ 2 ^ 64 - 1
    → bytes_hit limits total es ≡ option_or (option_map (hit_by FileBytes) (first_above limits.file_bytes es)) (hit_above TreeBytes limits.tree_bytes (min (total + sum_by (λ e. length e.1) es) (2 ^ 64 - 1)))
bytes_hit_is limits total [] le = ap (hit_above TreeBytes limits.tree_bytes) (omega arith)
bytes_hit_is limits total (e ∷ es) le =
    let rest = hit_above TreeBytes limits.tree_bytes (min (total + sum_by (λ (x : Path × List ℕ). length x.1) (e ∷ es)) (2 ^ 64 - 1)) in
    elim (nat_lt limits.file_bytes (length e.1)) as (λ b. cond b (Some (hit_by FileBytes (length e.1))) (bytes_hit limits (min (total + length e.1) (2 ^ 64 - 1)) es)
    ≡ option_or (option_map (hit_by FileBytes) (cond b (Some (length e.1)) (first_above limits.file_bytes es))) rest) [
      | true ↦ refl
      | false ↦ bytes_hit_is limits (min (total + length e.1) (2 ^ 64 - 1)) es (omega arith)
          ∙ ap (λ n. option_or (option_map (hit_by FileBytes) (first_above limits.file_bytes es)) (hit_above TreeBytes limits.tree_bytes n))
          (capped total (length e.1) (sum_by (λ (x : Path × List ℕ). length x.1) es) (sum_by (λ (x : Path × List ℕ). length x.1) (e ∷ es)) (sum_by-cons (λ (x : Path × List ℕ). length x.1) e es))
    ]

length-keys : (es : Entries) → length (map (λ e. e.0) es) ≡ length es
length-keys [] = refl
length-keys (e ∷ es) = ap suc (length-keys es)

key_or : (es : Entries) (i : ℕ) (p : Path) → get_or (map (λ e. e.0) es) i p ≡ (get_or es i (p, [])).0
key_or [] i p = refl
key_or (e ∷ es) zero p = refl
key_or (e ∷ es) (suc i) p = key_or es i p

tie : (p q : Path) → p ≡ q → path_cmp p q ≡ Equal
tie p q e = equal_so (path_cmp p q) (subst (λ (x : Path). eq_by_cmp path_cmp p x ≡ true) e (tied_itself p))

-- the path that is named at a place has the content there
content_at : (files : Entries) (i : ℕ) (p : Path) → is_sorted path_cmp files ≡ true → i < length files → p ≡ get_or (map (λ e. e.0) files) i p → content files p ≡ Some (get_or files i (p, [])).1
content_at files i p s l e = find_at total files p i (p, []) s l (tie (get_or files i (p, [])).0 p (sym (e ∙ key_or files i p)))

one_more : (limits : Limits) (total : ℕ) (files : Entries) (i : ℕ) (p : Path) (bytes : ℕ) → is_sorted path_cmp files ≡ true → i < length files → p ≡ get_or (map (λ e. e.0) files) i p
    → bytes ≡ option_map_or (λ bs. length bs) (content files p) 0
    → bytes_hit limits total (drop i files) ≡ cond (nat_lt limits.file_bytes bytes) (Some (hit_by FileBytes bytes)) (bytes_hit limits (min (total + bytes) (2 ^ 64 - 1)) (drop (i + 1) files))
one_more limits total files i p bytes s l e is =
    let same : bytes ≡ length (get_or files i (p, [])).1 = is ∙ ap (λ o. option_map_or (λ (bs : List ℕ). length bs) o 0) (content_at files i p s l e) in
    ap (bytes_hit limits total) (drop_more files i (p, []) l)
    ∙ ap (λ n. cond (nat_lt limits.file_bytes n) (Some (hit_by FileBytes n)) (bytes_hit limits (min (total + n) (2 ^ 64 - 1)) (drop (i + 1) files))) (sym same)

-- ---- of what is told

-- What is left to be asked decides.
abbrev pub BytesLeft : Option Standing → Limits → ℕ → ℕ → Type 0
BytesLeft told limits total i = WhereTold told (λ s. start_hit limits s.reading.files ≡ bytes_hit limits total (drop i s.reading.files))

-- as many files as paths
counted : (paths : List Path) (files : Entries) → paths ≡ map (λ e. e.0) files → length paths ≡ length files
counted paths files e = ap length e ∙ length-keys files

pub files_hit : (told : Option Standing) (limits : Limits) (paths : List Path) → ReadsNames told paths → length paths ≤ 2 ^ 64 - 1 → limits.files < length paths → TellsHit told limits (Some (hit_by Files (length paths)))
files_hit None limits paths names small over = tt
files_hit (Some s) limits paths names small over =
    let count : file_count s.reading.files ≡ length paths = omega (arith, counted paths s.reading.files names) in
    ap (λ n. option_or (hit_above Files limits.files n)
    (option_or (option_map (hit_by FileBytes) (first_above limits.file_bytes s.reading.files)) (hit_above TreeBytes limits.tree_bytes (total_bytes s.reading.files)))) count
    ∙ ap (λ b. option_or (cond b (Some (hit_by Files (length paths))) None)
    (option_or (option_map (hit_by FileBytes) (first_above limits.file_bytes s.reading.files)) (hit_above TreeBytes limits.tree_bytes (total_bytes s.reading.files)))) (lt-ltb limits.files (length paths) over)

pub none_asked : (told : Option Standing) (limits : Limits) (paths : List Path) → ReadsNames told paths → length paths ≤ 2 ^ 64 - 1 → length paths ≤ limits.files → BytesLeft told limits 0 0
none_asked None limits paths names small within = tt
none_asked (Some s) limits paths names small within =
    let count : file_count s.reading.files ≡ length paths = omega (arith, counted paths s.reading.files names) in
    let rest = option_or (option_map (hit_by FileBytes) (first_above limits.file_bytes s.reading.files)) (hit_above TreeBytes limits.tree_bytes (total_bytes s.reading.files)) in
    ap (λ n. option_or (hit_above Files limits.files n) rest) count
    ∙ ap (λ b. option_or (cond b (Some (hit_by Files (length paths))) None) rest) (le-ltb limits.files (length paths) within)
    ∙ ap (λ n. option_or (option_map (hit_by FileBytes) (first_above limits.file_bytes s.reading.files)) (hit_above TreeBytes limits.tree_bytes n)) (omega arith)
    ∙ sym (bytes_hit_is limits 0 s.reading.files (omega arith))

module _ (told : Option Standing) (limits : Limits) (paths : List Path) (total i : ℕ) (p : Path) (bytes : ℕ) (image : ReadsAnImage told) (names : ReadsNames told paths) (l : i < length paths) (e : p ≡ get_or paths i p) (reads : ReadsBytes told p bytes) (left : BytesLeft told limits total i) where
  next_of : (s : Standing) → told ≡ Some s → start_hit limits s.reading.files ≡ cond (nat_lt limits.file_bytes bytes) (Some (hit_by FileBytes bytes)) (bytes_hit limits (min (total + bytes) (2 ^ 64 - 1)) (drop (i + 1) s.reading.files))
  next_of s is =
      let names_of : ReadsNames (Some s) paths = subst (λ (t : Option Standing). ReadsNames t paths) is names in
      let image_of : ReadsAnImage (Some s) = subst (λ (t : Option Standing). ReadsAnImage t) is image in
      subst (λ (t : Option Standing). BytesLeft t limits total i) is left
      ∙ one_more limits total s.reading.files i p bytes image_of.tree.rises (omega (arith, l, counted paths s.reading.files names_of)) (e ∙ ap (λ (ps : List Path). get_or ps i p) names_of)
      (subst (λ (t : Option Standing). ReadsBytes t p bytes) is reads)

  where_of : (o : Option Standing) → told ≡ o → (P : Standing → Type 0) → ((s : Standing) → told ≡ Some s → P s) → WhereTold o P
  where_of None is P so = tt
  where_of (Some s) is P so = so s is

  pub next_asked : bytes ≤ limits.file_bytes → BytesLeft told limits (min (total + bytes) (2 ^ 64 - 1)) (i + 1)
  next_asked within = where_of told refl (λ s. start_hit limits s.reading.files ≡ bytes_hit limits (min (total + bytes) (2 ^ 64 - 1)) (drop (i + 1) s.reading.files))
      (λ s is. next_of s is ∙ ap (λ b. cond b (Some (hit_by FileBytes bytes)) (bytes_hit limits (min (total + bytes) (2 ^ 64 - 1)) (drop (i + 1) s.reading.files))) (le-ltb limits.file_bytes bytes within))

  pub file_hit : limits.file_bytes < bytes → TellsHit told limits (Some (hit_by FileBytes bytes))
  file_hit over = where_of told refl (λ s. start_hit limits s.reading.files ≡ Some (hit_by FileBytes bytes))
      (λ s is. next_of s is ∙ ap (λ b. cond b (Some (hit_by FileBytes bytes)) (bytes_hit limits (min (total + bytes) (2 ^ 64 - 1)) (drop (i + 1) s.reading.files))) (lt-ltb limits.file_bytes bytes over))

all_asked : (told : Option Standing) (limits : Limits) (paths : List Path) (total i : ℕ) → ReadsNames told paths → length paths ≤ i → BytesLeft told limits total i → TellsHit told limits (hit_above TreeBytes limits.tree_bytes total)
all_asked None limits paths total i names done left = tt
all_asked (Some s) limits paths total i names done left = left ∙ ap (bytes_hit limits total) (drop_all i s.reading.files (omega (arith, done, counted paths s.reading.files names)))

pub tree_hit : (told : Option Standing) (limits : Limits) (paths : List Path) (total i : ℕ) → ReadsNames told paths → length paths ≤ i → BytesLeft told limits total i → limits.tree_bytes < total → TellsHit told limits (Some (hit_by TreeBytes total))
tree_hit told limits paths total i names done left over =
    subst (λ (b : Bool). TellsHit told limits (cond b (Some (hit_by TreeBytes total)) None)) (lt-ltb limits.tree_bytes total over) (all_asked told limits paths total i names done left)

pub no_hit : (told : Option Standing) (limits : Limits) (paths : List Path) (total i : ℕ) → ReadsNames told paths → length paths ≤ i → BytesLeft told limits total i → total ≤ limits.tree_bytes → TellsHit told limits None
no_hit told limits paths total i names done left within =
    subst (λ (b : Bool). TellsHit told limits (cond b (Some (hit_by TreeBytes total)) None)) (le-ltb limits.tree_bytes total within) (all_asked told limits paths total i names done left)
