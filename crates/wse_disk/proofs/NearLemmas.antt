-- What writes leave, as an image.
use Rattle.std.proofs.Common.{◌≡◌, ◌⊎◌, inl, inr, ℕ, ◌+◌, ◌-◌, ◌<◌, ◌≤◌, Bool, false, ◌&&◌, nat_le, nat_lt, List, [], ◌∷◌, ◌++◌, length, get_or, take, drop, replicate, Some, None, cond, refl, sym, ◌∙◌, ap, subst, arith, append_assoc, length-append, length-take, length-drop}
use Rattle.std.specs.List.{list_any}
use Rattle.std.proofs.lemmas.Bool.{or_parts, or_from, and_cases, cases_Bool, both_ways, leb-false, ltb-false}
use Rattle.std.proofs.lemmas.List.{get_or_append_left, get_or-append_right, get_or-take, get_or-drop, append-nil, length-replicate}
use Rattle.std.proofs.lemmas.List.Folds.{list_any-append}
use Rattle.wse_path.specs.Path.{Path}
use Rattle.wse_path.specs.Tree.{Entries, content, put_file, remove_file, HasRoom, IsTree}
use Rattle.wse_path.proofs.TreeLemmas.{tree_put, tree_remove}
use Rattle.wse_path.proofs.ChangeLemmas.{content_put, content_remove}
use Rattle.wse_disk.specs.declared.area.Area.{Area}
use Rattle.wse_disk.specs.declared.fate.Fate.{Fate}
use Rattle.wse_disk.specs.declared.fate.Fate.TheVariants.{Lost, Kept, Blank}
use Rattle.wse_disk.specs.Reading.{Reading, Write, Stores, Erases, Patches, area_of, with_area, is_same_area, applied, names, is_in, covers}
use Rattle.wse_disk.specs.Image.{IsAreaImage, IsImage}
use Rattle.wse_disk.specs.Replay.{laid, laid_bytes, laid_all}
use Rattle.wse_disk.specs.Chosen.{fate, left_by, left_from}
use Rattle.wse_disk.proofs.AreaLemmas.{area_itself, area_other, files_stay, areas_stay, area_is, same_itself}
use Rattle.wse_disk.proofs.LayLemmas.{laid_is_patched}

-- The write keeps a tree a tree, and an area without gaps.
abbrev pub Fits : Write → Reading → Type 0
Fits (Stores p bytes) r = HasRoom r.files p
Fits (Erases p) r = Unit {0}
Fits (Patches a place bytes) r = place ≤ length (area_of a r)

last_false : {X : Type 0} (p : X → Bool) (ws : List X) (w : X) → list_any p (ws ++ w ∷ []) ≡ false → (list_any p ws ≡ false) × (p w ≡ false)
last_false p ws w h =
    let parts = or_parts (list_any p ws) (list_any p (w ∷ [])) (sym (list_any-append p ws (w ∷ [])) ∙ h) in
    (parts.0, (or_parts (p w) false parts.1).0)

both_false : {X : Type 0} (p : X → Bool) (ws : List X) (w : X) → list_any p ws ≡ false → p w ≡ false → list_any p (ws ++ w ∷ []) ≡ false
both_false p ws w h k = list_any-append p ws (w ∷ []) ∙ or_from (list_any p ws) (list_any p (w ∷ [])) h (or_from (p w) false k refl)

length_laid : (place : ℕ) (bytes old : List ℕ) → length (laid_bytes place bytes old) ≡ place + length bytes + (length old - (place + length bytes))
length_laid place bytes old =
    omega (arith, length-append (take place old ++ replicate (place - length old) 0 ++ bytes) (drop (place + length bytes) old), length-append (take place old ++ replicate (place - length old) 0) bytes, length-append (take place old) (replicate (place - length old) 0), length-take place old, length-drop (place + length bytes) old, length-replicate {A = ℕ} (place - length old) 0)

-- A place that the write doesn't cover.
outside : (a : Area) (i place : ℕ) (bytes : List ℕ) → covers a i (Patches a place bytes) ≡ false → (i < place) ⊎ (place + length bytes ≤ i)
outside a i place bytes h = elim (and_cases (is_same_area a a) (nat_le place i && nat_lt i (place + length bytes)) h) [
  | inl other ↦ absurd (both_ways (is_same_area a a) other (same_itself a))
  | inr out ↦ elim (and_cases (nat_le place i) (nat_lt i (place + length bytes)) out) [
    | inl below ↦ inl (leb-false place i below)
    | inr above ↦ inr (ltb-false i (place + length bytes) above)
  ]
]

laid_at : (place : ℕ) (bytes old : List ℕ) (i : ℕ) → i < length old → (i < place) ⊎ (place + length bytes ≤ i) → get_or (laid_bytes place bytes old) i 0 ≡ get_or old i 0
laid_at place bytes old i lt (inl below) =
    let gap : List ℕ = replicate (place - length old) 0 in
    let back = drop (place + length bytes) old in
    ap (λ (l : List ℕ). get_or l i 0) (append_assoc (take place old ++ gap) bytes back ∙ append_assoc (take place old) gap (bytes ++ back))
    ∙ get_or_append_left (take place old) (gap ++ (bytes ++ back)) 0 i (omega (arith, below, lt, length-take place old))
    ∙ get_or-take place old i 0 below
laid_at place bytes old i lt (inr above) =
    let n = place + length bytes in
    let gap : List ℕ = replicate (place - length old) 0 in
    let front : length (take place old ++ gap ++ bytes) ≡ n = omega (arith, length-append (take place old ++ gap) bytes, length-append (take place old) gap, length-take place old, length-replicate {A = ℕ} (place - length old) 0, above, lt) in
    let back : n + (i - n) ≡ i = omega (arith, above) in
    get_or-append_right (take place old ++ gap ++ bytes) (drop n old) n i 0 front above
    ∙ get_or-drop n old (i - n) 0
    ∙ ap (λ (k : ℕ). get_or old k 0) back

-- Without a gap it is plain.
pub laid_plain : (w : Write) (r : Reading) → Fits w r → laid w r ≡ applied w r
laid_plain (Stores p bytes) r fits = refl
laid_plain (Erases p) r fits = refl
laid_plain (Patches a place bytes) r fits = ap (λ (l : List ℕ). with_area a l r) (laid_is_patched place bytes (area_of a r) fits)

-- An image, if it is a tree.
pub record IsNear (base : Reading) (ws : List Write) (r : Reading) : Type 0 where
  pub kept : (p : Path) → list_any (names p) ws ≡ false → content r.files p ≡ content base.files p
  pub areas : (a : Area) → IsAreaImage a ws (area_of a base) (area_of a r)

pub near : (base : Reading) (ws : List Write) (r : Reading) → IsImage base ws r → IsNear base ws r
near base ws r image = record { kept = image.kept; areas = image.areas }

more_areas : (base : Reading) (ws : List Write) (w : Write) (r : Reading) → IsNear base ws r → (a : Area) → IsAreaImage a (ws ++ w ∷ []) (area_of a base) (area_of a r)
more_areas base ws w r image a = record {
  same = λ h. (image.areas a).same (last_false (is_in a) ws w h).0;
  no_shorter = (image.areas a).no_shorter;
  kept = λ i lt h. (image.areas a).kept i lt (last_false (covers a i) ws w h).0;
}

more_near : (base : Reading) (ws : List Write) (w : Write) (r : Reading) → IsNear base ws r → IsNear base (ws ++ w ∷ []) r
more_near base ws w r image = record { kept = λ p h. image.kept p (last_false (names p) ws w h).0; areas = more_areas base ws w r image }

-- A write that is done whole leaves one of its images, if it is a tree.
pub near_write : (base : Reading) (ws : List Write) (w : Write) (r : Reading) → IsNear base ws r → IsNear base (ws ++ w ∷ []) (laid w r)
near_write base ws (Stores p bytes) r image = record {
  kept = λ q h.
      let parts = last_false (names q) ws (Stores p bytes) h in
      content_put r.files p bytes q ∙ ap (λ b. cond b (Some bytes) (content r.files q)) parts.1 ∙ image.kept q parts.0;
  areas = λ a. rw (areas_stay a (put_file r.files p bytes) r) (more_areas base ws (Stores p bytes) r image a);
}
near_write base ws (Erases p) r image = record {
  kept = λ q h.
      let parts = last_false (names q) ws (Erases p) h in
      content_remove r.files p q ∙ ap (λ b. cond b None (content r.files q)) parts.1 ∙ image.kept q parts.0;
  areas = λ a. rw (areas_stay a (remove_file r.files p) r) (more_areas base ws (Erases p) r image a);
}
near_write base ws (Patches a place bytes) r image =
    let w = Patches a place bytes in
    let new = laid_bytes place bytes (area_of a r) in
    record {
      kept = λ p h. ap (λ (es : Entries). content es p) (files_stay a new r) ∙ image.kept p (last_false (names p) ws w h).0;
      areas = λ b. elim (cases_Bool (is_same_area b a)) [
        | inl is ↦ rw (area_is a b is, area_itself a new r) (record {
          same = λ h. absurd (both_ways (is_same_area a a) (last_false (is_in a) ws w h).1 (same_itself a));
          no_shorter = omega (arith, length_laid place bytes (area_of a r), (image.areas a).no_shorter);
          kept = λ i lt h.
              let parts = last_false (covers a i) ws w h in
              laid_at place bytes (area_of a r) i (omega (arith, lt, (image.areas a).no_shorter)) (outside a i place bytes parts.1) ∙ (image.areas a).kept i lt parts.0;
        })
        | inr other ↦ rw (area_other a b new r other) (more_areas base ws w r image b)
      ];
    }

-- A write to the same place in place of the last.
near_alike : (base : Reading) (ws : List Write) (w v : Write) (r : Reading) → ((p : Path) → names p v ≡ names p w) → ((a : Area) → is_in a v ≡ is_in a w) → ((a : Area) (i : ℕ) → covers a i v ≡ covers a i w)
    → IsNear base (ws ++ v ∷ []) r → IsNear base (ws ++ w ∷ []) r
near_alike base ws w v r named within covered image = record {
  kept = λ p h. let parts = last_false (names p) ws w h in image.kept p (both_false (names p) ws v parts.0 (named p ∙ parts.1));
  areas = λ a. record {
    same = λ h. let parts = last_false (is_in a) ws w h in (image.areas a).same (both_false (is_in a) ws v parts.0 (within a ∙ parts.1));
    no_shorter = (image.areas a).no_shorter;
    kept = λ i lt h. let parts = last_false (covers a i) ws w h in (image.areas a).kept i lt (both_false (covers a i) ws v parts.0 (covered a i ∙ parts.1));
  };
}

-- So does each fate of a write.
near_by : (base : Reading) (ws : List Write) (f : Fate) (w : Write) (r : Reading) → IsNear base ws r → IsNear base (ws ++ w ∷ []) (left_by f w r)
near_by base ws Lost w r image = more_near base ws w r image
near_by base ws Kept w r image = near_write base ws w r image
near_by base ws Blank (Stores p bytes) r image = near_alike base ws (Stores p bytes) (Erases p) (laid (Erases p) r) (λ q. refl) (λ a. refl) (λ a i. refl) (near_write base ws (Erases p) r image)
near_by base ws Blank (Erases p) r image = near_write base ws (Erases p) r image
near_by base ws Blank (Patches a place bytes) r image =
    let zeros = replicate (length bytes) 0 in
    let count : length zeros ≡ length bytes = length-replicate {A = ℕ} (length bytes) 0 in
    near_alike base ws (Patches a place bytes) (Patches a place zeros) (laid (Patches a place zeros) r) (λ q. refl) (λ b. refl) (λ b i. ap (λ (n : ℕ). is_same_area b a && (nat_le place i && nat_lt i (place + n))) count)
    (near_write base ws (Patches a place zeros) r image)

-- And all of them.
pub near_left : (choice k : ℕ) (base : Reading) (before ws : List Write) (r : Reading) → IsNear base before r → IsNear base (before ++ ws) (left_from choice k r ws)
near_left choice k base before [] r image = rw (append-nil before) image
near_left choice k base before (w ∷ ws) r image =
    subst (λ (all : List Write). IsNear base all (left_from choice (k + 1) (left_by (fate choice k) w r) ws)) (append_assoc before (w ∷ []) ws)
    (near_left choice (k + 1) base (before ++ w ∷ []) ws (left_by (fate choice k) w r) (near_by base before (fate choice k) w r image))

stays_tree : (w : Write) (r : Reading) → Fits w r → IsTree r.files → IsTree (laid w r).files
stays_tree (Stores p bytes) r room tree = tree_put r.files p bytes tree room
stays_tree (Erases p) r room tree = tree_remove r.files p tree
stays_tree (Patches a place bytes) r room tree = subst IsTree (sym (files_stay a (laid_bytes place bytes (area_of a r)) r)) tree

-- A write that is done whole leaves one of its images.
pub written_image : (base : Reading) (ws : List Write) (w : Write) (r : Reading) → Fits w r → IsImage base ws r → IsImage base (ws ++ w ∷ []) (laid w r)
written_image base ws w r room image =
    let new = near_write base ws w r (near base ws r image) in
    record { tree = stays_tree w r room image.tree; kept = new.kept; areas = new.areas }

-- A tree is an image of itself, whatever was written since.
pub base_image : (base : Reading) (ws : List Write) → IsTree base.files → IsImage base ws base
base_image base ws tree = record {
  tree = tree;
  kept = λ p h. refl;
  areas = λ a. record { same = λ h. refl; no_shorter = omega arith; kept = λ i lt h. refl };
}

-- What is left of the writes is an image, if it is a tree.
pub left_image : (choice : ℕ) (base : Reading) (ws : List Write) → IsTree base.files → IsTree (left_from choice 0 base ws).files → IsImage base ws (left_from choice 0 base ws)
left_image choice base ws tree left =
    let near_all = near_left choice 0 base [] ws base (near base [] base (base_image base [] tree)) in
    record { tree = left; kept = near_all.kept; areas = near_all.areas }

left_none : (k : ℕ) (r : Reading) (ws : List Write) → left_from 0 k r ws ≡ r
left_none k r [] = refl
left_none k r (w ∷ ws) = left_none (k + 1) r ws

-- Choice 0 leaves nothing, and choice 1 all.
pub left_at_0 : (base : Reading) (ws : List Write) → left_from 0 0 base ws ≡ base
left_at_0 base ws = left_none 0 base ws

left_whole : (k : ℕ) (r : Reading) (ws : List Write) → left_from 1 k r ws ≡ laid_all r ws
left_whole k r [] = refl
left_whole k r (w ∷ ws) = left_whole (k + 1) (laid w r) ws

pub left_at_1 : (base : Reading) (ws : List Write) → left_from 1 0 base ws ≡ laid_all base ws
left_at_1 base ws = left_whole 0 base ws
