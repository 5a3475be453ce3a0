-- What a crash may leave after one call more.
use Rattle.std.proofs.Common.{◌≡◌, ◌⊎◌, inl, inr, ℕ, ◌+◌, ◌<◌, ◌≤◌, Bool, false, ◌&&◌, nat_le, nat_lt, List, [], ◌∷◌, ◌++◌, length, get_or, Option, Some, None, refl, sym, ◌∙◌, ap, subst, arith, length-append}
use Rattle.std.specs.Prelude.{Result, Ok, Err, OnOk}
use Rattle.std.specs.List.{list_any}
use Rattle.std.specs.FinMap.{slice_cmp-IsAntisymmetric, nat_cmp-IsAntisymmetric}
use Rattle.std.specs.FinMap.Entries.{same_entries}
use Rattle.std.specs.Cmp.Lexicographic.{lists_total, nat_list_cmp_total}
use Rattle.std.proofs.lemmas.Bool.{or_parts, or_from, both_ways, cases_Bool, and_left, and_right, le-ltb, lt-leb, false_from_ne_true}
use Rattle.std.proofs.lemmas.List.{get_or_append_left}
use Rattle.std.proofs.lemmas.List.Folds.{list_any-append}
use Rattle.wse_path.specs.Order.{path_cmp}
use Rattle.wse_path.specs.Tree.{Entries, content, IsTree}
use Rattle.wse_path.proofs.EntryLemmas.{to_so}
use Rattle.wse_disk.specs.declared.area.Area.{Area}
use Rattle.wse_disk.specs.Reading.{Reading, Write, Stores, Erases, Patches, area_of, with_area, is_same_area, names, is_in, covers}
use Rattle.wse_disk.specs.Image.{IsAreaImage, IsImage, IsTorn}
use Rattle.wse_disk.specs.Standing.{Standing, IsImageOf, with_write, WriteLeaves, SyncLeaves}
use Rattle.wse_disk.specs.Told.{MayLeave, IsAtRest, IsSynced, ReadsAnImage, reading_of}
use Rattle.wse_disk.specs.Calls.{Told, TellsWrite, TellsSync}
use Rattle.wse_disk.proofs.AreaLemmas.{area_itself, area_other, files_stay, area_is, same_reading}

any_front : {X : Type 0} (p : X → Bool) (ws : List X) (w : X) → list_any p (ws ++ w ∷ []) ≡ false → list_any p ws ≡ false
any_front p ws w h = (or_parts (list_any p ws) (list_any p (w ∷ [])) (sym (list_any-append p ws (w ∷ [])) ∙ h)).0

any_both : {X : Type 0} (p : X → Bool) (ws : List X) (w : X) → list_any p ws ≡ false → p w ≡ false → list_any p (ws ++ w ∷ []) ≡ false
any_both p ws w h k = list_any-append p ws (w ∷ []) ∙ or_from (list_any p ws) (list_any p (w ∷ [])) h (or_from (p w) false k refl)

-- What may be left before a write may be left after it.
pub more_images : (base : Reading) (ws : List Write) (w : Write) (c : Reading) → IsImage base ws c → IsImage base (ws ++ w ∷ []) c
more_images base ws w c image = record {
  tree = image.tree;
  kept = λ p h. image.kept p (any_front (names p) ws w h);
  areas = λ a. record {
    same = λ h. (image.areas a).same (any_front (is_in a) ws w h);
    no_shorter = (image.areas a).no_shorter;
    kept = λ i lt h. (image.areas a).kept i lt (any_front (covers a i) ws w h);
  };
}

not_in_covers : (a : Area) (i : ℕ) (ws : List Write) → list_any (is_in a) ws ≡ false → list_any (covers a i) ws ≡ false
not_in_covers a i [] h = refl
not_in_covers a i (Stores p bytes ∷ ws) h = not_in_covers a i ws h
not_in_covers a i (Erases p ∷ ws) h = not_in_covers a i ws h
not_in_covers a i (Patches b place bytes ∷ ws) h =
    let parts = or_parts (is_same_area a b) (list_any (is_in a) ws) h in
    or_from (covers a i (Patches b place bytes)) (list_any (covers a i) ws) (and_left (is_same_area a b) (nat_le place i && nat_lt i (place + length bytes)) parts.0) (not_in_covers a i ws parts.1)

-- An area of one image may stand in another.
swapped : (base : Reading) (ws : List Write) (a : Area) (c : Reading) (bytes : List ℕ) → IsImage base ws c → IsAreaImage a ws (area_of a base) bytes → IsImage base ws (with_area a bytes c)
swapped base ws a c bytes image area = record {
  tree = subst IsTree (sym (files_stay a bytes c)) image.tree;
  kept = λ p h. ap (λ (es : Entries). content es p) (files_stay a bytes c) ∙ image.kept p h;
  areas = λ b. elim (cases_Bool (is_same_area b a)) [
    | inl is ↦ rw (area_is a b is, area_itself a bytes c) area
    | inr other ↦ rw (area_other a b bytes c other) (image.areas b)
  ];
}

abbrev Rests : Standing → Type 0
Rests s = (c : Reading) → IsImageOf s.pending c → c ≡ s.reading

-- Where nothing is pending, no write was of any area.
none_in : (s : Standing) (a : Area) → IsImageOf s.pending s.reading → Rests s → list_any (is_in a) s.pending.writes ≡ false
none_in s a stays rests = false_from_ne_true _ (λ written.
    let longer = area_of a s.reading ++ 0 ∷ [] in
    let area = stays.areas a in
    let may : IsAreaImage a s.pending.writes (area_of a s.pending.base) longer = record {
      same = λ h. absurd (both_ways _ h written);
      no_shorter = omega (arith, length-append (area_of a s.reading) (0 ∷ []), area.no_shorter);
      kept = λ i lt h. get_or_append_left (area_of a s.reading) (0 ∷ []) 0 i (omega (arith, lt, area.no_shorter)) ∙ area.kept i lt h;
    } in
    let same = rests (with_area a longer s.reading) (swapped s.pending.base s.pending.writes a s.reading longer stays may) in
    let is : longer ≡ area_of a s.reading = sym (area_itself a longer s.reading) ∙ ap (area_of a) same in
    absurd (omega (arith, ap length is, length-append (area_of a s.reading) (0 ∷ []))))

-- Without its last write, of an area, an image has that area as it was.
module _ (s : Standing) (a : Area) (place : ℕ) (bytes : List ℕ) (stays : IsImageOf s.pending s.reading) (rests : Rests s) (c : Reading) (image : IsImage s.pending.base (s.pending.writes ++ Patches a place bytes ∷ []) c) where
  w : Write
  w = Patches a place bytes

  front : IsImage s.pending.base s.pending.writes (with_area a (area_of a s.reading) c)
  unfolding w
  front =
      let was = area_of a s.reading in
      record {
        tree = subst IsTree (sym (files_stay a was c)) image.tree;
        kept = λ p h. ap (λ (es : Entries). content es p) (files_stay a was c) ∙ image.kept p (any_both (names p) s.pending.writes w h refl);
        areas = λ b. elim (cases_Bool (is_same_area b a)) [
          | inl is ↦ rw (area_is a b is, area_itself a was c) (stays.areas a)
          | inr other ↦ rw (area_other a b was c other) (record {
            same = λ h. (image.areas b).same (any_both (is_in b) s.pending.writes w h other);
            no_shorter = (image.areas b).no_shorter;
            kept = λ i lt h. (image.areas b).kept i lt (any_both (covers b i) s.pending.writes w h (and_left (is_same_area b a) (nat_le place i && nat_lt i (place + length bytes)) other));
          })
        ];
      }

  torn : IsTorn a place (length bytes) s.reading c
  unfolding w
  torn =
      let was = area_of a s.reading in
      let same = rests _ front in
      let none = none_in s a stays rests in
      let base : was ≡ area_of a s.pending.base = (stays.areas a).same none in
      record {
        files = sym (files_stay a was c) ∙ ap (λ (r : Reading). r.files) same;
        others = λ b other. sym (area_other a b was c other) ∙ ap (area_of b) same;
        no_shorter = omega (arith, ap length base, (image.areas a).no_shorter);
        kept = λ i lt out. (image.areas a).kept i (omega (arith, ap length base, lt)) (any_both (covers a i) s.pending.writes w (not_in_covers a i s.pending.writes none) (outside i out)) ∙ ap (λ (l : List ℕ). get_or l i 0) (sym base);
      }
    where
      outside : (i : ℕ) → (i < place) ⊎ (place + length bytes ≤ i) → covers a i (Patches a place bytes) ≡ false
      outside i (inl lt) = and_right (is_same_area a a) (nat_le place i && nat_lt i (place + length bytes)) (and_left (nat_le place i) (nat_lt i (place + length bytes)) (lt-leb place i lt))
      outside i (inr ge) = and_right (is_same_area a a) (nat_le place i && nat_lt i (place + length bytes)) (and_right (nat_le place i) (nat_lt i (place + length bytes)) (le-ltb i (place + length bytes) ge))

-- What is read may be left, where no write came.
only_one : (reading : Reading) → IsTree reading.files → (c : Reading) → IsImage reading [] c → c ≡ reading
only_one reading tree c image = same_reading c reading
    (same_entries path_cmp (lists_total nat_list_cmp_total) (slice_cmp-IsAntisymmetric (slice_cmp-IsAntisymmetric nat_cmp-IsAntisymmetric)) c.files reading.files (to_so _ image.tree.rises) (to_so _ tree.rises) (λ p. image.kept p refl))
    (λ a. (image.areas a).same refl)

-- Whether a write failed or not, its images are those of one write more.
writes_images : {T E : Type 0} (w : Write) (result : Result T E) (s u : Standing) → WriteLeaves w result s u → (c : Reading) → IsImageOf u.pending c → IsImageOf (with_write w s.pending) c
writes_images w (Ok x) s u done c may = subst (λ (v : Standing). IsImageOf v.pending c) done may
writes_images w (Err e) s u (inl same) c may = more_images s.pending.base s.pending.writes w c (subst (λ (v : Standing). IsImageOf v.pending c) same may)
writes_images w (Err e) s u (inr counts) c may = subst (λ (v : Standing). IsImageOf v.pending c) counts.1 may

-- Whether a sync failed or not, no image is new.
syncs_images : {T E : Type 0} (result : Result T E) (s u : Standing) → IsImageOf s.pending s.reading → SyncLeaves result s u → (c : Reading) → IsImageOf u.pending c → IsImageOf s.pending c
syncs_images (Ok x) s u stays done c may = subst (IsImageOf s.pending) (sym (only_one s.reading stays.tree c (subst (λ (v : Standing). IsImageOf v.pending c) done may))) stays
syncs_images (Err e) s u stays (inl same) c may = subst (λ (v : Standing). IsImageOf v.pending c) same may
syncs_images (Err e) s u stays (inr same) c may = subst (λ (v : Standing). IsImageOf v.pending c) same may

-- What is read differs nowhere from itself.
pub torn_itself : (a : Area) (place count : ℕ) (r : Reading) → IsTorn a place count r r
torn_itself a place count r = record { files = refl; others = λ b other. refl; no_shorter = omega arith; kept = λ i lt out. refl }

-- What a crash may leave after one write to an area, where nothing was pending.
pub torn_after : {T E : Type 0} (a : Area) (place : ℕ) (bytes : List ℕ) (old new : Option Standing) (result : Result T E) → ReadsAnImage old → IsAtRest old → TellsWrite (Patches a place bytes) old new result
    → (c : Reading) → MayLeave new c → IsTorn a place (length bytes) (reading_of old) c
torn_after a place bytes old None result stays rests wrote c may = absurd may
torn_after a place bytes None (Some u) result stays rests wrote c may = absurd wrote
torn_after a place bytes (Some s) (Some u) result stays rests wrote c may = torn s a place bytes stays rests c (writes_images (Patches a place bytes) result s u wrote c may)

-- After a sync, whether it failed or not, no image is new.
pub synced_images : {T E : Type 0} (old new : Option Standing) (result : Result T E) → ReadsAnImage old → TellsSync old new result → (c : Reading) → MayLeave new c → MayLeave old c
synced_images old None result stays synced c may = absurd may
synced_images None (Some u) result stays synced c may = absurd synced
synced_images (Some s) (Some u) result stays synced c may = syncs_images result s u stays synced c may

-- After a sync that succeeded no write is pending.
pub is_synced : {T E : Type 0} (old new : Option Standing) (result : Result T E) → TellsSync old new result → OnOk result (IsSynced new)
is_synced old None (Ok x) synced = tt
is_synced None (Some u) (Ok x) synced = absurd synced
is_synced (Some s) (Some u) (Ok x) synced = (ap (λ (v : Standing). v.pending.base) synced ∙ ap (λ (v : Standing). v.reading) (sym synced), ap (λ (v : Standing). v.pending.writes) synced)
is_synced old new (Err e) synced = tt

-- Where no write is pending, nothing is.
pub at_rest : (told : Option Standing) → ReadsAnImage told → IsSynced told → IsAtRest told
at_rest None stays synced c may = absurd may
at_rest (Some s) stays synced c may =
    only_one s.reading stays.tree c (subst (λ (ws : List Write). IsImage s.reading ws c) synced.1 (subst (λ (r : Reading). IsImage r s.pending.writes c) synced.0 may))

-- A sync leaves what is read.
pub synced_reads : {T E : Type 0} (old new : Option Standing) (result : Result T E) → TellsSync old new result → Told (λ s u. u.reading ≡ s.reading) old new
synced_reads None None result synced = tt
synced_reads None (Some u) result synced = absurd synced
synced_reads (Some s) None result synced = absurd synced
synced_reads (Some s) (Some u) (Ok x) synced = ap (λ (v : Standing). v.reading) synced
synced_reads (Some s) (Some u) (Err e) (inl same) = ap (λ (v : Standing). v.reading) same
synced_reads (Some s) (Some u) (Err e) (inr same) = ap (λ (v : Standing). v.reading) same

-- After a sync that succeeded nothing is pending.
pub synced_rests : {T E : Type 0} (old new : Option Standing) (result : Result T E) → ReadsAnImage old → TellsSync old new result → OnOk result (IsAtRest new)
synced_rests old None (Ok x) stays synced = λ c may. absurd may
synced_rests None (Some u) (Ok x) stays synced = absurd synced
synced_rests (Some s) (Some u) (Ok x) stays synced = λ c may. only_one s.reading stays.tree c (subst (λ (v : Standing). IsImageOf v.pending c) synced may) ∙ ap (λ (v : Standing). v.reading) (sym synced)
synced_rests old new (Err e) stays synced = tt
