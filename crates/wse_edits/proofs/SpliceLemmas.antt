-- The splices that edits are, and the text after them.
use Rattle.std.proofs.Common.{◌≡◌, ℕ, ◌+◌, ◌<◌, ◌≤◌, suc, zero, Bool, true, false, cond, eqb, leb, ltb, ◌&&◌, ◌||◌, List, [], ◌∷◌, ◌++◌, length, map, take, get_or, filter, Option, Some, None, IfSome, refl, sym, ap, subst, ◌∙◌, append_assoc, arith}
use Rattle.std.specs.List.{All, AllByRecursion, cons_option, filter_map, flat_map, slice_get, zip}
use Rattle.std.specs.List.Sorted.{IsPermutation, IsSortedByKey, IsStableByKey}
use Rattle.std.specs.Option.{option_map_or, option_to_list}
use Rattle.std.specs.Ordering.{nat_cmp}
use Rattle.std.specs.Str.{IsCharBoundary}
use Rattle.std.proofs.lemmas.List.{append-nil}
use Rattle.std.proofs.lemmas.List.Elements.{All-from_recursion, All-weaker, recursion_from_All, filter_map-append}
use Rattle.std.proofs.lemmas.List.Sorted.{All-permutation}
use Rattle.wse_path.specs.declared.position.Encoding.{Encoding}
use Rattle.wse_path.specs.declared.position.TextEdit.{TextEdit}
use Rattle.wse_splice.specs.declared.splice.Splice.{Splice}
use Rattle.wse_splice.specs.Splice.{LieBetweenCharacters, put_in_at, is_replaced as is_spliced, spliced}
use Rattle.wse_splice.proofs.OrderLemmas.{spliced_stable}
use Rattle.wse_splice.proofs.PlaceLemmas.{over, over_parts, rebuilt_same}
use Rattle.wse_edits.specs.declared.range.TextRange.{TextRange}
use Rattle.wse_edits.specs.Edited.{put_in, is_replaced, edited, splice_in, splices_of}
use Rattle.wse_edits.specs.Range.{IsRangeOf, live_range, ranges_of}
use Rattle.wse_edits.proofs.OverlapLemmas.{IsSorting, span}

-- An edit whose range starts at k puts in its text in front of the later ones.
put_in_first : (e : TextEdit) (range : Option TextRange) (k : ℕ) (ss : List Splice) (es : List TextEdit) → put_in_at ss k ≡ flat_map (λ (e : TextEdit). e.new_text) es → put_in_at (cons_option (splice_in e range) ss) k ≡ flat_map (λ (e : TextEdit). e.new_text) (cond (option_map_or (λ (r : TextRange). eqb r.start k) range false) (e ∷ es) es)
put_in_first e None k ss es same = same
put_in_first e (Some r) k ss es same = at (eqb r.start k)
  where
    at : (b : Bool) → flat_map (λ (s : Splice). s.text) (cond b (record { start = r.start; end = r.end; text = e.new_text } ∷ filter (λ (s : Splice). eqb s.start k) ss) (filter (λ (s : Splice). eqb s.start k) ss)) ≡ flat_map (λ (e : TextEdit). e.new_text) (cond b (e ∷ es) es)
    at true = ap (λ t. e.new_text ++ t) same
    at false = same

replaced_first : (e : TextEdit) (range : Option TextRange) (k : ℕ) (ss : List Splice) (b : Bool) → is_spliced ss k ≡ b → is_spliced (cons_option (splice_in e range) ss) k ≡ (option_map_or (λ (r : TextRange). leb r.start k && ltb k r.end) range false || b)
replaced_first e None k ss b same = same
replaced_first e (Some r) k ss b same = ap (λ t. (leb r.start k && ltb k r.end) || t) same

module _ (text : List ℕ) (enc : Encoding) where
  put_in-splices : (edits : List TextEdit) (k : ℕ) → put_in_at (splices_of text enc edits) k ≡ put_in text enc edits k
  put_in-splices [] k = refl
  put_in-splices (e ∷ es) k = put_in_first e (live_range text enc e) k (splices_of text enc es) _ (put_in-splices es k)

  is_replaced-splices : (edits : List TextEdit) (k : ℕ) → is_spliced (splices_of text enc edits) k ≡ is_replaced text enc edits k
  is_replaced-splices [] k = refl
  is_replaced-splices (e ∷ es) k = replaced_first e (live_range text enc e) k (splices_of text enc es) _ (is_replaced-splices es k)

  pub spliced-splices : (edits : List TextEdit) → spliced text (splices_of text enc edits) ≡ edited text enc edits
  spliced-splices edits = rebuilt_same text _ _ _ _ (λ k low. put_in-splices edits k) (λ k low. is_replaced-splices edits k)

module _ (g : TextEdit → Option TextRange) where
  -- Each edit beside its range.
  pub splices-zip : (edits : List TextEdit) → filter_map (λ e. splice_in e.0 e.1) (zip edits (map g edits)) ≡ filter_map (λ e. splice_in e (g e)) edits
  splices-zip [] = refl
  splices-zip (e ∷ es) = ap (cons_option (splice_in e (g e))) (splices-zip es)

  module _ (P : TextRange → Type 0) where
    spans_first : (e : TextEdit) (range : Option TextRange) (ss : List Splice) → IfSome range P → AllByRecursion (λ (s : Splice). P (span s)) ss → AllByRecursion (λ (s : Splice). P (span s)) (cons_option (splice_in e range) ss)
    spans_first e None ss here others = others
    spans_first e (Some r) ss here others = (here, others)

    spans_recursion : (edits : List TextEdit) → AllByRecursion (λ (range : Option TextRange). IfSome range P) (map g edits) → AllByRecursion (λ (s : Splice). P (span s)) (filter_map (λ e. splice_in e (g e)) edits)
    spans_recursion [] all = tt
    spans_recursion (e ∷ es) all = spans_first e (g e) (filter_map (λ e. splice_in e (g e)) es) all.0 (spans_recursion es all.1)

    -- What holds of the ranges holds of the splices' ranges.
    pub spans-splices : (edits : List TextEdit) → All (λ (range : Option TextRange). IfSome range P) (map g edits) → All (λ (s : Splice). P (span s)) (filter_map (λ e. splice_in e (g e)) edits)
    spans-splices edits all = All-from_recursion _ _ (spans_recursion edits (recursion_from_All _ _ all))

zip_more : {X Y : Type 0} (xs : List X) (ys : List Y) (i : ℕ) (d : X) (e : Y) → length ys ≡ length xs → i < length xs → zip (take (i + 1) xs) (take (i + 1) ys) ≡ zip (take i xs) (take i ys) ++ (get_or xs i d, get_or ys i e) ∷ []
zip_more [] ys i d e same low = absurd (omega arith)
zip_more (x ∷ xs) [] i d e same low = absurd (omega arith)
zip_more (x ∷ xs) (y ∷ ys) zero d e same low = refl
zip_more (x ∷ xs) (y ∷ ys) (suc i) d e same low =
    ap (λ n. zip (take n (x ∷ xs)) (take n (y ∷ ys))) {x = suc i + 1} {y = suc (i + 1)} (omega arith) ∙ ap (λ ps. (x, y) ∷ ps) (zip_more xs ys i d e (omega arith) (omega arith))

-- One edit more.
pub splices-more : (edits : List TextEdit) (ranges : List (Option TextRange)) (i : ℕ) (e : TextEdit) (range : Option TextRange) → length ranges ≡ length edits → i < length edits → e ≡ get_or edits i e → get_or ranges i None ≡ range → filter_map (λ e. splice_in e.0 e.1) (zip (take (i + 1) edits) (take (i + 1) ranges)) ≡ filter_map (λ e. splice_in e.0 e.1) (zip (take i edits) (take i ranges)) ++ cons_option (splice_in e range) []
splices-more edits ranges i e range same low is range_is =
    ap (filter_map (λ e. splice_in e.0 e.1)) (zip_more edits ranges i e None same low)
    ∙ filter_map-append (λ e. splice_in e.0 e.1) (zip (take i edits) (take i ranges)) ((get_or edits i e, get_or ranges i None) ∷ [])
    ∙ (λ k. filter_map (λ e. splice_in e.0 e.1) (zip (take i edits) (take i ranges)) ++ cons_option (splice_in (sym is k) (range_is k)) [])

-- The edits' splices lie as their ranges do.
ranges-splices : (text : List ℕ) (enc : Encoding) (edits : List TextEdit) (ranges : List (Option TextRange)) → ranges ≡ ranges_of text enc edits → All (λ (range : Option TextRange). IfSome range (IsRangeOf text)) ranges → All (λ (s : Splice). IsRangeOf text (span s)) (splices_of text enc edits)
ranges-splices text enc edits ranges ranges_are lie =
    spans-splices (live_range text enc) (IsRangeOf text) edits (subst (All (λ (range : Option TextRange). IfSome range (IsRangeOf text))) ranges_are lie)

-- What is made of the edits and their ranges and then sorted is a sorting of the edits' splices.
pub IsSorting-made : (text : List ℕ) (enc : Encoding) (edits : List TextEdit) (slice ranges : List (Option TextRange)) (made ys : List Splice) → slice ≡ ranges → ranges ≡ ranges_of text enc edits → All (λ (range : Option TextRange). IfSome range (IsRangeOf text)) ranges → made ≡ filter_map (λ e. splice_in e.0 e.1) (zip edits slice) → IsPermutation made ys → IsSortedByKey (λ s. s.start) nat_cmp ys → IsStableByKey (λ s. s.start) nat_cmp made ys → IsSorting (splices_of text enc edits) ys (length text)
IsSorting-made text enc edits slice ranges made ys same ranges_are lie made_is permutation sorted stable =
    let splices_are : made ≡ splices_of text enc edits = made_is ∙ ap (λ ranges. filter_map (λ e. splice_in e.0 e.1) (zip edits ranges)) (same ∙ ranges_are) ∙ splices-zip (live_range text enc) edits in
    record {
      permutation = subst (λ xs. IsPermutation xs ys) splices_are permutation;
      sorted = sorted;
      stable = subst (λ xs. IsStableByKey (λ s. s.start) nat_cmp xs ys) splices_are stable;
      within = All-weaker (λ (s : Splice). IsRangeOf text (span s)) (λ (s : Splice). (s.start ≤ s.end) × (s.end ≤ length text)) (λ s is. (is.0, is.2.0)) (splices_of text enc edits) (ranges-splices text enc edits ranges ranges_are lie);
    }

-- Sorted they begin and end between two characters.
pub LieBetweenCharacters-sorted : (text : List ℕ) (enc : Encoding) (edits : List TextEdit) (ranges : List (Option TextRange)) (ys : List Splice) → ranges ≡ ranges_of text enc edits → All (λ (range : Option TextRange). IfSome range (IsRangeOf text)) ranges → IsPermutation (splices_of text enc edits) ys → LieBetweenCharacters text ys
LieBetweenCharacters-sorted text enc edits ranges ys ranges_are lie same =
    All-permutation (λ (s : Splice). IsCharBoundary text s.start × IsCharBoundary text s.end) (splices_of text enc edits) ys same
    (All-weaker (λ (s : Splice). IsRangeOf text (span s)) (λ (s : Splice). IsCharBoundary text s.start × IsCharBoundary text s.end) (λ s is. (is.1, is.2)) (splices_of text enc edits) (ranges-splices text enc edits ranges ranges_are lie))

-- Sorted they make the text after the edits.
pub spliced-sorted : (text : List ℕ) (enc : Encoding) (edits : List TextEdit) (ys : List Splice) → IsSorting (splices_of text enc edits) ys (length text) → spliced text ys ≡ edited text enc edits
spliced-sorted text enc edits ys sorting = spliced_stable text (splices_of text enc edits) ys sorting.permutation sorting.stable ∙ spliced-splices text enc edits

-- What the text after the edits has at place k of the text before.
abbrev pub at_place : List ℕ → Encoding → List TextEdit → ℕ → List ℕ
at_place text enc edits k = put_in text enc edits k ++ cond (is_replaced text enc edits k) [] (option_to_list (slice_get text k))

kept : (b : Bool) (o : Option ℕ) → option_to_list (cond b None o) ≡ cond b [] (option_to_list o)
kept true o = refl
kept false o = refl

-- One place more.
pub over_places-more : (text : List ℕ) (enc : Encoding) (edits : List TextEdit) (k : ℕ) (made : List ℕ) → made ≡ over (at_place text enc edits) 0 k → (made ++ put_in text enc edits k) ++ option_to_list (cond (is_replaced text enc edits k) None (slice_get text k)) ≡ over (at_place text enc edits) 0 (k + 1)
over_places-more text enc edits k made so_far =
    (λ i. (so_far i ++ put_in text enc edits k) ++ kept (is_replaced text enc edits k) (slice_get text k) i)
    ∙ append_assoc (over (at_place text enc edits) 0 k) (put_in text enc edits k) (cond (is_replaced text enc edits k) [] (option_to_list (slice_get text k)))
    ∙ ap (λ here. over (at_place text enc edits) 0 k ++ here) (sym (append-nil (at_place text enc edits k)))
    ∙ sym (over_parts (at_place text enc edits) 0 k 1 k (k + 1) (omega arith) refl)
