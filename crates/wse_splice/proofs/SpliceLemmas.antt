-- Splices one behind the other, and the text that they make from a place on.
use Rattle.std.proofs.Common.{◌≡◌, ℕ, ◌+◌, ◌-◌, ◌<◌, ◌≤◌, suc, Bool, true, false, ◌&&◌, ◌||◌, List, [], ◌∷◌, ◌++◌, length, take, drop, filter, get_or, cond, eqb, ltb, leb, subst, refl, sym, ap, ◌∙◌, append_assoc, arith}
use Rattle.std.specs.List.{flat_map, slice_get}
use Rattle.std.specs.Option.{option_to_list}
use Rattle.std.proofs.lemmas.Bool.{ltb-true, ne_eqb, lt-leb, le-leb, lt-ltb, le-ltb, and_left, or_from}
use Rattle.std.proofs.lemmas.List.{append-nil, take_all, length-drop, drop_more, drop_all, take_rest}
use Rattle.wse_splice.specs.declared.splice.Splice.{Splice}
use Rattle.wse_splice.specs.Splice.{Fits, put_in_at, is_replaced, spliced}
use Rattle.wse_splice.proofs.PlaceLemmas.{over, over_parts, over_same, over_nothing, over_bytes, over_first}

-- The splices lie behind d, each behind the one before it, in a text of n bytes.
abbrev pub FitsFrom : ℕ → List Splice → ℕ → Type 0
FitsFrom d [] n = d ≤ n
FitsFrom d (s ∷ ss) n = (d ≤ s.start) × (s.start ≤ s.end) × FitsFrom s.end ss n

Fits-tail : (s : Splice) (ss : List Splice) (n : ℕ) → Fits (s ∷ ss) n → Fits ss n
Fits-tail s ss n fits = record {
  within = λ k d low. fits.within (suc k) d (omega arith);
  ordered = λ k d low. subst (λ j. (get_or ss k d).end ≤ (get_or (s ∷ ss) j d).start) {x = suc k + 1} {y = suc (k + 1)} (omega arith) (fits.ordered (suc k) d (omega arith));
}

fits_behind : (d : ℕ) (ss : List Splice) (n : ℕ) → Fits ss n → ((x : Splice) → 0 < length ss → d ≤ (get_or ss 0 x).start) → d ≤ n → FitsFrom d ss n
fits_behind d [] n fits first end = end
fits_behind d (s ∷ ss) n fits first end =
    let here = fits.within 0 s (omega arith) in
    (first s (omega arith), here.0, fits_behind s.end ss n (Fits-tail s ss n fits) (λ x some. fits.ordered 0 x (omega arith)) here.1)

pub FitsFrom-start : (ss : List Splice) (n : ℕ) → Fits ss n → FitsFrom 0 ss n
FitsFrom-start ss n fits = fits_behind 0 ss n fits (λ x some. omega arith) (omega arith)

pub FitsFrom-within : (d : ℕ) (ss : List Splice) (n : ℕ) → FitsFrom d ss n → d ≤ n
FitsFrom-within d [] n fits = fits
FitsFrom-within d (s ∷ ss) n fits = let behind = FitsFrom-within s.end ss n fits.2 in omega arith

-- Nothing is put in before the first splice, and nothing is replaced there.
before_all : (d : ℕ) (ss : List Splice) (n k : ℕ) → FitsFrom d ss n → k < d → (put_in_at ss k ≡ []) × (is_replaced ss k ≡ false)
before_all d [] n k fits low = (refl, refl)
before_all d (s ∷ ss) n k fits low =
    let low' : k < s.end = omega arith in
    let behind = before_all s.end ss n k fits.2 low' in
    let rest = filter (λ (s : Splice). eqb s.start k) ss in (
      ap (λ b. flat_map (λ (s : Splice). s.text) (cond b (s ∷ rest) rest)) (ne_eqb s.start k (λ e. absurd (omega arith))) ∙ behind.0,
      or_from _ _ (and_left _ _ (lt-leb s.start k (omega arith))) behind.1,
    )

-- What the text after the splices has at place k of the text before.
abbrev pub at : List ℕ → List Splice → ℕ → List ℕ
at old ss k = put_in_at ss k ++ cond (is_replaced ss k) [] (option_to_list (slice_get old k))

untouched : (old : List ℕ) (d : ℕ) (ss : List Splice) (n k : ℕ) → FitsFrom d ss n → k < d → at old ss k ≡ option_to_list (slice_get old k)
untouched old d ss n k fits low =
    let none = before_all d ss n k fits low in
    λ i. none.0 i ++ cond (none.1 i) [] (option_to_list (slice_get old k))

one_more_cases : (e l t r : Bool) (s : Splice) (rest : List Splice) (byte : List ℕ) → l ≡ true → (t ≡ true → flat_map (λ s. s.text) rest ≡ []) → flat_map (λ s. s.text) (cond e (s ∷ rest) rest) ++ cond (l && t || r) [] byte ≡ cond e s.text [] ++ cond t [] (flat_map (λ s. s.text) rest ++ cond r [] byte)
one_more_cases e false t r s rest byte reached none = cc
one_more_cases true true true r s rest byte reached none = ap (λ t. (s.text ++ t) ++ []) (none refl) ∙ append-nil _
one_more_cases true true false r s rest byte reached none = append_assoc s.text _ _
one_more_cases false true true r s rest byte reached none = ap (λ t. t ++ []) (none refl)
one_more_cases false true false r s rest byte reached none = refl

-- From the start of the first splice on it puts in its text there, and takes the place of what follows up to its end.
one_more : (old : List ℕ) (s : Splice) (ss : List Splice) (n k : ℕ) → FitsFrom s.end ss n → s.start ≤ k → at old (s ∷ ss) k ≡ cond (eqb s.start k) s.text [] ++ cond (ltb k s.end) [] (at old ss k)
one_more old s ss n k fits reached =
    one_more_cases (eqb s.start k) (leb s.start k) (ltb k s.end) (is_replaced ss k) s (filter (λ (s : Splice). eqb s.start k) ss) (option_to_list (slice_get old k)) (le-leb s.start k reached) (λ low. (before_all s.end ss n k fits (ltb-true k s.end low)).0)

-- The text after the splices from what place d of the text before became.
abbrev pub spliced_from : List ℕ → List Splice → ℕ → List ℕ
spliced_from old ss d = over (at old ss) d (length old + 1 - d)

pub spliced_from-start : (old : List ℕ) (ss : List Splice) → spliced_from old ss 0 ≡ spliced old ss
spliced_from-start old ss = ap (λ n. over (at old ss) 0 n) (omega arith)

pub spliced_from-nil : (old : List ℕ) (d : ℕ) → d ≤ length old → spliced_from old [] d ≡ drop d old
spliced_from-nil old d within = over_bytes old d (length old + 1 - d) ∙ take_all _ (drop d old) (omega (arith, length-drop d old))

behind_first : (old : List ℕ) (s : Splice) (ss : List Splice) → s.start ≤ s.end → FitsFrom s.end ss (length old) → spliced_from old (s ∷ ss) s.start ≡ s.text ++ spliced_from old ss s.end
behind_first old s ss rises fits =
    let end = FitsFrom-within s.end ss (length old) fits in
    let f = λ (k : ℕ). cond (ltb k s.end) [] (at old ss k) in
    over_same _ _ s.start (length old + 1 - s.start) (λ k low high. one_more old s ss (length old) k fits low)
    ∙ over_first f s.text s.start (length old + 1 - s.start) (omega arith)
    ∙ ap (λ t. s.text ++ t)
    (over_parts f s.start (s.end - s.start) (length old + 1 - s.end) s.end (length old + 1 - s.start) (omega arith) (omega arith)
    ∙ (λ i. over_nothing f s.start (s.end - s.start) (λ k low high. ap (λ b. cond b [] (at old ss k)) (lt-ltb k s.end (omega arith))) i
    ++ over_same f (at old ss) s.end (length old + 1 - s.end) (λ k low high. ap (λ b. cond b [] (at old ss k)) (le-ltb k s.end (omega arith))) i))

-- The bytes up to the first splice, its text, and what the others make behind it.
pub spliced_from-cons : (old : List ℕ) (d : ℕ) (s : Splice) (ss : List Splice) → FitsFrom d (s ∷ ss) (length old) → spliced_from old (s ∷ ss) d ≡ (take (s.start - d) (drop d old) ++ s.text) ++ spliced_from old ss s.end
spliced_from-cons old d s ss fits =
    let end = FitsFrom-within s.end ss (length old) fits.2 in
    over_parts (at old (s ∷ ss)) d (s.start - d) (length old + 1 - s.start) s.start (length old + 1 - d) (omega arith) (omega arith)
    ∙ (λ i. (over_same (at old (s ∷ ss)) (λ k. option_to_list (slice_get old k)) d (s.start - d) (λ k low high. untouched old s.start (s ∷ ss) (length old) k (omega arith, fits.1, fits.2) (omega arith)) ∙ over_bytes old d (s.start - d)) i
    ++ behind_first old s ss fits.1 fits.2 i)
    ∙ sym (append_assoc (take (s.start - d) (drop d old)) s.text (spliced_from old ss s.end))

-- What is made of the old text up to `done`, and what the splices that are left will make behind it, is the whole.
pub record IsMadeUpTo (old : List ℕ) (all : List Splice) (done : ℕ) (left : List Splice) (made : List ℕ) : Type 0 where
  pub fits : FitsFrom done left (length old)
  pub whole : made ++ spliced_from old left done ≡ spliced old all

pub IsMadeUpTo-start : (old : List ℕ) (all : List Splice) → Fits all (length old) → IsMadeUpTo old all 0 all []
IsMadeUpTo-start old all fits = record { fits = FitsFrom-start all (length old) fits; whole = spliced_from-start old all }

IsMadeUpTo-more : (old : List ℕ) (all : List Splice) (done : ℕ) (s : Splice) (left : List Splice) (made : List ℕ) → IsMadeUpTo old all done (s ∷ left) made → IsMadeUpTo old all s.end left ((made ++ take (s.start - done) (drop done old)) ++ s.text)
IsMadeUpTo-more old all done s left made up = record {
  fits = up.fits.2;
  whole =
      append_assoc (made ++ take (s.start - done) (drop done old)) s.text (spliced_from old left s.end)
      ∙ append_assoc made (take (s.start - done) (drop done old)) (s.text ++ spliced_from old left s.end)
      ∙ ap (λ t. made ++ t) (sym (append_assoc (take (s.start - done) (drop done old)) s.text (spliced_from old left s.end)) ∙ sym (spliced_from-cons old done s left up.fits))
      ∙ up.whole;
}

-- The first of the splices that are left, read at its place among all.
left_first : (all : List Splice) (i : ℕ) (s : Splice) → i < length all → s ≡ get_or all i s → drop i all ≡ s ∷ drop (i + 1) all
left_first all i s low is = drop_more all i s low ∙ ap (λ t. t ∷ drop (i + 1) all) (sym is)

pub IsMadeUpTo-step : (old : List ℕ) (all : List Splice) (done i : ℕ) (s : Splice) (made : List ℕ) → IsMadeUpTo old all done (drop i all) made → i < length all → s ≡ get_or all i s → IsMadeUpTo old all s.end (drop (i + 1) all) ((made ++ take (s.start - done) (drop done old)) ++ s.text)
IsMadeUpTo-step old all done i s made up low is =
    IsMadeUpTo-more old all done s (drop (i + 1) all) made (subst (λ left. IsMadeUpTo old all done left made) (left_first all i s low is) up)

pub IsMadeUpTo-bounds : (old : List ℕ) (all : List Splice) (done i : ℕ) (s : Splice) (made : List ℕ) → IsMadeUpTo old all done (drop i all) made → i < length all → s ≡ get_or all i s → (done ≤ s.start) × (s.start ≤ s.end) × (s.end ≤ length old)
IsMadeUpTo-bounds old all done i s made up low is =
    let fits : FitsFrom done (s ∷ drop (i + 1) all) (length old) = subst (λ left. FitsFrom done left (length old)) (left_first all i s low is) up.fits in
    (fits.0, fits.1, FitsFrom-within s.end (drop (i + 1) all) (length old) fits.2)

pub IsMadeUpTo-end : (old : List ℕ) (all : List Splice) (done i : ℕ) (made : List ℕ) → IsMadeUpTo old all done (drop i all) made → length all ≤ i → made ++ take (length old - done) (drop done old) ≡ spliced old all
IsMadeUpTo-end old all done i made up none_left =
    let end : IsMadeUpTo old all done [] made = subst (λ left. IsMadeUpTo old all done left made) (drop_all i all none_left) up in
    ap (λ t. made ++ t) (take_rest old done ∙ sym (spliced_from-nil old done end.fits)) ∙ end.whole
