-- What records count for after effects, record by record.
use Rattle.std.proofs.Common.{◌≡◌, ℕ, suc, zero, ◌+◌, ◌-◌, ◌^◌, ◌<◌, ◌≤◌, min, Bool, true, false, ◌||◌, not, cond, List, [], ◌∷◌, ◌++◌, map, length, take, drop, get_or, refl, sym, ap, ◌∙◌, arith, append_assoc, append-nil}
use Rattle.std.specs.Prelude.{is_some, option_map, Option, Some, None, sum_by}
use Rattle.std.specs.List.{list_any}
use Rattle.std.proofs.lemmas.Bool.{or_parts, or_from, not-false}
use Rattle.std.proofs.lemmas.List.{take_more}
use Rattle.std.proofs.lemmas.List.Concat.{flat_map-append}
use Rattle.std.proofs.lemmas.List.Sums.{sum_by-cons, sum_by-append}
use Rattle.wse_path.specs.Path.{Path}
use Rattle.wse_path.specs.PathMap.{capped}
use Rattle.wse_element.specs.declared.state.PartState.{PartState}
use Rattle.wse_element.specs.declared.state.PartState.TheVariants.{Live, Closed, Incompatible}
use Rattle.wse_element.specs.declared.effect.Effect.{Effect}
use Rattle.wse_element.specs.declared.effect.Effect.TheVariants.{Push, MoveBack, MoveForward, Split, Drop, Invalidate, Bump, Set}
use Rattle.wse_element.specs.Record.{RecordPart, Record}
use Rattle.wse_element.specs.Live.{is_live_part_at, live_part, is_live_at, has_live}
use Rattle.wse_element.specs.Losses.{part_invalid_at, invalid_at, lost_at, future_lost_at}
use Rattle.wse_element.specs.Split.{pieces}
use Rattle.wse_element.specs.Stacks.{has_id}
use Rattle.wse_element.specs.State.{StacksState}
use Rattle.wse_element.specs.Effects.{marked_one, records_after, after, after_each}
use Rattle.wse_element.specs.Weight.{part_weight, record_weight, weight}
use Rattle.wse_element.proofs.LiveLemmas.{live_part-invalid_at, invalid_has_live}
use Rattle.wse_stacks.specs.Image.{if_live, image_lost, image, images}
use Rattle.wse_stacks.specs.Weigh.{images_each, pushed_by, brought, takes, loses}
use Rattle.wse_stacks.proofs.ImageLemmas.{lost_elsewhere, images_are}

-- ---- one by one

images-append : (e : Effect) (xs ys : List Record) → images e (xs ++ ys) ≡ images e xs ++ images e ys
images-append e xs ys = flat_map-append (image e) xs ys

images_each-append : (es : List Effect) (xs ys : List Record) → images_each es (xs ++ ys) ≡ images_each es xs ++ images_each es ys
images_each-append [] xs ys = refl
images_each-append (e ∷ es) xs ys = ap (images_each es) (images-append e xs ys) ∙ images_each-append es (images e xs) (images e ys)

pub images_none : (es : List Effect) → images_each es [] ≡ []
images_none [] = refl
images_none (e ∷ es) = images_none es

images_one_more : (es : List Effect) (e : Effect) (rs : List Record) → images_each (es ++ e ∷ []) rs ≡ images e (images_each es rs)
images_one_more [] e rs = refl
images_one_more (x ∷ es) e rs = images_one_more es e (images x rs)

pub images_more : (es : List Effect) (i : ℕ) (e : Effect) (rs : List Record) → i < length es → e ≡ get_or es i e → images_each (take (i + 1) es) rs ≡ images e (images_each (take i es) rs)
images_more es i e rs l is = ap (λ xs. images_each xs rs) (take_more es i e l ∙ ap (λ x. take i es ++ x ∷ []) (sym is)) ∙ images_one_more (take i es) e rs

pub none_pushed : (e : Effect) → ((r : Record) → e ≡ Push r → ⊥) → pushed_by e ≡ []
none_pushed (Push r) h = absurd (h r refl)
none_pushed (MoveBack id) h = refl
none_pushed (MoveForward id) h = refl
none_pushed (Split id first) h = refl
none_pushed (Drop path reason) h = refl
none_pushed (Invalidate path) h = refl
none_pushed (Bump path by) h = refl
none_pushed (Set path content) h = refl

-- an effect leaves what is left of each record, and its new one
pub after_is : (rs : List Record) (e : Effect) → records_after rs e ≡ images e rs ++ pushed_by e
after_is rs (Push r) = ap (λ xs. xs ++ r ∷ []) (sym (same rs))
  where
    same : (xs : List Record) → images (Push r) xs ≡ xs
    same [] = refl
    same (x ∷ xs) = ap (λ ys. x ∷ ys) (same xs)
after_is rs (MoveBack id) = sym (images_are rs (MoveBack id) tt) ∙ sym (append-nil (images (MoveBack id) rs))
after_is rs (MoveForward id) = sym (images_are rs (MoveForward id) tt) ∙ sym (append-nil (images (MoveForward id) rs))
after_is rs (Split id first) = sym (images_are rs (Split id first) tt) ∙ sym (append-nil (images (Split id first) rs))
after_is rs (Drop path reason) = sym (images_are rs (Drop path reason) tt) ∙ sym (append-nil (images (Drop path reason) rs))
after_is rs (Invalidate path) = sym (images_are rs (Invalidate path) tt) ∙ sym (append-nil (images (Invalidate path) rs))
after_is rs (Bump path by) = sym (images_are rs (Bump path by) tt) ∙ sym (append-nil (images (Bump path by) rs))
after_is rs (Set path content) = sym (images_are rs (Set path content) tt) ∙ sym (append-nil (images (Set path content) rs))

pub after_each_is : (h : StacksState) (es : List Effect) → (after_each h es).records ≡ images_each es h.records ++ brought es
after_each_is h [] = sym (append-nil h.records)
after_each_is h (e ∷ es) =
    after_each_is (after h e) es
    ∙ ap (λ rs. images_each es rs ++ brought es) (after_is h.records e)
    ∙ ap (λ rs. rs ++ brought es) (images_each-append es (images e h.records) (pushed_by e))
    ∙ append_assoc (images_each es (images e h.records)) (images_each es (pushed_by e)) (brought es)

-- ---- sums

weight-append : (xs ys : List Record) → weight (xs ++ ys) ≡ weight xs + weight ys
weight-append xs ys = sum_by-append record_weight xs ys

weight_one : (r : Record) → weight (r ∷ []) ≡ record_weight r
weight_one r = (let all = sum_by-cons record_weight r [] in omega (arith, all))

cap_sum : (s w a b all : ℕ) → s ≡ capped a → w ≡ capped b → all ≡ a + b → min (s + w) (2 ^ 64 - 1) ≡ capped all
cap_sum s w a b all h k l = omega (arith, h, k, l)

pub left_more : (es : List Effect) (rs : List Record) (i : ℕ) (r : Record) (s w : ℕ) → i < length rs → r ≡ get_or rs i r → s ≡ capped (weight (images_each es (take i rs)))
    → w ≡ capped (weight (images_each es (r ∷ []))) → min (s + w) (2 ^ 64 - 1) ≡ capped (weight (images_each es (take (i + 1) rs)))
left_more es rs i r s w l is h k =
    let now = take i rs in
    let all : weight (images_each es (take (i + 1) rs)) ≡ weight (images_each es now) + weight (images_each es (r ∷ [])) =
    ap (λ xs. weight (images_each es xs)) (take_more rs i r l ∙ ap (λ x. now ++ x ∷ []) (sym is))
    ∙ ap weight (images_each-append es now (r ∷ []))
    ∙ weight-append (images_each es now) (images_each es (r ∷ [])) in
    cap_sum s w (weight (images_each es now)) (weight (images_each es (r ∷ []))) (weight (images_each es (take (i + 1) rs))) h k all

-- ---- records from which nothing is taken

-- the second counts for as much as the first, and the same effects take from it
record Alike (r s : Record) : Type 0 where
  id : s.id ≡ r.id
  at : (p : Path) → is_live_at p s ≡ is_live_at p r
  live : has_live s ≡ has_live r
  weighs : record_weight s ≡ record_weight r

loses_alike : (r s : Record) → Alike r s → (e : Effect) → loses s e ≡ loses r e
loses_alike r s a (Push x) = refl
loses_alike r s a (MoveBack id) = refl
loses_alike r s a (MoveForward id) = refl
loses_alike r s a (Split id first) = ap (λ n. has_id id (record r { id = n })) a.id
loses_alike r s a (Drop path reason) = λ i. a.at path i || not (a.live i)
loses_alike r s a (Invalidate path) = refl
loses_alike r s a (Bump path by) = refl
loses_alike r s a (Set path content) = refl

lose_alike : (r s : Record) → Alike r s → (es : List Effect) → list_any (loses s) es ≡ list_any (loses r) es
lose_alike r s a [] = refl
lose_alike r s a (e ∷ es) = λ i. loses_alike r s a e i || lose_alike r s a es i

marked_alike : (id : ℕ) (done : Bool) (r : Record) → Alike r (marked_one id done r)
marked_alike id done r =
    elim (has_id id r) as (λ b. Alike r (cond b (record r { done = done }) r)) [
      | true ↦ record { id = refl; at = λ p. refl; live = refl; weighs = refl }
      | false ↦ record { id = refl; at = λ p. refl; live = refl; weighs = refl }
    ]

some_map : {A B : Type 0} (f : A → B) (o : Option A) → is_some (option_map f o) ≡ is_some o
some_map f None = refl
some_map f (Some a) = refl

part_weighs : (label : List ℕ) (q : Path) (part : RecordPart) → part_weight label (part_invalid_at q part) ≡ part_weight label part
part_weighs label q part = elim (is_live_part_at q part) as (λ b. part_weight label (cond b (record part { valid = false }) part) ≡ part_weight label part) [ true ↦ refl | false ↦ refl ]

same_sums : (x a b y c d : ℕ) → x ≡ a + b → y ≡ c + d → a ≡ c → b ≡ d → x ≡ y
same_sums x a b y c d e f g h = omega (arith, e, f, g, h)

parts_weigh : (label : List ℕ) (q : Path) (parts : List RecordPart) → sum_by (part_weight label) (map (part_invalid_at q) parts) ≡ sum_by (part_weight label) parts
parts_weigh label q [] = refl
parts_weigh label q (part ∷ parts) =
    same_sums _ _ _ _ _ _ (sum_by-cons (part_weight label) (part_invalid_at q part) (map (part_invalid_at q) parts)) (sum_by-cons (part_weight label) part parts)
    (part_weighs label q part) (parts_weigh label q parts)

invalid_alike : (q : Path) (r : Record) → Alike r (invalid_at q r)
invalid_alike q r = record {
  id = refl;
  at = λ p. ap is_some (live_part-invalid_at p q r) ∙ some_map (part_invalid_at q) (live_part p r);
  live = invalid_has_live q r;
  weighs = parts_weigh r.label q r.parts;
}

stays : (path : Path) (reason : PartState) (r : Record) → is_live_at path r ≡ false → has_live r ≡ true → image_lost path reason r ≡ r ∷ []
stays path Live r away live = refl
stays path Closed r away live = ap if_live (lost_elsewhere path Closed r away) ∙ ap (λ b. cond b (r ∷ []) []) live
stays path Incompatible r away live = ap if_live same ∙ ap (λ b. cond b (r ∷ []) []) live
  where
    same : future_lost_at path r ≡ r
    same = elim r.done as (λ b. cond b r (lost_at path Incompatible r) ≡ r) [ true ↦ refl | false ↦ lost_elsewhere path Incompatible r away ]

-- what one such effect leaves
record One (e : Effect) (r : Record) : Type 0 where
  left : Record
  is : images e (r ∷ []) ≡ left ∷ []
  alike : Alike r left

itself : (r : Record) → Alike r r
itself r = record { id = refl; at = λ p. refl; live = refl; weighs = refl }

one_left : (e : Effect) (r : Record) → loses r e ≡ false → One e r
one_left (Push x) r h = record { left = r; is = refl; alike = itself r }
one_left (MoveBack id) r h = record { left = marked_one id false r; is = refl; alike = marked_alike id false r }
one_left (MoveForward id) r h = record { left = marked_one id true r; is = refl; alike = marked_alike id true r }
one_left (Split id first) r h = record { left = r; is = ap (λ b. cond b (pieces r first) (r ∷ []) ++ []) h; alike = itself r }
one_left (Drop path reason) r h =
    let parts = or_parts (is_live_at path r) (not (has_live r)) h in
    record { left = r; is = ap (λ rs. rs ++ []) (stays path reason r parts.0 (not-false (has_live r) parts.1)); alike = itself r }
one_left (Invalidate path) r h = record { left = invalid_at path r; is = refl; alike = invalid_alike path r }
one_left (Bump path by) r h = record { left = r; is = refl; alike = itself r }
one_left (Set path content) r h = record { left = r; is = refl; alike = itself r }

pub kept_weight : (es : List Effect) (r : Record) → list_any (loses r) es ≡ false → weight (images_each es (r ∷ [])) ≡ record_weight r
kept_weight [] r h = weight_one r
kept_weight (e ∷ es) r h =
    let parts = or_parts (loses r e) (list_any (loses r) es) h in
    let one = one_left e r parts.0 in
    ap (λ rs. weight (images_each es rs)) one.is
    ∙ kept_weight es one.left (lose_alike r one.left one.alike es ∙ parts.1)
    ∙ one.alike.weighs

-- ---- effects that take from none

takes_none : (r : Record) (e : Effect) → takes e ≡ false → loses r e ≡ false
takes_none r (Push x) h = refl
takes_none r (MoveBack id) h = refl
takes_none r (MoveForward id) h = refl
takes_none r (Split id first) h = cc
takes_none r (Drop path reason) h = cc
takes_none r (Invalidate path) h = refl
takes_none r (Bump path by) h = refl
takes_none r (Set path content) h = refl

take_none : (r : Record) (es : List Effect) → list_any takes es ≡ false → list_any (loses r) es ≡ false
take_none r [] h = refl
take_none r (e ∷ es) h =
    let parts = or_parts (takes e) (list_any takes es) h in
    or_from (loses r e) (list_any (loses r) es) (takes_none r e parts.0) (take_none r es parts.1)

pub all_kept : (es : List Effect) (rs : List Record) → list_any takes es ≡ false → weight (images_each es rs) ≡ weight rs
all_kept es [] none = ap weight (images_none es)
all_kept es (r ∷ rs) none =
    ap weight (images_each-append es (r ∷ []) rs)
    ∙ same_sums _ _ _ _ _ _ (weight-append (images_each es (r ∷ [])) (images_each es rs)) (sum_by-cons record_weight r rs) (kept_weight es r (take_none r es none)) (all_kept es rs none)

-- ---- new records

drop_at : (es : List Effect) (i : ℕ) (e : Effect) → i < length es → e ≡ get_or es i e → drop i es ≡ e ∷ drop (suc i) es
drop_at [] i e l is = absurd (omega arith)
drop_at (x ∷ es) zero e l is = ap (λ y. y ∷ es) (sym is)
drop_at (x ∷ es) (suc i) e l is = drop_at es i e (omega arith) is

cap_step : (all before now s w a b : ℕ) → all ≡ capped (s + before) → before ≡ a + b → w ≡ capped a → now ≡ min (s + w) (2 ^ 64 - 1) → all ≡ capped (now + b)
cap_step all before now s w a b h k l m = omega (arith, h, k, l, m)

pub brought_more : (es : List Effect) (i : ℕ) (e : Effect) (s w now all : ℕ) → i < length es → e ≡ get_or es i e → all ≡ capped (s + weight (brought (drop i es)))
    → w ≡ capped (weight (images_each (drop (i + 1) es) (pushed_by e))) → now ≡ min (s + w) (2 ^ 64 - 1) → all ≡ capped (now + weight (brought (drop (i + 1) es)))
brought_more es i e s w now all l is h k m =
    let next : suc i ≡ i + 1 = omega arith in
    let more = drop (i + 1) es in
    let parts : weight (brought (drop i es)) ≡ weight (images_each more (pushed_by e)) + weight (brought more) =
    ap (λ xs. weight (brought xs)) (drop_at es i e l is ∙ ap (λ n. e ∷ drop n es) next) ∙ weight-append (images_each more (pushed_by e)) (brought more) in
    cap_step all (weight (brought (drop i es))) now s w (weight (images_each more (pushed_by e))) (weight (brought more)) h parts k m

drop_end : (es : List Effect) (i : ℕ) → length es ≤ i → drop i es ≡ []
drop_end [] zero l = refl
drop_end [] (suc i) l = refl
drop_end (x ∷ es) zero l = absurd (omega arith)
drop_end (x ∷ es) (suc i) l = drop_end es i (omega arith)

cap_end : (all s : ℕ) → all ≡ capped (s + 0) → s ≤ 2 ^ 64 - 1 → s ≡ all
cap_end all s h l = omega (arith, h, l)

pub brought_all : (es : List Effect) (i s all : ℕ) → length es ≤ i → s ≤ 2 ^ 64 - 1 → all ≡ capped (s + weight (brought (drop i es))) → s ≡ all
brought_all es i s all l small h = cap_end all s (h ∙ ap (λ xs. capped (s + weight (brought xs))) (drop_end es i l)) small

-- ---- all

pub whole_weight : (h : StacksState) (es : List Effect) (s w now : ℕ) → s ≡ capped (weight (images_each es h.records)) → w ≡ capped (weight (brought es)) → now ≡ min (s + w) (2 ^ 64 - 1)
    → now ≡ capped (weight (after_each h es).records)
whole_weight h es s w now a b c =
    c ∙ cap_sum s w (weight (images_each es h.records)) (weight (brought es)) (weight (after_each h es).records) a b
    (ap weight (after_each_is h es) ∙ weight-append (images_each es h.records) (brought es))
