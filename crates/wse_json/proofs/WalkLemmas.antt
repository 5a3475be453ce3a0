-- Readings of items and entries one after another, and refusals seen from further out.
use Rattle.std.proofs.Common.{◌≡◌, ℕ, ◌+◌, ◌<◌, ◌≤◌, List, [], ◌∷◌, ◌++◌, length, drop, get_or, Result, Ok, Err, String, Global, string_bytes, ◌⊎◌, inl, inr, refl, sym, ap, ◌∙◌, append_assoc}
use Rattle.std.proofs.lemmas.List.{at_drop_more, at_drop_all, append-nil}
use Rattle.serde_json.specs.Data.{Data}
use Rattle.serde_json.specs.View.{view, items_view, members_view}
use Rattle.serde_json.specs.declared.value.Value.{Value}
use Rattle.wse_json.specs.declared.shape.Shape.{Shape}
use Rattle.wse_json.specs.declared.shape.Shape.TheVariants.{Memory}
use Rattle.wse_json.specs.Kinds.{items_from, entries_of}
use Rattle.wse_json.specs.Shapes.{behind, under, to_member, to_item, ◌>>=◌}

-- What was refused inside, seen from further out. Want of memory is free.
pub under_refused : {X : Type 0} (step : List ℕ) (r : Result X Shape) (why seen : Shape) → (why ≡ Memory) ⊎ (r ≡ Err why) → (seen ≡ Memory) ⊎ (seen ≡ behind step why) → (seen ≡ Memory) ⊎ (under step r ≡ Err seen)
under_refused step r why seen inner (inl starved) = inl starved
under_refused step r why seen (inl starved) (inr is) = inl (is ∙ ap (behind step) starved)
under_refused step r why seen (inr refused) (inr is) = inr (ap (under step) refused ∙ ap Err (sym is))

-- The whole list, where these stand in front of what is still to be read.
abbrev pub read_behind : {X : Type 0} → List X → Result (List X) Shape → Result (List X) Shape
read_behind done (Ok rest) = Ok (done ++ rest)
read_behind done (Err why) = Err why

pub after-nil : {X : Type 0} (r : Result (List X) Shape) → r ≡ read_behind [] r
after-nil (Ok rest) = refl
after-nil (Err why) = refl

abbrev with_first : {X : Type 0} → X → Result (List X) Shape → Result (List X) Shape
with_first x rest = rest >>= (λ xs. Ok (x ∷ xs))

after_more : {X : Type 0} (done : List X) (x : X) (rest : Result (List X) Shape) → read_behind done (with_first x rest) ≡ read_behind (done ++ x ∷ []) rest
after_more done x (Ok xs) = ap Ok (sym (append_assoc done (x ∷ []) xs))
after_more done x (Err why) = refl

abbrev first_and : {X : Type 0} → List ℕ → Result (List X) Shape → Result X Shape → Result (List X) Shape
first_and step rest r = under step r >>= (λ x. with_first x rest)

first_refused : {X : Type 0} (done : List X) (step : List ℕ) (rest : Result (List X) Shape) (r : Result X Shape) (why : Shape) → r ≡ Err why → read_behind done (first_and step rest r) ≡ Err (behind step why)
first_refused done step rest r why e = ap (λ r. read_behind done (first_and step rest r)) e

refused_by : {X : Type 0} (whole : Result (List X) Shape) (done : List X) (step : List ℕ) (rest : Result (List X) Shape) (r : Result X Shape) (why seen : Shape) → whole ≡ read_behind done (first_and step rest r) → (why ≡ Memory) ⊎ (r ≡ Err why) → (seen ≡ Memory) ⊎ (seen ≡ behind step why) → (seen ≡ Memory) ⊎ (whole ≡ Err seen)
refused_by whole done step rest r why seen so_far inner (inl starved) = inl starved
refused_by whole done step rest r why seen so_far (inl starved) (inr is) = inl (is ∙ ap (behind step) starved)
refused_by whole done step rest r why seen so_far (inr refused) (inr is) = inr (so_far ∙ first_refused done step rest r why refused ∙ ap Err (sym is))

read_by : {X : Type 0} (whole : Result (List X) Shape) (done : List X) (step : List ℕ) (rest : Result (List X) Shape) (r : Result X Shape) (x : X) → whole ≡ read_behind done (first_and step rest r) → r ≡ Ok x → whole ≡ read_behind (done ++ x ∷ []) rest
read_by whole done step rest r x so_far e = so_far ∙ ap (λ r. read_behind done (first_and step rest r)) e ∙ after_more done x rest

-- ---- items

module _ {X : Type 0} (read : Data → Result X Shape) (vs : List Value) where
  -- What is still to be read from that item on.
  abbrev pub left : ℕ → Result (List X) Shape
  left i = items_from read i (items_view (drop i vs))

  left-more : (i : ℕ) (d : Value) → i < length vs → left i ≡ first_and (to_item i) (left (i + 1)) (read (view (get_or vs i d)))
  left-more i d low = at_drop_more (λ ws. items_from read i (items_view ws)) vs i d low

  pub item_read : (whole : Result (List X) Shape) (done : List X) (i : ℕ) (d : Value) (x : X) → whole ≡ read_behind done (left i) → i < length vs → read (view (get_or vs i d)) ≡ Ok x → whole ≡ read_behind (done ++ x ∷ []) (left (i + 1))
  item_read whole done i d x so_far low e = read_by whole done (to_item i) (left (i + 1)) _ x (so_far ∙ ap (read_behind done) (left-more i d low)) e

  pub item_refused : (whole : Result (List X) Shape) (done : List X) (i : ℕ) (d : Value) (why seen : Shape) → whole ≡ read_behind done (left i) → i < length vs → (why ≡ Memory) ⊎ (read (view (get_or vs i d)) ≡ Err why) → (seen ≡ Memory) ⊎ (seen ≡ behind (to_item i) why) → (seen ≡ Memory) ⊎ (whole ≡ Err seen)
  item_refused whole done i d why seen so_far low = refused_by whole done (to_item i) (left (i + 1)) _ why seen (so_far ∙ ap (read_behind done) (left-more i d low))

  pub items_read : (whole : Result (List X) Shape) (done : List X) (i : ℕ) → whole ≡ read_behind done (left i) → length vs ≤ i → whole ≡ Ok done
  items_read whole done i so_far past = so_far ∙ ap (read_behind done) (at_drop_all (λ ws. items_from read i (items_view ws)) vs i past) ∙ ap Ok (append-nil done)

-- ---- entries

abbrev Entry : Type 0
Entry = String Global × Value

module _ {X : Type 0} (read : List ℕ → Data → Result X Shape) where
  -- What is still to be read of the entries left.
  abbrev pub entries_left : List Entry → Result (List X) Shape
  entries_left es = entries_of read (members_view es)

  pub entry_read : (whole : Result (List X) Shape) (done : List X) (e : Entry) (es : List Entry) (x : X) → whole ≡ read_behind done (entries_left (e ∷ es)) → read (string_bytes e.0) (view e.1) ≡ Ok x → whole ≡ read_behind (done ++ x ∷ []) (entries_left es)
  entry_read whole done e es x so_far is = read_by whole done (to_member (string_bytes e.0)) (entries_left es) _ x so_far is

  pub entry_refused : (whole : Result (List X) Shape) (done : List X) (e : Entry) (es : List Entry) (why seen : Shape) → whole ≡ read_behind done (entries_left (e ∷ es)) → (why ≡ Memory) ⊎ (read (string_bytes e.0) (view e.1) ≡ Err why) → (seen ≡ Memory) ⊎ (seen ≡ behind (to_member (string_bytes e.0)) why) → (seen ≡ Memory) ⊎ (whole ≡ Err seen)
  entry_refused whole done e es why seen so_far = refused_by whole done (to_member (string_bytes e.0)) (entries_left es) _ why seen so_far

  pub entries_read : (whole : Result (List X) Shape) (done : List X) → whole ≡ read_behind done (entries_left []) → whole ≡ Ok done
  entries_read whole done so_far = so_far ∙ ap Ok (append-nil done)
