-- Texts put into a set one after another.
use Rattle.std.proofs.Common.{◌≡◌, ℕ, ◌+◌, ◌<◌, ◌||◌, Bool, true, false, cond, List, [], ◌∷◌, ◌++◌, length, take, get_or, refl, sym, ap, ◌∙◌}
use Rattle.std.proofs.lemmas.List.{take_more}
use Rattle.std.specs.List.{list_any}
use Rattle.std.specs.Str.{bytes_eq}
use Rattle.wse_json.specs.Members.{is_among}

or_last : (b : Bool) → b || false ≡ cond b true false
or_last true = refl
or_last false = refl

or_behind : (a b c : Bool) → a || cond b true c ≡ cond b true (a || c)
or_behind true true c = refl
or_behind true false c = refl
or_behind false true c = refl
or_behind false false c = refl

list_any-push : {X : Type 0} (p : X → Bool) (xs : List X) (x : X) → list_any p (xs ++ x ∷ []) ≡ cond (p x) true (list_any p xs)
list_any-push p [] x = or_last (p x)
list_any-push p (y ∷ ys) x = ap (λ b. p y || b) (list_any-push p ys x) ∙ or_behind (p y) (p x) (list_any p ys)

-- One text more.
pub is_among-more : (texts : List (List ℕ)) (i : ℕ) (d : List ℕ) (text : List ℕ) → i < length texts → cond (bytes_eq (get_or texts i d) text) true (is_among (take i texts) text) ≡ is_among (take (i + 1) texts) text
is_among-more texts i d text low =
    sym (ap (λ ts. is_among ts text) (take_more texts i d low) ∙ list_any-push (λ n. bytes_eq n text) (take i texts) (get_or texts i d))
