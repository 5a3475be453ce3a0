-- Segments that are texts, and one that is none.
use Rattle.std.proofs.Common.{◌≡◌, ℕ, zero, suc, ◌<◌, Bool, true, false, ◌&&◌, List, [], ◌∷◌, length, get_or, Some, None, Vec, IsUtf8, refl, arith}
use Rattle.std.specs.List.{All, AllByRecursion, list_all}
use Rattle.std.specs.Str.{is_utf8}
use Rattle.std.proofs.lemmas.Str.{IsUtf8-from_is_utf8, is_utf8-from_IsUtf8}
use Rattle.std.proofs.lemmas.List.Elements.{recursion_from_All}
use Rattle.wse_path.specs.Path.{Path}
use Rattle.wse_codec.specs.Gives.{bytes_in, texts_in, text_in}

all_texts : (ss : Path) → AllByRecursion IsUtf8 ss → list_all is_utf8 ss ≡ true
all_texts [] h = refl
all_texts (s ∷ ss) h = rw (is_utf8-from_IsUtf8 s h.0, all_texts ss h.1) refl

pub texts_some : (ss : Path) → All IsUtf8 ss → texts_in ss ≡ Some ss
texts_some ss h = rw (all_texts ss (recursion_from_All IsUtf8 ss h)) refl

and_false : (b : Bool) → (b && false) ≡ false
and_false true = refl
and_false false = refl

not_text : (s : List ℕ) → (IsUtf8 s → ⊥) → is_utf8 s ≡ false
not_text s h = elim (is_utf8 s) as (λ b. is_utf8 s ≡ b → b ≡ false) [
  | true ↦ λ e. absurd (h (IsUtf8-from_is_utf8 s e))
  | false ↦ λ e. refl
] refl

bad_at : {A : Type 0} (segments : List (Vec ℕ A)) (i : ℕ) (d : Vec ℕ A) → i < length segments → (IsUtf8 (get_or segments i d).items → ⊥) → list_all is_utf8 (bytes_in segments) ≡ false
bad_at [] i d lt h = absurd (omega (arith, lt))
bad_at (s ∷ ss) zero d lt h = rw (not_text s.items h) refl
bad_at (s ∷ ss) (suc i) d lt h = rw (bad_at ss i d (omega (arith, lt)) h) (and_false (is_utf8 s.items))

pub texts_none : {A : Type 0} (segments : List (Vec ℕ A)) (i : ℕ) (d : Vec ℕ A) → i < length segments → (IsUtf8 (get_or segments i d).items → ⊥) → texts_in (bytes_in segments) ≡ None
texts_none segments i d lt h = rw (bad_at segments i d lt h) refl

pub text_some : (s : List ℕ) → IsUtf8 s → text_in s ≡ Some s
text_some s h = rw (is_utf8-from_IsUtf8 s h) refl

pub text_none : (s : List ℕ) → (IsUtf8 s → ⊥) → text_in s ≡ None
text_none s h = rw (not_text s h) refl
