-- One path that is set is apart.
use Rattle.std.proofs.Common.{◌≡◌, true, false, cond, not, ◌&&◌, ◌||◌, [], ◌∷◌, length, take, map, is_some, refl, ap, arith}
use Rattle.std.specs.Str.{bytes_eq}
use Rattle.std.specs.Cmp.Lexicographic.{pointwise}
use Rattle.std.proofs.lemmas.Bool.{le-ltb}
use Rattle.wse_path.specs.Path.{Path, is_under}
use Rattle.wse_element.specs.Content.{Content}
use Rattle.wse_element.specs.Apart.{are_apart}
use Rattle.wse_element.specs.Way.{coming}

not_under_itself : (p : Path) → is_under p p ≡ false
not_under_itself p = ap (λ b. b && pointwise bytes_eq p (take (length p) p)) (le-ltb (length p) (length p) (omega arith))

pub alone_apart : (p : Path) (bytes : Content) → are_apart (coming ((p, bytes) ∷ [])) ≡ true
alone_apart p bytes = elim (is_some bytes) as (λ b. are_apart (map (λ (c : Path × Content). c.0) (cond b ((p, bytes) ∷ []) [])) ≡ true) [ true ↦ ap (λ b. not (b || false) && true) (not_under_itself p) | false ↦ refl ]
