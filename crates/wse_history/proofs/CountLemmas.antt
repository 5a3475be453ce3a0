-- Versions that rise are known: paths that stand once count for no more together than all that is known then.
use Rattle.std.proofs.Common.{◌≡◌, ℕ, ◌+◌, ◌≤◌, Bool, true, false, cond, ◌||◌, List, [], ◌∷◌, map, length, refl, sym, ap, ◌∙◌, arith}
use Rattle.std.specs.Prelude.{sum_by}
use Rattle.std.specs.List.{list_any}
use Rattle.std.specs.Ordering.{eq_by_cmp, is_eq}
use Rattle.std.specs.declared.cmp.Ordering.TheVariants.{Less, Equal, Greater}
use Rattle.std.specs.FinMap.{put}
use Rattle.std.specs.FinMap.Entries.{by_order}
use Rattle.std.proofs.lemmas.List.Sums.{sum_by-cons}
use Rattle.wse_path.specs.Path.{Path, text_of}
use Rattle.wse_path.specs.Order.{path_cmp}
use Rattle.wse_path.specs.Versions.{Numbers, version_of, bumped}
use Rattle.wse_path.specs.declared.change.Numbered.{Numbered}
use Rattle.wse_path.proofs.PathOrder.{tied_path}
use Rattle.wse_element.specs.Effects.{versions_after_each}
use Rattle.wse_history.proofs.Edited.{AreOnce}
use Rattle.wse_history.proofs.BumpLemmas.{bumps}

-- what an entry counts for
abbrev pub counts : Path × ℕ → ℕ
counts e = 32 + length (text_of e.0)

-- what the entries at other paths count for
abbrev others : List Path → Numbers → ℕ
others ps [] = 0
others ps (e ∷ vs) = cond (list_any (λ q. eq_by_cmp path_cmp q e.0) ps) 0 (counts e) + others ps vs

abbrev pub total : List Numbered → ℕ
total [] = 0
total (b ∷ bs) = counts (b.path, b.number) + total bs

fewer : (a b : Bool) (c : ℕ) → cond (a || b) 0 c ≤ cond b 0 c
fewer true true c = omega arith
fewer true false c = omega arith
fewer false b c = omega arith

sum_less : (a b c d : ℕ) → a ≤ c → b ≤ d → a + b ≤ c + d
sum_less a b c d g h = omega (arith, g, h)

others_more : (p : Path) (ps : List Path) (vs : Numbers) → others (p ∷ ps) vs ≤ others ps vs
others_more p ps [] = omega arith
others_more p ps (e ∷ vs) = sum_less _ _ _ _ (fewer (eq_by_cmp path_cmp p e.0) (list_any (λ q. eq_by_cmp path_cmp q e.0) ps) (counts e)) (others_more p ps vs)

here_first : (n m a x : ℕ) → a ≡ n → m ≤ x → n + m ≤ a + x
here_first n m a x e h = omega (arith, e, h)

here_same : (n a m z x : ℕ) → a ≡ n → z ≡ 0 → m ≤ x → n + (z + m) ≤ a + x
here_same n a m z x e f h = omega (arith, e, f, h)

here_later : (n a b m x : ℕ) → a ≤ b → n + m ≤ x → n + (a + m) ≤ b + x
here_later n a b m x g h = omega (arith, g, h)

others_put : (ps : List Path) (p : Path) (n : ℕ) (vs : Numbers) → list_any (λ q. eq_by_cmp path_cmp q p) ps ≡ false → counts (p, n) + others (p ∷ ps) vs ≤ others ps (put path_cmp p n vs)
others_put ps p n [] none = here_first (counts (p, n)) 0 (cond (list_any (λ q. eq_by_cmp path_cmp q p) ps) 0 (counts (p, n))) 0 (ap (λ b. cond b 0 (counts (p, n))) none) (omega arith)
others_put ps p n (e ∷ vs) none =
    elim (path_cmp p e.0) as (λ o. path_cmp p e.0 ≡ o → counts (p, n) + others (p ∷ ps) (e ∷ vs) ≤ others ps (by_order o ((p, n) ∷ e ∷ vs) ((e.0, n) ∷ vs) (e ∷ put path_cmp p n vs))) [
      | Less ↦ λ o. here_first _ _ _ _ (ap (λ b. cond b 0 (counts (p, n))) none) (others_more p ps (e ∷ vs))
      | Equal ↦ λ o.
          let same : p ≡ e.0 = tied_path p e.0 o in
          here_same _ _ _ _ _
          (ap (λ x. cond (list_any (λ q. eq_by_cmp path_cmp q x) ps) 0 (counts (x, n))) (sym same) ∙ ap (λ b. cond b 0 (counts (p, n))) none)
          (ap (λ r. cond (is_eq r || list_any (λ q. eq_by_cmp path_cmp q e.0) ps) 0 (counts e)) o)
          (others_more p ps vs)
      | Greater ↦ λ o. here_later _ _ _ _ _ (fewer (eq_by_cmp path_cmp p e.0) (list_any (λ q. eq_by_cmp path_cmp q e.0) ps) (counts e)) (others_put ps p n vs none)
    ] refl

one_more : (n t m x y : ℕ) → n + m ≤ x → t + x ≤ y → n + t + m ≤ y
one_more n t m x y g h = omega (arith, g, h)

total_each : (vs : Numbers) (bs : List Numbered) → AreOnce (map (λ b. b.path) bs) → total bs + others (map (λ b. b.path) bs) vs ≤ others [] (versions_after_each vs (bumps bs))
total_each vs [] once = omega arith
total_each vs (b ∷ bs) once =
    one_more _ _ _ _ _ (others_put (map (λ (x : Numbered). x.path) bs) b.path (version_of vs b.path + b.number) vs once.0) (total_each (bumped vs b.path b.number) bs once.1)

others_none : (vs : Numbers) → others [] vs ≡ sum_by counts vs
others_none [] = refl
others_none (e ∷ vs) = ap (λ n. counts e + n) (others_none vs) ∙ sym (sum_by-cons counts e vs)

last_step : (t m x y : ℕ) → t + m ≤ x → x ≡ y → t ≤ y
last_step t m x y g e = omega (arith, g, e)

pub total_within : (vs : Numbers) (bs : List Numbered) → AreOnce (map (λ b. b.path) bs) → total bs ≤ sum_by counts (versions_after_each vs (bumps bs))
total_within vs bs once = last_step _ _ _ _ (total_each vs bs once) (others_none (versions_after_each vs (bumps bs)))
