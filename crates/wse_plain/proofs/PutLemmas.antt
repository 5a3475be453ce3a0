-- An entry that is put where the walk over the entries stands.
use Rattle.std.proofs.Common.{◌≡◌, ℕ, zero, suc, ◌+◌, ◌<◌, ◌≤◌, Option, List, [], ◌∷◌, ◌++◌, length, take, drop, get_or, set, refl, sym, ap, ◌∙◌, arith}
use Rattle.std.specs.FinMap.{put}
use Rattle.std.specs.FinMap.Entries.{by_order}
use Rattle.std.specs.declared.cmp.Ordering.{Ordering}
use Rattle.std.specs.declared.cmp.Ordering.TheVariants.{Less, Equal}
use Rattle.std.proofs.lemmas.List.{drop_more, drop_all, take_all}
use Rattle.wse_path.specs.Path.{Path}
use Rattle.wse_path.specs.Order.{path_cmp}
use Rattle.wse_path.specs.Tree.{Entries, set_file, set_files}

set_there : {X : Type 0} (xs : List X) (i : ℕ) (y : X) → i < length xs → set xs i y ≡ take i xs ++ y ∷ drop (suc i) xs
set_there [] i y l = absurd (omega arith)
set_there (x ∷ xs) zero y l = refl
set_there (x ∷ xs) (suc i) y l = ap (λ ys. x ∷ ys) (set_there xs i y (omega arith))

module _ {V : Type 0} (p : Path) (v : V) (es : List (Path × V)) (i : ℕ) (walked : put path_cmp p v es ≡ take i es ++ put path_cmp p v (drop i es)) where
  module _ (e : Path × V) (l : i < length es) (is : e ≡ get_or es i e) where
    there : drop i es ≡ e ∷ drop (i + 1) es
    there = drop_more es i e l ∙ ap (λ x. x ∷ drop (i + 1) es) (sym is)

    here : (o : Ordering) → path_cmp p e.0 ≡ o → put path_cmp p v es ≡ take i es ++ by_order o ((p, v) ∷ e ∷ drop (i + 1) es) ((e.0, v) ∷ drop (i + 1) es) (e ∷ put path_cmp p v (drop (i + 1) es))
    here o h =
        walked
        ∙ ap (λ xs. take i es ++ put path_cmp p v xs) there
        ∙ ap (λ r. take i es ++ by_order r ((p, v) ∷ e ∷ drop (i + 1) es) ((e.0, v) ∷ drop (i + 1) es) (e ∷ put path_cmp p v (drop (i + 1) es))) h

    -- before the entry
    pub put_before : path_cmp p e.0 ≡ Less → take i es ++ (p, v) ∷ drop i es ≡ put path_cmp p v es
    put_before h = ap (λ xs. take i es ++ (p, v) ∷ xs) there ∙ sym (here Less h)

    -- in its place
    pub put_over : path_cmp p e.0 ≡ Equal → set es i (e.0, v) ≡ put path_cmp p v es
    put_over h =
        let next : suc i ≡ i + 1 = omega arith in
        set_there es i (e.0, v) l ∙ ap (λ n. take i es ++ (e.0, v) ∷ drop n es) next ∙ sym (here Equal h)

  -- behind all
  pub put_last : length es ≤ i → es ++ (p, v) ∷ [] ≡ put path_cmp p v es
  put_last l = sym (walked ∙ (λ j. take_all i es l j ++ put path_cmp p v (drop_all i es l j)))

-- ---- one more path that is set

pub set_files_push : (contents : List (Path × Option (List ℕ))) (p : Path) (content : Option (List ℕ)) (files : Entries) → set_files (contents ++ (p, content) ∷ []) files ≡ set_file (set_files contents files) p content
set_files_push [] p content files = refl
set_files_push (c ∷ contents) p content files = set_files_push contents p content (set_file files c.0 c.1)
