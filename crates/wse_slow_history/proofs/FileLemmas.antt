-- The files of a list, put into a tree one after another.
use Rattle.std.proofs.Common.{◌≡◌, ℕ, ◌+◌, ◌<◌, true, List, ◌∷◌, ◌++◌, length, take, drop, get_or, sym, ◌∙◌, ap, subst}
use Rattle.std.specs.FinMap.{is_sorted}
use Rattle.std.proofs.lemmas.List.{take_more, drop_more, take-append-drop}
use Rattle.wse_path.specs.Path.{Path}
use Rattle.wse_path.specs.Order.{path_cmp}
use Rattle.wse_path.specs.Tree.{Entries, fits, put_file, IsTree}
use Rattle.wse_path.proofs.TreeLemmas.{put_front, fits_front}

abbrev pub File : Type 0
File = Path × List ℕ

module _ (es : Entries) (i : ℕ) (d : File) (lt : i < length es) where
  parted : es ≡ take i es ++ get_or es i d ∷ drop (i + 1) es
  parted = sym (take-append-drop i es) ∙ ap (λ (l : Entries). take i es ++ l) (drop_more es i d lt)

  -- It is put behind those before it.
  pub put_next : is_sorted path_cmp es ≡ true → put_file (take i es) (get_or es i d).0 (get_or es i d).1 ≡ take (i + 1) es
  put_next rises =
      put_front (take i es) (get_or es i d) (drop (i + 1) es) (subst (λ (l : Entries). is_sorted path_cmp l ≡ true) parted rises)
      ∙ sym (take_more es i d lt)

  -- Of a tree it fits among those before it.
  pub fits_next : IsTree es → fits (take i es) (get_or es i d).0 ≡ true
  fits_next tree = fits_front (take i es) (get_or es i d) (drop (i + 1) es) (subst IsTree parted tree)
