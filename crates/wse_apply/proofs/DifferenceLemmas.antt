-- The files of two trees together, and what differs at their paths.
use Rattle.std.proofs.Common.{◌≡◌, ℕ, ◌+◌, true, List, [], ◌∷◌, ◌++◌, map, take, slice_get, Some, sym, ap, ◌∙◌, append_assoc}
use Rattle.std.specs.List.{flat_map}
use Rattle.std.specs.FinMap.{is_sorted}
use Rattle.std.proofs.lemmas.List.{append-nil}
use Rattle.wse_path.specs.Path.{Path}
use Rattle.wse_path.specs.Order.{path_cmp}
use Rattle.wse_path.specs.Tree.{Entries, put_file, put_all}
use Rattle.wse_path.specs.Changes.{change_at, changes_between}
use Rattle.wse_path.proofs.TreeLemmas.{put_front}
use Rattle.wse_path.proofs.GatheredLemmas.{over_paths}
use Rattle.wse_resource.proofs.OverLemmas.{put_all-push}
use Rattle.wse_resource.proofs.SlowLemmas.{take_next}

-- files in path order, put behind those before them
put_behind : (es rest : Entries) → is_sorted path_cmp (es ++ rest) ≡ true → put_all rest es ≡ es ++ rest
put_behind es [] s = sym (append-nil es)
put_behind es (e ∷ rest) s =
    ap (put_all rest) (put_front es e rest s)
    ∙ put_behind (es ++ e ∷ []) rest (ap (is_sorted path_cmp) (append_assoc es (e ∷ []) rest) ∙ s)
    ∙ append_assoc es (e ∷ []) rest

-- put into nothing they are all
pub put_alone : (es : Entries) → is_sorted path_cmp es ≡ true → put_all es [] ≡ es
put_alone es s = put_behind [] es s

pub put_next : (files : Entries) (i : ℕ) (e : Path × List ℕ) (before : Entries) → slice_get files i ≡ Some e → put_file (put_all (take i files) before) e.0 e.1 ≡ put_all (take (i + 1) files) before
put_next files i e before at =
    sym (put_all-push (take i files) e before) ∙ ap (λ es. put_all es before) (sym (take_next files i e at))

-- the changes at the paths of both
pub changes_at_all : (old new both : Entries) → both ≡ put_all new old → flat_map (λ e. change_at old new e.0) both ≡ changes_between old new
changes_at_all old new both is =
    sym (over_paths (change_at old new) both) ∙ ap (λ (es : Entries). flat_map (change_at old new) (map (λ e. e.0) es)) is
