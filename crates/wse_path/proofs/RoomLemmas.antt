-- Room for a path among files.
use Rattle.std.proofs.Common.{◌≡◌, true, false, not, None, inl, inr, sym, ap, ◌∙◌}
use Rattle.std.proofs.lemmas.Bool.{cases_Bool, or_from, true≢false, false_from_ne_true}
use Rattle.wse_path.specs.Path.{Path}
use Rattle.wse_path.specs.Tree.{Entries, is_present, is_folder, file_above, HasRoom, IsTree}
use Rattle.wse_path.proofs.TreeLemmas.{same_path, none_any_where, fits_where}

pub room_where : (files : Entries) (p : Path) → is_folder files p ≡ false → file_above files p ≡ None → HasRoom files p
room_where files p folder above =
    elim (cases_Bool (is_present files p)) [ inl here ↦ inl here | inr absent ↦ inr (fits_where files p folder above absent) ]

-- a path of a tree has room among paths of that tree
pub room_in : (some all : Entries) (p : Path) → IsTree all → ((q : Path) → is_present some q ≡ true → is_present all q ≡ true) → is_present all p ≡ true → HasRoom some p
room_in some all p tree kept here =
    elim (cases_Bool (is_present some p)) [
      | inl there ↦ inl there
      | inr absent ↦ inr (ap not (none_any_where some p (λ q h.
          or_from _ _ (or_from _ _
          (false_from_ne_true _ (λ t. true≢false (sym h ∙ ap (is_present some) (sym (same_path p q t)) ∙ absent)))
          (tree.apart p q here (kept q h)))
          (tree.apart q p (kept q h) here))))
    ]
