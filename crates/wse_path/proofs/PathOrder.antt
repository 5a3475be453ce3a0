-- Path order is total, and only equal paths tie.
use Rattle.std.proofs.Common.{◌≡◌, true}
use Rattle.std.specs.Cmp.{IsTotalOrder}
use Rattle.std.specs.Cmp.Lexicographic.{lists_total, nat_list_cmp_total}
use Rattle.std.specs.FinMap.{slice_cmp-IsAntisymmetric, nat_cmp-IsAntisymmetric}
use Rattle.std.specs.declared.cmp.Ordering.TheVariants.{Equal}
use Rattle.std.specs.Ordering.{eq_by_cmp}
use Rattle.wse_path.specs.Order.{path_cmp}
use Rattle.wse_path.specs.Path.{Path}
use Rattle.wse_path.proofs.EntryLemmas.{equal_so}

pub total : IsTotalOrder path_cmp
total = lists_total nat_list_cmp_total

pub tied_path : (p q : Path) → path_cmp p q ≡ Equal → p ≡ q
tied_path p q t = slice_cmp-IsAntisymmetric (slice_cmp-IsAntisymmetric nat_cmp-IsAntisymmetric) p q t

-- paths that tie are equal
pub same_path : (p q : Path) → eq_by_cmp path_cmp p q ≡ true → p ≡ q
same_path p q t = tied_path p q (equal_so _ t)
