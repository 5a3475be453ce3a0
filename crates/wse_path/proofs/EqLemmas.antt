-- What the tests for the same entries say.
use Rattle.std.proofs.Common.{◌≡◌, Bool, ◌&&◌, nat_eq, refl, ap}
use Rattle.std.specs.Cmp.Lexicographic.{pointwise}
use Rattle.std.specs.Bool.{Decides}
use Rattle.std.specs.Cmp.{first_so, second_so, unsigned_Decides}
use Rattle.std.proofs.lemmas.Slice.Eq.{slice_eq-Decides, bytes_eq-Decides}
use Rattle.wse_path.specs.Path.{Path}
use Rattle.wse_path.specs.Tree.{Entries, same_files}
use Rattle.wse_path.specs.Versions.{Numbers, same_entries}

pairs_decide : {A B : Type 0} (E : A → A → Bool) (F : B → B → Bool) → ((a b : A) → Decides (E a b) (a ≡ b)) → ((a b : B) → Decides (F a b) (a ≡ b)) → (p q : A × B) → Decides (E p.0 q.0 && F p.1 q.1) (p ≡ q)
pairs_decide E F f g p q = (
  (λ e i. ((f p.0 q.0).0 (first_so _ (F p.1 q.1) e) i, (g p.1 q.1).0 (second_so (E p.0 q.0) _ e) i)),
  λ e i. (f p.0 q.0).1 (ap (λ u. u.0) e) i && (g p.1 q.1).1 (ap (λ u. u.1) e) i,
)

paths_decide : (a b : Path) → Decides (pointwise (pointwise nat_eq) a b) (a ≡ b)
paths_decide a b = slice_eq-Decides bytes_eq-Decides a b _ refl

pub same_files-Decides : (a b : Entries) (r : Bool) → r ≡ same_files a b → Decides r (a ≡ b)
same_files-Decides a b r e = slice_eq-Decides (pairs_decide _ _ paths_decide bytes_eq-Decides) a b r e

pub same_entries-Decides : (a b : Numbers) (r : Bool) → r ≡ same_entries a b → Decides r (a ≡ b)
same_entries-Decides a b r e = slice_eq-Decides (pairs_decide _ _ paths_decide unsigned_Decides) a b r e
