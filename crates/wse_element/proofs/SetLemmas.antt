-- Paths that are set in files, one after the other.
use Rattle.std.proofs.Common.{◌≡◌, Bool, false, cond, List, [], ◌∷◌, Option, refl, ap, ◌∙◌, ℕ}
use Rattle.std.specs.List.{list_any}
use Rattle.std.specs.Ordering.{eq_by_cmp}
use Rattle.std.proofs.lemmas.Bool.{or_parts}
use Rattle.wse_path.specs.Path.{Path}
use Rattle.wse_path.specs.Order.{path_cmp}
use Rattle.wse_path.specs.Tree.{Entries, content, set_file, set_files}
use Rattle.wse_path.proofs.ContentLemmas.{content_set}

-- the path is among those that are set
abbrev pub is_set : List (Path × Option (List ℕ)) → Path → Bool
is_set cs q = list_any (λ c. eq_by_cmp path_cmp q c.0) cs

-- any other path stays
pub set_others : (cs : List (Path × Option (List ℕ))) (files : Entries) (q : Path) → is_set cs q ≡ false → content (set_files cs files) q ≡ content files q
set_others [] files q h = refl
set_others (c ∷ cs) files q h =
    let parts = or_parts (eq_by_cmp path_cmp q c.0) (is_set cs q) h in
    set_others cs (set_file files c.0 c.1) q parts.1
    ∙ content_set files c.0 c.1 q
    ∙ ap (λ b. cond b c.1 (content files q)) parts.0
