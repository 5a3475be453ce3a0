-- Adopting makes one state of a state.
use Rattle.std.proofs.Common.{◌≡◌, ◌||◌, ℕ, cond, List, [], ◌∷◌, map, true, false, Some, refl, sym, ap, ◌∙◌}
use Rattle.std.specs.Prelude.{is_some}
use Rattle.std.specs.FinMap.{find, is_sorted}
use Rattle.std.specs.Ordering.{eq_by_cmp}
use Rattle.wse_path.specs.Path.{Path}
use Rattle.wse_path.specs.Order.{path_cmp, is_named}
use Rattle.wse_path.specs.Tree.{Entries}
use Rattle.wse_path.proofs.GatheredLemmas.{same_keys}
use Rattle.wse_element.specs.Record.{Record}
use Rattle.wse_element.specs.State.{State}
use Rattle.wse_stacks.specs.Paths.{keyed}
use Rattle.wse_recover.specs.Differing.{AreDiffering}
use Rattle.wse_recover.specs.Adopting.{IsAdopted, adopted_at}

keys_keyed : (ps : List Path) → map (λ e. e.0) (keyed ps) ≡ ps
keys_keyed [] = refl
keys_keyed (p ∷ ps) = ap (λ qs. p ∷ qs) (keys_keyed ps)

found_keyed : (q : Path) (ps : List Path) → is_some (find path_cmp q (keyed ps)) ≡ is_named ps q
found_keyed q [] = refl
found_keyed q (p ∷ ps) =
    elim (eq_by_cmp path_cmp q p) as (λ b. is_some (cond b (Some 0) (find path_cmp q (keyed ps))) ≡ (b || is_named ps q)) [ true ↦ refl | false ↦ found_keyed q ps ]

-- the paths rise and each is decided, so there is one list of them
pub differing_once : (files : Entries) (records : List Record) (ps qs : List Path) → AreDiffering files records ps → AreDiffering files records qs → ps ≡ qs
differing_once files records ps qs a b =
    sym (keys_keyed ps)
    ∙ same_keys (keyed ps) (keyed qs) a.rise b.rise (λ q. found_keyed q ps ∙ a.each q ∙ sym (b.each q) ∙ sym (found_keyed q qs))
    ∙ keys_keyed qs

pub adopted_once : (s t u : State) → IsAdopted s t → IsAdopted s u → t ≡ u
adopted_once s t u a b = a.2 ∙ ap (λ (ps : List Path). adopted_at ps s) (differing_once s.files s.records a.0 b.0 a.1 b.1) ∙ sym b.2
