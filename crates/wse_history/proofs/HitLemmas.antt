-- The limits that effects pass, and what keeps within them.
use Rattle.std.proofs.Common.{◌≡◌, ℕ, ◌+◌, ◌≤◌, true, false, cond, List, [], ◌∷◌, length, Option, Some, None, refl, sym, ap, subst, ◌∙◌}
use Rattle.std.specs.Prelude.{nat_lt, if◌then◌else◌}
use Rattle.std.specs.List.{list_any}
use Rattle.std.specs.FinMap.{find as find_key}
use Rattle.std.specs.Option.{option_or}
use Rattle.std.specs.Ordering.{eq_by_cmp}
use Rattle.std.proofs.lemmas.Bool.{ltb-false}
use Rattle.wse_path.specs.Path.{Path}
use Rattle.wse_path.specs.Order.{path_cmp}
use Rattle.wse_path.specs.Tree.{Entries, content}
use Rattle.wse_path.specs.Versions.{known}
use Rattle.wse_path.specs.declared.change.Numbered.{Numbered}
use Rattle.wse_path.specs.declared.limits.Hit.{Hit}
use Rattle.wse_path.specs.declared.limits.Limits.{Limits}
use Rattle.wse_path.specs.declared.limits.Which.TheVariants.{Known, Serial}
use Rattle.wse_element.specs.declared.effect.Effect.{Effect}
use Rattle.wse_element.specs.State.{State}
use Rattle.wse_element.specs.Effects.{state_after}
use Rattle.wse_element.specs.Applicable.{sets_tree}
use Rattle.wse_element.proofs.FoldLemmas.{serial_stays}
use Rattle.wse_apply.specs.Limit.{hit_above, limit_hit, first_above}
use Rattle.wse_history.specs.Done.{with_versions}
use Rattle.wse_history.specs.Limits.{serial_hit, known_hit, hit_of}
use Rattle.wse_history.proofs.ShapeLemmas.{now}

-- of effects that set the tree
pub hit_of_set : (limits : Limits) (s : State) (effects : List Effect) (changed : List Numbered) (tree : Option Hit) → list_any sets_tree effects ≡ true
    → (state_after s effects).versions ≡ with_versions changed s.versions → tree ≡ limit_hit limits (state_after s effects).files
    → option_or (hit_above Serial limits.serial (s.serial + 1)) (option_or (hit_above Known limits.known (known (with_versions changed s.versions))) tree) ≡ hit_of limits effects (state_after s effects)
hit_of_set limits s effects changed tree sets versions is =
    let next = state_after s effects in
    let serial : s.serial + 1 ≡ next.serial = sym (serial_stays (now s) effects) in
    (λ i. option_or (hit_above Serial limits.serial (serial i)) (option_or (hit_above Known limits.known (known (sym versions i))) (is i)))
    ∙ ap (λ b. option_or (serial_hit limits next) (if b then option_or (known_hit limits next) (limit_hit limits next.files) else None)) (sym sets)

-- no file has more bytes than a limit that no file passes
pub bytes_within : (limit : ℕ) (files : Entries) (p : Path) (bytes : List ℕ) → first_above limit files ≡ None → content files p ≡ Some bytes → length bytes ≤ limit
bytes_within limit [] p bytes none is = cc
bytes_within limit (e ∷ files) p bytes none is =
    elim (nat_lt limit (length e.1)) as (λ b. nat_lt limit (length e.1) ≡ b → cond b (Some (length e.1)) (first_above limit files) ≡ None → length bytes ≤ limit) [
      | true ↦ λ _ k. cc
      | false ↦ λ few k. elim (eq_by_cmp path_cmp p e.0) as (λ b. cond b (Some e.1) (find_key path_cmp p files) ≡ Some bytes → length bytes ≤ limit) [
        | true ↦ λ here. let same : e.1 ≡ bytes = cc in subst_length limit e.1 bytes same (ltb-false limit (length e.1) few)
        | false ↦ λ there. bytes_within limit files p bytes k there
      ] is
    ] refl none
  where
    subst_length : (limit : ℕ) (old new : List ℕ) → old ≡ new → length old ≤ limit → length new ≤ limit
    subst_length limit old new same few = subst (λ (bs : List ℕ). length bs ≤ limit) same few
