-- Effects that come one after another, one of them setting the tree at most, are those of a command that is applicable.
use Rattle.std.proofs.Common.{◌≡◌, ℕ, ◌+◌, Bool, true, not, ◌&&◌, ◌||◌, false, List, [], ◌∷◌, ◌++◌, None, sym, subst}
use Rattle.std.specs.Prelude.{⊤}
use Rattle.std.specs.List.{list_any}
use Rattle.std.proofs.lemmas.List.Folds.{list_any-append}
use Rattle.wse_path.specs.Versions.{Numbers}
use Rattle.wse_element.specs.declared.effect.Effect.{Effect}
use Rattle.wse_element.specs.State.{StacksState, Kept, stacks_of}
use Rattle.wse_element.specs.Effects.{after, after_each, begun, versions_after, versions_after_each}
use Rattle.wse_element.specs.Applicable.{sets_tree, is_applicable, keeps_versions, first_refused_of_kept}
use Rattle.wse_element.specs.Laws.{AllApply}
use Rattle.wse_element.proofs.FoldLemmas as landed

-- each comes behind those before it, and keeps the versions within their bounds
abbrev pub AllCome : (serial : ℕ) → StacksState → Numbers → List Effect → Type 0
AllCome serial h versions [] = ⊤
AllCome serial h versions (e ∷ es) =
    (is_applicable h e ≡ true) × (keeps_versions serial versions e ≡ true) × AllCome serial (after h e) (versions_after versions e) es

-- one effect sets the tree at most, where one did already or not
abbrev pub SetOnce : Bool → List Effect → Type 0
SetOnce already [] = ⊤
SetOnce already (e ∷ es) = (not (sets_tree e && already) ≡ true) × SetOnce (already || (sets_tree e || false)) es

apply_from : (serial : ℕ) (h : StacksState) (versions : Numbers) (before es : List Effect) → SetOnce (list_any sets_tree before) es → AllCome serial h versions es → AllApply serial h versions before es
apply_from serial h versions before [] once come = tt
apply_from serial h versions before (e ∷ es) once come = (
  once.0,
  come.0,
  come.1,
  apply_from serial (after h e) (versions_after versions e) (before ++ e ∷ []) es (subst (λ b. SetOnce b es) (sym (list_any-append sets_tree before (e ∷ []))) once.1) come.2,
)

pub none_refused : (kept : Kept) (effects : List Effect) → SetOnce false effects → AllCome (kept.serial + 1) (begun (stacks_of kept)) kept.versions effects
    → first_refused_of_kept kept effects ≡ None
none_refused kept effects once come = landed.none_refused.refused kept effects (apply_from (kept.serial + 1) (begun (stacks_of kept)) kept.versions [] effects once come)

-- one list behind another
pub come_behind : (serial : ℕ) (h : StacksState) (versions : Numbers) (es fs : List Effect) → AllCome serial h versions es
    → AllCome serial (after_each h es) (versions_after_each versions es) fs → AllCome serial h versions (es ++ fs)
come_behind serial h versions [] fs come more = more
come_behind serial h versions (e ∷ es) fs come more = (come.0, come.1, come_behind serial (after h e) (versions_after versions e) es fs come.2 more)
