use Rattle.std.proofs.Common.{◌≡◌, ℕ, Bool, true, List, sym, subst, ◌∙◌}
use Rattle.std.specs.Cmp.Lexicographic.{pointwise}
use Rattle.wse_stacks.proofs.SeenLemmas.{same_pair, same_pairs, pairs_itself}
use Rattle.wse_stacks.proofs.look.is_same.Goals as goal

pub returns : goal.returns
returns c =
    let first = c.args.first.now in
    let second = c.args.second.now in (
      (λ h. same_pairs first second (sym c.eq.ensures ∙ h)),
      (λ e. c.eq.ensures ∙ subst (λ (ys : List (ℕ × Bool)). pointwise same_pair first ys ≡ true) e (pairs_itself first)),
    )
