use Rattle.std.proofs.Common.{◌≡◌, ℕ, ◌^◌, ◌&&◌, sym, ap, ◌∙◌}
use Rattle.std.specs.Prelude.{nat_le}
use Rattle.wse_path.specs.Versions.{bumped, known}
use Rattle.wse_element.specs.Numbers.{is_known_bounded}
use Rattle.wse_recover.proofs.RiseLemmas.{rise_is}
use Rattle.wse_recover.proofs.bumps.raise.Goals as goal

pub returns-then-not-may_rise-clause-is : goal.returns-then-not-may_rise-clause-is
returns-then-not-may_rise-clause-is c =
    let v = c.args.versions.now.entries in
    sym (rise_is c.args.serial v c.args.path.now c.args.by c.requires.bounded
    ∙ ap (λ b. b && is_known_bounded (bumped v c.args.path.now c.args.by)) (sym c.may_rise.ensures ∙ c.if-not-may_rise.true))

pub returns-clause-is : goal.returns-clause-is
returns-clause-is c =
    let v = c.args.versions.now.entries in
    let new : c.bump.new.self.entries ≡ bumped v c.args.path.now c.args.by = c.bump.ensures.entries ∙ (λ i. bumped (c.reserve.ensures.same i) (c.in_ok-duplicate.ensures i) c.args.by) in
    ap (λ (n : ℕ). nat_le n (2 ^ 29)) (c.known.ensures ∙ ap known new)
    ∙ sym (rise_is c.args.serial v c.args.path.now c.args.by c.requires.bounded
    ∙ ap (λ b. b && is_known_bounded (bumped v c.args.path.now c.args.by)) (sym c.may_rise.ensures ∙ c.if-not-may_rise.false))
