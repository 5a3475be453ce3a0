use Rattle.std.proofs.Common.{◌≡◌, ◌+◌, true, List, drop, ◌&&◌, sym, ap, ◌∙◌}
use Rattle.wse_path.specs.Versions.{Numbers}
use Rattle.wse_path.proofs.EntryLemmas.{and_parts}
use Rattle.wse_element.specs.declared.effect.Effect.{Effect}
use Rattle.wse_element.specs.Numbers.{are_versions_bounded, is_known_bounded}
use Rattle.wse_element.specs.Effects.{versions_after}
use Rattle.wse_element.specs.Applicable.{may_bump, keeps_versions}
use Rattle.wse_recover.specs.Keeps.{all_keep}
use Rattle.wse_recover.proofs.RiseLemmas.{versions_taken, dropped_one}
use Rattle.wse_recover.proofs.bumps.raise_each.Goals as goal

pub loop-at-preserved : goal.loop-at-preserved
loop-at-preserved c =
    let inv = c.loop-at.invariant in
    let serial = c.args.serial in
    let now = c.loop-at.versions.entries in
    let effects = c.args.effects.now in
    let i = c.loop-at.at in
    let e = c.index-effects-at.result in
    let kept : keeps_versions serial now e ≡ true = sym c.in_ok-raise_by.ensures.is ∙ c.if-not-branch.false in
    let new = c.in_ok-raise_by.ensures.after c.if-not-branch.false in
    let outer = and_parts (may_bump now e && are_versions_bounded serial (versions_after now e)) (is_known_bounded (versions_after now e)) kept in
    let inner = and_parts (may_bump now e) (are_versions_bounded serial (versions_after now e)) outer.0 in
    record {
      versions = new ∙ ap (λ (v : Numbers). versions_after v e) inv.versions ∙ sym (versions_taken c.args.versions.now.entries effects i e c.loop-at-test.true c.index-effects-at.is);
      keep = inv.keep ∙ ap (λ (es : List Effect). all_keep serial now es) (dropped_one effects i e c.loop-at-test.true c.index-effects-at.is)
          ∙ ap (λ b. b && all_keep serial (versions_after now e) (drop (i + 1) effects)) kept
          ∙ ap (λ (v : Numbers). all_keep serial v (drop (i + 1) effects)) (sym new);
      bounded = ap (λ (v : Numbers). are_versions_bounded serial v) new ∙ inner.1;
      known = ap (λ (v : Numbers). is_known_bounded v) new ∙ outer.1;
    }
