use Rattle.std.proofs.Common.{[], ap, ◌∙◌}
use Rattle.wse_path.specs.declared.position.Encoding.TheVariants.{Utf8}
use Rattle.wse_apply.specs.Setting.{SettingState}
use Rattle.wse_apply.specs.Sizes.{hit_after}
use Rattle.wse_apply.specs.declared.sizes.Sizes.{Sizes}
use Rattle.wse_apply.proofs.StopLemmas.{hit_is}
use Rattle.wse_apply.proofs.after.limit_hit_after.Goals as goal

pub returns : goal.returns
returns c = λ new lead.
    let setting : SettingState = record { versions = []; locks = []; limits = c.args.limits.now; by = 0; encoding = Utf8 } in
    c.hit_after.ensures
    ∙ ap (λ (s : Sizes). hit_after c.args.limits.now s c.args.changes.now) c.changed-sizes.ensures
    ∙ hit_is setting c.of.result c.args.tree.now.files new c.args.changes.now
    (record { limits = c.requires.within; fits = c.requires.fits; sizes_are = c.of.ensures }) c.args.tree.now.is_tree lead
