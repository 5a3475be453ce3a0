use Rattle.std.proofs.Common.{◌+◌, ◌-◌, ◌^◌, ◌≤◌, sym, subst}
use Rattle.std.specs.List.{All}
use Rattle.wse_path.specs.Versions.{Numbers, version_of}
use Rattle.wse_history.proofs.PlanLemmas.{small_rises}
use Rattle.wse_history.proofs.versions.changed.Goals as goal

pub raised-requires : goal.raised-requires
raised-requires c =
    record {
      fits = subst (λ (vs : Numbers). All (λ b. version_of vs b.path + b.number ≤ 2 ^ 32 - 1) c.args.bumps.now) (sym c.versions.ensures)
          (small_rises c.args.history.now.limits c.args.history.now.state c.limits.ensures.kept c.args.bumps.now c.requires);
    }
