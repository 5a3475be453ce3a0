use Rattle.std.proofs.Common.{◌≡◌, drop}
use Rattle.wse_apply.specs.Draft.{AreSmall}
use Rattle.wse_apply.proofs.CourseLemmas.{ended, later}
use Rattle.wse_apply.proofs.course.run.Given as goal

abbrev pub invariant-loop-index : goal.invariant-loop-index
invariant-loop-index l = record {
  small : AreSmall l.setting l.sizes l.overlay.files;
  same : later l.index (ended l.setting l.overlay.files (drop l.index l.operations)) ≡ ended l.setting l.initial.overlay.files l.operations;
  base : l.overlay.base ≡ l.initial.overlay.base;
}
