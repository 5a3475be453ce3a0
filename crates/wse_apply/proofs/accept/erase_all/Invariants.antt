use Rattle.std.proofs.Common.{◌≡◌, take}
use Rattle.wse_path.specs.Changes.{erased}
use Rattle.wse_apply.proofs.accept.erase_all.Given as goal

abbrev pub invariant-loop-change : goal.invariant-loop-change
invariant-loop-change l = record {
  files : l.overlay.files ≡ erased (take l.change-index l.changes) l.initial.overlay.files;
  base : l.overlay.base ≡ l.initial.overlay.base;
}
