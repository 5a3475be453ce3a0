use Rattle.std.proofs.Common.{◌≡◌, take}
use Rattle.wse_resource.specs.After.{removed_each}
use Rattle.wse_resource.proofs.over.remove_all.Given as goal

abbrev pub invariant-loop-path : goal.invariant-loop-path
invariant-loop-path g l = record {
  files : l.overlay.files ≡ removed_each (take l.path-index l.paths) l.initial.overlay.files;
  base : l.overlay.base ≡ l.initial.overlay.base;
}
