use Rattle.std.proofs.Common.{◌≡◌, ◌++◌}
use Rattle.wse_path.specs.Changes.{stored}
use Rattle.wse_apply.proofs.accept.store_all.Given as goal

abbrev pub invariant-loop-change : goal.invariant-loop-change
invariant-loop-change l = record {
  all : l.fn.changes.items ≡ l.yielded ++ l.change-iterator.rest.items;
  files : l.overlay.files ≡ stored l.yielded l.initial.overlay.files;
  base : l.overlay.base ≡ l.initial.overlay.base;
}
