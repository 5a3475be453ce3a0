use Rattle.std.proofs.Common.{◌≡◌, ◌++◌}
use Rattle.wse_path.specs.Tree.{put_all}
use Rattle.wse_resource.proofs.over.put_all.Given as goal

abbrev pub invariant-loop-path : goal.invariant-loop-path
invariant-loop-path g l = record {
  all : l.fn.files.items ≡ l.yielded ++ l.path-iterator.rest.items;
  done : l.overlay.files ≡ put_all l.yielded l.initial.overlay.files;
  base : l.overlay.base ≡ l.initial.overlay.base;
}
