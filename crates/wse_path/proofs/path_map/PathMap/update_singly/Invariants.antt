use Rattle.std.proofs.Common.{◌≡◌, ◌+◌, ◌≤◌, ◌++◌, length}
use Rattle.wse_path.specs.PathMap.{update_all}
use Rattle.wse_path.proofs.path_map.PathMap.update_singly.Given as goal

abbrev pub invariant-loop-path : goal.invariant-loop-path
invariant-loop-path g l = record {
  all : l.fn.items.items ≡ l.yielded ++ l.path-iterator.rest.items;
  set : l.self.entries ≡ update_all g.C.Update.updated l.yielded l.initial.self.entries;
  room : l.initial.self.spare + length l.path-iterator.rest.items ≤ l.self.spare + length l.fn.items.items;
}
