use Rattle.std.proofs.Common.{◌≡◌, ◌+◌, ◌≤◌, ◌++◌, length, vec_len, vec_capacity}
use Rattle.wse_path.specs.Changes.{contents_of}
use Rattle.wse_history.proofs.room.into_contents.Given as goal

abbrev pub invariant-loop-change : goal.invariant-loop-change
invariant-loop-change l = record {
  all : l.fn.changes.items ≡ l.yielded ++ l.change-iterator.rest.items;
  done : l.contents.items ≡ contents_of l.yielded;
  room : vec_len l.contents + length l.change-iterator.rest.items ≤ vec_capacity l.contents;
}
