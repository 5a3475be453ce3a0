use Rattle.std.proofs.Common.{◌≡◌, ◌++◌}
use Rattle.wse_element.specs.Linked.{IsLinked}
use Rattle.wse_stacks.proofs.link.link.Given as goal

abbrev pub invariant-loop-element : goal.invariant-loop-element
invariant-loop-element l = record {
  all : l.fn.elements ≡ l.yielded ++ l.element-iterator.rest.items;
  records : l.linked ≡ l.yielded;
  linked : IsLinked l.next_id l.yielded;
}
