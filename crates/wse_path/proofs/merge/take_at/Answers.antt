use Rattle.std.proofs.Common.{◌≡◌, ◌++◌, ◌∷◌, [], List, Some, None, reverse, sym, ap, ◌∙◌, arith}
use Rattle.std.proofs.lemmas.List.{reverse-append, nil_from_length}
use Rattle.wse_path.specs.Order.{path_cmp}
use Rattle.wse_path.specs.Path.{Path}
use Rattle.wse_path.proofs.MergeLemmas.{Taken, pushed, split_off, before_push, took_at, took_before, took_none, room_left, fewer_left}
use Rattle.wse_path.proofs.PathOrder.{total}
use Rattle.wse_path.proofs.merge.take_at.Given.{Over}
use Rattle.wse_path.proofs.merge.take_at.Goals as goal

pub push-requires : goal.push-requires
push-requires g c =
    let inv = c.loop-there.invariant in
    omega (arith, inv.row_capacity, room_left c.loop-there.row.items c.loop-there.rest.items c.args.row.now.items c.args.rest.now.items c.pop.new.self.items (c.in-Some.there, c.in-Some.value) c.args.row.now.capacity inv.same c.in-Some.ensures.items c.requires.room)

pub loop-there-preserved : goal.loop-there-preserved
loop-there-preserved g c =
    let inv = c.loop-there.invariant in
    let entry : Path × g.row.V.Denot = (c.in-Some.there, c.in-Some.value) in
    record {
      same =
          ap (λ (l : List (Path × g.row.V.Denot)). l ++ reverse c.pop.new.self.items) c.push.ensures.items
          ∙ pushed c.loop-there.row.items (reverse c.pop.new.self.items) entry
          ∙ split_off c.loop-there.row.items c.loop-there.rest.items c.pop.new.self.items (c.args.row.now.items ++ reverse c.args.rest.now.items) entry inv.same c.in-Some.ensures.items;
      before = rw c.push.ensures.items (before_push total c.loop-there.row.items entry c.args.path.now inv.before (sym c.in-Less.ensures));
      row_capacity = c.push.ensures.capacity ∙ inv.row_capacity;
      rest_capacity = c.in-Some.ensures.capacity ∙ inv.rest_capacity;
    }

taken_equal : (g : Over) (c : goal.After-drop-there-inside g) → Taken path_cmp (c.args.row.now.items ++ reverse c.args.rest.now.items) c.loop-there.row.items (reverse c.pop.new.self.items) c.args.path.now (Some c.in-Some.value)
taken_equal g c =
    took_at c.loop-there.row.items c.loop-there.rest.items (c.args.row.now.items ++ reverse c.args.rest.now.items) c.args.path.now c.loop-there.invariant.same c.loop-there.invariant.before c.requires.rises
    c.pop.new.self.items (c.in-Some.there, c.in-Some.value) c.in-Some.ensures.items (sym c.in-Equal.ensures)

pub returns-in-Equal-clause-value : goal.returns-in-Equal-clause-value
returns-in-Equal-clause-value g c = sym (taken_equal g c).value

pub returns-in-Equal-clause-without : goal.returns-in-Equal-clause-without
returns-in-Equal-clause-without g c = sym (taken_equal g c).without

pub returns-in-Equal-clause-placed : goal.returns-in-Equal-clause-placed
returns-in-Equal-clause-placed g c = λ v. sym ((taken_equal g c).placed v)

pub returns-in-Equal-clause-fewer : goal.returns-in-Equal-clause-fewer
returns-in-Equal-clause-fewer g c =
    omega (arith, fewer_left c.loop-there.row.items c.loop-there.rest.items c.args.row.now.items c.args.rest.now.items c.pop.new.self.items (c.in-Some.there, c.in-Some.value) c.loop-there.invariant.same c.in-Some.ensures.items)

taken_greater : (g : Over) (c : goal.After-push_reserved g) → Taken path_cmp (c.args.row.now.items ++ reverse c.args.rest.now.items) c.loop-there.row.items ((c.in-Some.there, c.in-Some.value) ∷ reverse c.pop.new.self.items) c.args.path.now None
taken_greater g c =
    took_before c.loop-there.row.items c.loop-there.rest.items (c.args.row.now.items ++ reverse c.args.rest.now.items) c.args.path.now c.loop-there.invariant.same c.loop-there.invariant.before c.requires.rises
    c.pop.new.self.items (c.in-Some.there, c.in-Some.value) c.in-Some.ensures.items (sym c.in-Greater.ensures)

back_is : (g : Over) (c : goal.After-push_reserved g) → reverse c.push_reserved.new.self.items ≡ (c.in-Some.there, c.in-Some.value) ∷ reverse c.pop.new.self.items
back_is g c = ap (λ (l : List (Path × g.row.V.Denot)). reverse l) c.push_reserved.ensures.items ∙ reverse-append c.pop.new.self.items ((c.in-Some.there, c.in-Some.value) ∷ [])

pub returns-in-Greater-clause-value : goal.returns-in-Greater-clause-value
returns-in-Greater-clause-value g c = sym (taken_greater g c).value

pub returns-in-Greater-clause-without : goal.returns-in-Greater-clause-without
returns-in-Greater-clause-without g c = ap (λ (l : List (Path × g.row.V.Denot)). c.loop-there.row.items ++ l) (back_is g c) ∙ sym (taken_greater g c).without

pub returns-in-Greater-clause-placed : goal.returns-in-Greater-clause-placed
returns-in-Greater-clause-placed g c = λ v. ap (λ (l : List (Path × g.row.V.Denot)). c.loop-there.row.items ++ (c.args.path.now, v) ∷ l) (back_is g c) ∙ sym ((taken_greater g c).placed v)

pub returns-in-Greater-clause-fewer : goal.returns-in-Greater-clause-fewer
returns-in-Greater-clause-fewer g c =
    omega (
      arith,
      fewer_left c.loop-there.row.items c.loop-there.rest.items c.args.row.now.items c.args.rest.now.items c.pop.new.self.items (c.in-Some.there, c.in-Some.value) c.loop-there.invariant.same c.in-Some.ensures.items,
      c.push_reserved.ensures.len,
    )

pub returns-clause-value : goal.returns-clause-value
returns-clause-value g c =
    let none : c.loop-there.rest.items ≡ [] = nil_from_length c.loop-there.rest.items (grind arith) in
    sym (took_none c.loop-there.row.items c.loop-there.rest.items (c.args.row.now.items ++ reverse c.args.rest.now.items) c.args.path.now c.loop-there.invariant.same c.loop-there.invariant.before c.requires.rises none).value

pub returns-clause-without : goal.returns-clause-without
returns-clause-without g c =
    let none : c.loop-there.rest.items ≡ [] = nil_from_length c.loop-there.rest.items (grind arith) in
    let left : c.pop.new.self.items ≡ [] = nil_from_length c.pop.new.self.items (grind arith) in
    ap (λ (l : List (Path × g.row.V.Denot)). c.loop-there.row.items ++ reverse l) left
    ∙ sym (took_none c.loop-there.row.items c.loop-there.rest.items (c.args.row.now.items ++ reverse c.args.rest.now.items) c.args.path.now c.loop-there.invariant.same c.loop-there.invariant.before c.requires.rises none).without

pub returns-clause-placed : goal.returns-clause-placed
returns-clause-placed g c = λ v.
    let none : c.loop-there.rest.items ≡ [] = nil_from_length c.loop-there.rest.items (grind arith) in
    let left : c.pop.new.self.items ≡ [] = nil_from_length c.pop.new.self.items (grind arith) in
    ap (λ (l : List (Path × g.row.V.Denot)). c.loop-there.row.items ++ (c.args.path.now, v) ∷ reverse l) left
    ∙ sym ((took_none c.loop-there.row.items c.loop-there.rest.items (c.args.row.now.items ++ reverse c.args.rest.now.items) c.args.path.now c.loop-there.invariant.same c.loop-there.invariant.before c.requires.rises none).placed v)
