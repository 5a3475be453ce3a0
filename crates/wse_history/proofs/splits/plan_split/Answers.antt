use Rattle.std.proofs.Common.{◌∷◌, [], Some, IfOk, ◌+◌, ◌-◌, List, take, drop, position, sym, ap, subst, ◌∙◌, arith}
use Rattle.std.proofs.lemmas.Option.{none-some}
use Rattle.wse_path.specs.Path.{Path}
use Rattle.wse_locks.specs.Locks.{Holders, is_held}
use Rattle.wse_element.specs.Live.{is_live_part_at}
use Rattle.wse_element.specs.Record.{RecordPart}
use Rattle.wse_element.specs.State.{StacksState, stacks_of, kept_of}
use Rattle.wse_element.proofs.NumberLemmas.{Bounded, bounded_parts}
use Rattle.wse_element.proofs.PushLemmas.{found_in}
use Rattle.wse_rules.specs.declared.ruling.Cause.TheVariants as causes
use Rattle.wse_history.specs.declared.answer.MoveEnd.TheVariants as ends
use Rattle.wse_history.specs.Moving.{moved_outcome, closed_outcome, MayMove, MayClose}
use Rattle.wse_history.specs.Outcome.{Outcome}
use Rattle.wse_history.specs.Placed.{place}
use Rattle.wse_history.specs.Planning.{PlansAsOutcome}
use Rattle.wse_history.proofs.PlaceLemmas.{place_few, one_there}
use Rattle.wse_history.proofs.ShareLemmas.{found_some, found_none}
use Rattle.wse_history.proofs.SplitLemmas.{live_there, split_flushed, split_locked, split_moved, split_moves, split_closes, split_alone}
use Rattle.wse_history.proofs.splits.plan_split.Goals as goal

pub plan_closed-requires : goal.plan_closed-requires
plan_closed-requires c =
    let a = c.args in
    let s = a.history.now.state in
    let limits = a.history.now.limits in
    let r = a.element.now in
    let p = a.path.now in
    let set = c.limits.ensures.kept in
    let found = found_in p r (live_there limits s a.by a.direction p a.note set c.requires.ruled r c.requires.found) in
    subst (λ (ps : List Path). MayClose limits s (record { direction = a.direction; id = c.id.result; split = Some a.note }) ps) (sym (c.as_slice.ensures ∙ c.in_ok-paths.ensures))
    (subst (λ n. MayClose limits s (record { direction = a.direction; id = n; split = Some a.note }) (p ∷ [])) (sym c.id.ensures)
    (split_closes limits s a.by a.direction p a.note set c.requires.ruled r c.requires.found found.part found.is))

pub returns-then-not-is_valid_at-clause-planned : goal.returns-then-not-is_valid_at-clause-planned
returns-then-not-is_valid_at-clause-planned c =
    let a = c.args in
    let s = a.history.now.state in
    let limits = a.history.now.limits in
    let r = a.element.now in
    let p = a.path.now in
    let set = c.limits.ensures.kept in
    let found = found_in p r (live_there limits s a.by a.direction p a.note set c.requires.ruled r c.requires.found) in
    let valid = sym c.is_valid_at.ensures ∙ c.if-not-is_valid_at.true in
    let paths = c.as_slice.ensures ∙ c.in_ok-paths.ensures in
    subst (λ (o : Outcome). IfOk c.plan_closed.result (PlansAsOutcome s o))
    ((λ i. closed_outcome limits s (record { direction = a.direction; id = c.id.ensures i; split = Some a.note }) (paths i) (ends.Flushed causes.Invalid (c.in_ok-only.ensures i) (c.in_ok-only-2.ensures i)))
    ∙ split_flushed limits s a.by a.direction p a.note set c.requires.ruled r c.requires.found found.part found.is valid)
    c.plan_closed.ensures.planned

pub plan_closed-requires-then-is_held : goal.plan_closed-requires-then-is_held
plan_closed-requires-then-is_held c =
    let a = c.args in
    let s = a.history.now.state in
    let limits = a.history.now.limits in
    let none = c.as_slice-then-is_held.ensures ∙ c.new-none.ensures ∙ c.new.ensures.items in
    subst (λ (ps : List Path). MayClose limits s (record { direction = a.direction; id = c.id.result; split = Some a.note }) ps) (sym none)
    (subst (λ n. MayClose limits s (record { direction = a.direction; id = n; split = Some a.note }) []) (sym c.id.ensures)
    (split_alone limits s a.by a.direction a.path.now a.note c.limits.ensures.kept c.requires.ruled a.element.now c.requires.found))

pub returns-then-is_held-clause-planned : goal.returns-then-is_held-clause-planned
returns-then-is_held-clause-planned c =
    let a = c.args in
    let s = a.history.now.state in
    let limits = a.history.now.limits in
    let r = a.element.now in
    let p = a.path.now in
    let set = c.limits.ensures.kept in
    let found = found_in p r (live_there limits s a.by a.direction p a.note set c.requires.ruled r c.requires.found) in
    let valid = sym c.is_valid_at.ensures ∙ c.if-not-is_valid_at.false in
    let held = sym (c.is_held.ensures ∙ ap (λ (es : Holders). is_held es a.by p) c.locks.ensures) ∙ c.if-is_held.true in
    let none = c.as_slice-then-is_held.ensures ∙ c.new-none.ensures ∙ c.new.ensures.items in
    subst (λ (o : Outcome). IfOk c.plan_closed-then-is_held.result (PlansAsOutcome s o))
    ((λ i. closed_outcome limits s (record { direction = a.direction; id = c.id.ensures i; split = Some a.note }) (none i) (ends.Locked (c.in_ok-only-3.ensures i)))
    ∙ split_locked limits s a.by a.direction p a.note set c.requires.ruled r c.requires.found found.part found.is valid held)
    c.plan_closed-then-is_held.ensures.planned

pub overflow_add-id : goal.overflow_add-id
overflow_add-id c =
    let a = c.args in
    let s = a.history.now.state in
    let bounds : Bounded (stacks_of (kept_of s)) = bounded_parts (stacks_of (kept_of s)) c.limits.ensures.kept.linked.kept.bounded in
    let few = place_few a.path.now c.parts-parts.result.now in
    let next = c.next_id.ensures ∙ ap (λ (h : StacksState). h.next_id) c.stacks.ensures.state in
    omega (arith, next, c.place.ensures, few, bounds.ids, bounds.serial, c.parts-parts.type_inv)

pub plan_go-requires : goal.plan_go-requires
plan_go-requires c =
    let a = c.args in
    let s = a.history.now.state in
    let limits = a.history.now.limits in
    let r = a.element.now in
    let p = a.path.now in
    let set = c.limits.ensures.kept in
    let found = found_in p r (live_there limits s a.by a.direction p a.note set c.requires.ruled r c.requires.found) in
    let valid = sym c.is_valid_at.ensures ∙ c.if-not-is_valid_at.false in
    let free = sym (c.is_held.ensures ∙ ap (λ (es : Holders). is_held es a.by p) c.locks.ensures) ∙ c.if-is_held.false in
    let next = c.next_id.ensures ∙ ap (λ (h : StacksState). h.next_id) c.stacks.ensures.state in
    let at = c.place.ensures ∙ ap (place p) c.parts-parts.ensures.parts in
    let here = found_some (is_live_part_at p) r.parts c.in-Some.index (ap (position (is_live_part_at p)) (sym c.parts-parts.ensures.parts) ∙ sym c.index_at.ensures ∙ c.in-Some.is) in
    let one = ap (λ (xs : List RecordPart). take (c.in-Some.index + 1 - c.in-Some.index) (drop c.in-Some.index xs)) c.parts-parts.ensures.parts ∙ one_there r.parts c.in-Some.index found.part (sym here.found ∙ found.is) in
    subst (λ (xs : List RecordPart). MayMove limits s (record { direction = a.direction; id = c.id.result; split = Some a.note }) (c.next_id.result + c.place.result) xs) (sym one)
    (subst (λ m. MayMove limits s (record { direction = a.direction; id = c.id.result; split = Some a.note }) m (found.part ∷ [])) (λ i. sym next i + sym at i)
    (subst (λ n. MayMove limits s (record { direction = a.direction; id = n; split = Some a.note }) (s.next_id + place p r.parts) (found.part ∷ [])) (sym c.id.ensures)
    (split_moves limits s a.by a.direction p a.note set c.requires.ruled r c.requires.found found.part found.is valid free)))

pub unreachable-requires : goal.unreachable-requires
unreachable-requires c =
    let a = c.args in
    let s = a.history.now.state in
    let r = a.element.now in
    let p = a.path.now in
    let found = found_in p r (live_there a.history.now.limits s a.by a.direction p a.note c.limits.ensures.kept c.requires.ruled r c.requires.found) in
    let none = found_none (is_live_part_at p) r.parts (ap (position (is_live_part_at p)) (sym c.parts-parts.ensures.parts) ∙ sym c.index_at.ensures ∙ c.in-None.is) in
    none-some found.part (sym none ∙ found.is)

pub returns-clause-planned : goal.returns-clause-planned
returns-clause-planned c =
    let a = c.args in
    let s = a.history.now.state in
    let limits = a.history.now.limits in
    let r = a.element.now in
    let p = a.path.now in
    let set = c.limits.ensures.kept in
    let found = found_in p r (live_there limits s a.by a.direction p a.note set c.requires.ruled r c.requires.found) in
    let valid = sym c.is_valid_at.ensures ∙ c.if-not-is_valid_at.false in
    let free = sym (c.is_held.ensures ∙ ap (λ (es : Holders). is_held es a.by p) c.locks.ensures) ∙ c.if-is_held.false in
    let next = c.next_id.ensures ∙ ap (λ (h : StacksState). h.next_id) c.stacks.ensures.state in
    let at = c.place.ensures ∙ ap (place p) c.parts-parts.ensures.parts in
    let here = found_some (is_live_part_at p) r.parts c.in-Some.index (ap (position (is_live_part_at p)) (sym c.parts-parts.ensures.parts) ∙ sym c.index_at.ensures ∙ c.in-Some.is) in
    let one = ap (λ (xs : List RecordPart). take (c.in-Some.index + 1 - c.in-Some.index) (drop c.in-Some.index xs)) c.parts-parts.ensures.parts ∙ one_there r.parts c.in-Some.index found.part (sym here.found ∙ found.is) in
    subst (λ (o : Outcome). IfOk c.plan_go.result (PlansAsOutcome s o))
    ((λ i. moved_outcome limits s (record { direction = a.direction; id = c.id.ensures i; split = Some a.note }) (next i + at i) (one i))
    ∙ split_moved limits s a.by a.direction p a.note set c.requires.ruled r c.requires.found found.part found.is valid free)
    c.plan_go.ensures.planned
