use Rattle.std.proofs.Common.{ℕ, true, cond, length, nat_eq, List, [], ◌∷◌, ◌++◌, sym, ap, subst, ◌∙◌}
use Rattle.std.specs.List.{list_any}
use Rattle.std.specs.HashSet.{contains}
use Rattle.indexmap.specs.IndexMap.{get}
use Rattle.wse_element.specs.Record.{RecordPart, Record}
use Rattle.wse_element.specs.Live.{is_live_part_at}
use Rattle.wse_stacks.specs.Indexed.{path_eq, noted, AreIndexed}
use Rattle.wse_stacks.proofs.IndexedLemmas.{one_indexed}
use Rattle.wse_stacks.proofs.indexed.Indexed.with.Goals as goal

pub invariant_of-result : goal.invariant_of-result
invariant_of-result c =
    let records = c.self.inside.records in
    let x = c.args.element in
    let has = contains nat_eq c.insert.new.self in
    let last = get path_eq c.note_parts.new.last in
    let pushed = c.in_ok-push.ensures.ok ∙ ap (λ (r : Record). records ++ r ∷ []) c.in_ok-new.ensures in
    subst (λ (rs : List Record). AreIndexed rs has last) (sym pushed)
    (one_indexed records x (contains nat_eq c.self.inside.ids) has (get path_eq c.self.inside.last) last c.self.invariant
    (λ id. c.in_ok-insert.ensures.updates.0 id ∙ ap (λ (n : ℕ). cond (nat_eq n id) true (contains nat_eq c.self.inside.ids id)) c.id.ensures)
    (λ p.
    c.in_ok-note_parts.ensures p
    ∙ ap (λ (ps : List RecordPart). noted (list_any (is_live_part_at p) ps) (length c.as_slice.result.now) (get path_eq c.self.inside.last p)) c.parts.ensures.parts
    ∙ ap (λ (rs : List Record). noted (list_any (is_live_part_at p) x.parts) (length rs) (get path_eq c.self.inside.last p)) c.as_slice.ensures.value))
