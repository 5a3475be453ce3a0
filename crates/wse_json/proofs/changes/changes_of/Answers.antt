use Rattle.std.proofs.Common.{◌≡◌, List, ◌∷◌, String, Global, sym, ap, ◌∙◌, subst, rules}
use Rattle.std.proofs.lemmas.Map.Iter.{rest_more}
use Rattle.std.specs.Map.Iter.{deref_pair}
use Rattle.serde_json.specs.View.{view, members_view}
use Rattle.serde_json.specs.declared.value.Value.{Value}
use Rattle.wse_json.specs.Noted.{waits_by}
use Rattle.wse_json.specs.Operations.{entry_of, changes_of}
use Rattle.wse_json.proofs.WalkLemmas.{read_behind, after-nil, entries_left, entry_read}
use Rattle.wse_json.proofs.changes.changes_of.Goals as goal

pub loop-name-init : goal.loop-name-init
unfolding changes_of
loop-name-init c =
    let start : c.into_iter-name-iterator.result ≡ c.args.changes.now.entries = search rules in
    rw (c.new-all.ensures.items, start) (after-nil _)

pub loop-name-preserved : goal.loop-name-preserved
loop-name-preserved c =
    let read = entry_of c.args.root.now (waits_by c.args.notes.now) in
    let whole = changes_of c.args.root.now (waits_by c.args.notes.now) (members_view c.args.changes.now.entries) in
    let done = c.loop-name.all.items in
    let here : String Global × Value = deref_pair (c.in-Some.name, c.in-Some.edits) in
    let left = rest_more deref_pair c.loop-name.name-iterator c.next.new.self c.next.result (c.in-Some.name, c.in-Some.edits) c.in-Some.is c.next.ensures.steps in
    let before : whole ≡ read_behind done (entries_left read (here ∷ c.next.new.self)) =
    subst (λ (es : List (String Global × Value)). whole ≡ read_behind done (entries_left read es)) left c.loop-name.invariant in
    rw c.in_ok-push-in-Ok.ensures.items
    (entry_read read whole done here c.next.new.self c.in-Ok.operation before (sym (ap (λ name. read name (view c.in-Some.edits.now)) c.as_str.ensures.value) ∙ c.in-Ok.ensures))
