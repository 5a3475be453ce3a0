-- The record that an edit pushes says what the edit did.
use Rattle.std.proofs.Common.{◌≡◌, ◌≢◌, ℕ, ◌+◌, ◌<◌, ◌≤◌, true, false, cond, List, [], ◌∷◌, ◌++◌, map, Option, Some, refl, sym, ap, subst, ◌∙◌, arith}
use Rattle.std.specs.Prelude.{filter, option_and_then}
use Rattle.std.specs.Prelude.{find as find_part}
use Rattle.std.specs.List.{AllByRecursion}
use Rattle.std.specs.FinMap.{is_sorted}
use Rattle.std.proofs.lemmas.Option.{none-some, same_Some}
use Rattle.wse_path.specs.Path.{Path}
use Rattle.wse_path.specs.Order.{path_cmp}
use Rattle.wse_path.specs.Tree.{Entries, content}
use Rattle.wse_path.specs.Changes.{contents_of}
use Rattle.wse_path.specs.declared.change.Change.{Change}
use Rattle.wse_path.specs.declared.change.Numbered.{Numbered}
use Rattle.wse_path.specs.declared.edit.Edit.{Edit}
use Rattle.wse_path.proofs.ChangeLemmas.{AllTrue}
use Rattle.wse_path.proofs.LeadLemmas.{lead_true, lead_rises}
use Rattle.wse_element.specs.declared.effect.Effect.{Effect}
use Rattle.wse_element.specs.declared.effect.Effect.TheVariants.{Push, MoveBack, MoveForward, Split, Drop, Invalidate, Bump, Set}
use Rattle.wse_element.specs.Content.{old_content, new_content}
use Rattle.wse_element.specs.Record.{RecordPart}
use Rattle.wse_element.specs.Live.{is_live_part_at, is_live_at, old_at, new_at}
use Rattle.wse_element.specs.State.{StacksState, State, stacks_of, kept_of}
use Rattle.wse_element.specs.Effects.{after, after_each, begun, state_after}
use Rattle.wse_element.specs.Applicable.{has_future}
use Rattle.wse_element.proofs.PushLemmas.{found_in}
use Rattle.wse_apply.specs.declared.performed.Performed.{Performed}
use Rattle.wse_history.specs.Edits.{part_of, made, push_of, edit_effects}
use Rattle.wse_history.specs.Done.{IsDone}
use Rattle.wse_element.proofs.FoldLemmas.{after_behind}
use Rattle.wse_history.proofs.DropLemmas.{drops, next_drops}
use Rattle.wse_history.proofs.MadeLemmas.{paths_of, parts_made}
use Rattle.wse_history.proofs.BumpLemmas.{bumps}
use Rattle.wse_history.proofs.EditLemmas.{made_files}
use Rattle.wse_lives.specs.Lives.{Makes}
use Rattle.wse_lives.proofs.StayLemmas.{all_append}
use Rattle.wse_lives.proofs.PlainLemmas.{IsPlain, ArePlain}

-- an effect that pushes nothing makes nothing
pub plain_makes : (before next : State) (e : Effect) → IsPlain e → Makes before next e
plain_makes before next (Push r) h = absurd h
plain_makes before next (MoveBack id) h = tt
plain_makes before next (MoveForward id) h = tt
plain_makes before next (Split id first) h = tt
plain_makes before next (Drop path reason) h = tt
plain_makes before next (Invalidate path) h = tt
plain_makes before next (Bump path by) h = tt
plain_makes before next (Set path bytes) h = tt

pub all_plain_make : (before next : State) (effects : List Effect) → ArePlain effects → AllByRecursion (Makes before next) effects
all_plain_make before next [] h = tt
all_plain_make before next (e ∷ es) h = (plain_makes before next e h.0, all_plain_make before next es h.1)

drops_plain : (qs : List Path) → ArePlain (drops qs)
drops_plain [] = tt
drops_plain (q ∷ qs) = (tt, drops_plain qs)

bumps_plain : (bs : List Numbered) → ArePlain (bumps bs)
bumps_plain [] = tt
bumps_plain (b ∷ bs) = (tt, bumps_plain bs)

-- ---- the contents of the new record

abbrev SaysOf : Entries → Entries → RecordPart → Type 0
SaysOf files new part = (old_content part.body ≡ content files part.path) × (new_content part.body ≡ content new part.path)

part_says : (files new : Entries) (p : Path) (cs : List Change) (part : RecordPart) → AllTrue files new cs → find_part (is_live_part_at p) (map part_of cs) ≡ Some part → SaysOf files new part
part_says files new p [] part are is = absurd (none-some part is)
part_says files new p (c ∷ cs) part are is =
    elim (is_live_part_at p (part_of c)) as (λ b. cond b (Some (part_of c)) (find_part (is_live_part_at p) (map part_of cs)) ≡ Some part → SaysOf files new part) [
      | true ↦ λ e. subst (SaysOf files new) (same_Some (part_of c) part e) (are.0.before, are.0.after)
      | false ↦ λ e. part_says files new p cs part are.1 e
    ] is

record_says : (s : State) (edit : Edit) (new : Entries) (cs : List Change) (p : Path) → AllTrue s.files new cs → is_live_at p (made s edit cs) ≡ true
    → (old_at p (made s edit cs) ≡ content s.files p) × (new_at p (made s edit cs) ≡ content new p)
record_says s edit new cs p are live =
    let found = found_in p (made s edit cs) live in
    let says = part_says s.files new p cs found.part are found.is in (
      ap (λ (o : Option RecordPart). option_and_then (λ (part : RecordPart). old_content part.body) o) found.is ∙ says.0 ∙ ap (content s.files) (sym found.at),
      ap (λ (o : Option RecordPart). option_and_then (λ (part : RecordPart). new_content part.body) o) found.is ∙ says.1 ∙ ap (content new) (sym found.at),
    )

-- ---- its id

no_more : (n : ℕ) → n + 0 ≡ n
no_more n = omega arith

next_bumps : (h : StacksState) (bs : List Numbered) → (after_each h (bumps bs)).next_id ≡ h.next_id
next_bumps h [] = refl
next_bumps h (b ∷ bs) = next_bumps (after h (Bump b.path b.number)) bs ∙ no_more h.next_id

one_above : (n m k : ℕ) → k ≡ m + 1 → m ≡ n → n < k
one_above n m k e f = omega (arith, e, f)

given_then : (s : State) (edit : Edit) (h : StacksState) (qs : List Path) (c : Change) (cs : List Change) (bs : List Numbered) → h.next_id ≡ s.next_id
    → s.next_id < (after_each h (drops qs ++ (push_of s edit (c ∷ cs) ++ bumps bs))).next_id
given_then s edit h qs c cs bs same =
    let left = after_each h (drops qs) in
    let then = after left (Push (made s edit (c ∷ cs))) in
    one_above s.next_id left.next_id (after_each h (drops qs ++ (push_of s edit (c ∷ cs) ++ bumps bs))).next_id
    (ap (λ (x : StacksState). x.next_id) (after_behind h (drops qs) (push_of s edit (c ∷ cs) ++ bumps bs)) ∙ next_bumps then bs)
    (next_drops h qs ∙ same)

-- ---- all effects

same_le : (n : ℕ) → n ≤ n
same_le n = omega arith

push_makes : (s next : State) (edit : Edit) (cs : List Change) → is_sorted path_cmp (contents_of cs) ≡ true → AllTrue s.files next.files cs → (cs ≢ [] → s.next_id < next.next_id) → AllByRecursion (Makes s next) (push_of s edit cs)
push_makes s next edit [] sorted are given = tt
push_makes s next edit (c ∷ cs) sorted are given = (
  record {
    parts = parts_made c cs sorted;
    new = same_le s.next_id;
    given = given (λ e. cc);
    each = λ p live. record_says s edit next.files (c ∷ cs) p are live;
  },
  tt,
)

given_by : (s : State) (edit : Edit) (qs : List Path) (cs : List Change) (bs : List Numbered) → cs ≢ [] → s.next_id < (after_each (begun (stacks_of (kept_of s))) (drops qs ++ (push_of s edit cs ++ bumps bs))).next_id
given_by s edit qs [] bs some = absurd (some refl)
given_by s edit qs (c ∷ cs) bs some = given_then s edit (begun (stacks_of (kept_of s))) qs c cs bs refl

pub edit_makes : (s : State) (edit : Edit) (done : Performed) → IsDone s.files done → AllByRecursion (Makes s (state_after s (edit_effects s edit done))) (edit_effects s edit done)
edit_makes s edit done d =
    let qs = filter (has_future s.records) (paths_of done.changes) in
    let next = state_after s (edit_effects s edit done) in
    let new : next.files ≡ d.lead.new = made_files s edit done d in
    all_append (Makes s next) (drops qs) (push_of s edit done.changes ++ bumps done.bumps) (all_plain_make s next (drops qs) (drops_plain qs))
    (all_append (Makes s next) (push_of s edit done.changes) (bumps done.bumps)
    (push_makes s next edit done.changes (lead_rises s.files done.changes d.lead) (subst (λ x. AllTrue s.files x done.changes) (sym new) (lead_true s.files done.changes d.lead)) (given_by s edit qs done.changes done.bumps))
    (all_plain_make s next (bumps done.bumps) (bumps_plain done.bumps)))
