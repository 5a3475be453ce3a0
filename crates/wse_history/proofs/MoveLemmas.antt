-- An undo or a redo as it is ruled.
use Rattle.std.proofs.Common.{◌≡◌, ℕ, true, false, List, Option, None, sym, ap, ◌∙◌}
use Rattle.std.specs.Option.{option_map_or}
use Rattle.std.proofs.lemmas.Bool.{false≢true}
use Rattle.std.proofs.lemmas.Option.{none-some}
use Rattle.wse_path.specs.Path.{Path}
use Rattle.wse_path.specs.declared.command.Choice.{Choice}
use Rattle.wse_path.specs.declared.command.Direction.{Direction}
use Rattle.wse_path.specs.declared.command.Direction.TheVariants.{Back, Forward}
use Rattle.wse_path.specs.declared.limits.Limits.{Limits}
use Rattle.wse_locks.specs.Locks.{Holders}
use Rattle.wse_element.specs.Applicable.{may_come, may_go_back, may_go_forward}
use Rattle.wse_element.specs.Record.{Record}
use Rattle.wse_element.specs.Stacks.{record_of}
use Rattle.wse_element.specs.State.{StacksState, State, stacks_of, kept_of}
use Rattle.wse_rules.specs.Ruling.{ruling}
use Rattle.wse_rules.specs.declared.ruling.Cause.{Cause}
use Rattle.wse_rules.specs.declared.ruling.Ruling.{Ruling}
use Rattle.wse_rules.specs.declared.ruling.Ruling.TheVariants as rulings
use Rattle.wse_history.specs.Moves.{move_effect, begun_course, first_ruled, move_outcome}
use Rattle.wse_history.proofs.GoLemmas.{closest_stands, found_itself, splits_in}
use Rattle.wse_history.proofs.Words.{AreLinked}

pub move_is : (limits : Limits) (s : State) (by : ℕ) (direction : Direction) (p : Path) (choice : Choice) (r : Ruling) → ruling direction s.records s.locks by p choice ≡ r
    → first_ruled limits s by p (begun_course s direction p) r ≡ move_outcome limits s by direction p choice
move_is limits s by direction p choice r is = ap (first_ruled limits s by p (begun_course s direction p)) (sym is)

-- what is ruled over equal stacks and locks is ruled over the state's
pub ruled_here : (s : State) (by : ℕ) (direction : Direction) (p : Path) (choice copy : Choice) (h : StacksState) (locks : Holders) (r : Ruling) → h ≡ stacks_of (kept_of s) → locks ≡ s.locks → copy ≡ choice
    → r ≡ ruling direction h.records locks by p copy → ruling direction s.records s.locks by p choice ≡ r
ruled_here s by direction p choice copy h locks r stacks held same is = sym (is ∙ (λ i. ruling direction (stacks i).records (held i) by p (same i)))

-- a record that isn't there isn't moved
pub none_moves : (direction : Direction) (h : StacksState) (id : ℕ) → record_of h.records id ≡ None → may_come h (move_effect direction id) ≡ true → ⊥
none_moves Back h id none may = false≢true (sym (ap (λ (o : Option Record). option_map_or (may_go_back h.records) o false) none) ∙ may)
none_moves Forward h id none may = false≢true (sym (ap (λ (o : Option Record). option_map_or (may_go_forward h.records) o false) none) ∙ may)

-- nor split
pub none_splits : (direction : Direction) (h : StacksState) (locks : Holders) (by : ℕ) (p : Path) (choice : Choice) (id : ℕ) (cause : Cause) (files : List Path) → AreLinked h
    → ruling direction h.records locks by p choice ≡ rulings.Split id cause files → record_of h.records id ≡ None → ⊥
none_splits direction h locks by p choice id cause files all is none =
    let asked = splits_in direction h locks by p choice id cause files is in
    let stands = closest_stands direction h.records p asked.whole asked.is in
    none-some asked.whole (sym none ∙ ap (record_of h.records) (sym asked.same) ∙ found_itself h.records asked.whole all.linked.different stands.among)
