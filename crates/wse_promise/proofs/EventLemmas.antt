-- A front of the lines is a life.
use Rattle.std.proofs.Common.{◌≡◌, ℕ, true, false, cond, List, [], ◌∷◌, take, Result, Ok, Err, refl, sym, ap, subst, ◌∙◌}
use Rattle.wse_path.specs.declared.command.Command.{Command}
use Rattle.wse_element.specs.State.{State}
use Rattle.wse_json.specs.Commands.{command_in}
use Rattle.wse_json.specs.declared.shape.Shape.{Shape}
use Rattle.wse_history.specs.History.{IsHistory}
use Rattle.wse_stream.specs.Machine.{state_after}
use Rattle.wse_store.specs.Store.{Setting, after_command, is_too_long, after_line, serving}
use Rattle.wse_lives.specs.Events.{Event}
use Rattle.wse_lives.specs.After.{left_after, IsLived}
use Rattle.wse_promise.specs.Fronts.{behind, with_command, with_line, with_lines}
use Rattle.wse_promise.specs.Laws.{LinesAreEvents}
use Rattle.wse_promise.proofs.NextLemmas.{sound_at}
use Rattle.wse_promise.proofs.LineLemmas.{front_next, front_begins}

module _ (setting : Setting) (first : State) where
  abbrev leaves : List Event → State
  leaves events = left_after setting.limits first events

  command_leaves : (read : Result Command Shape) (earlier : List Event) → leaves (with_command read earlier) ≡ after_command setting.limits (leaves earlier) read
  command_leaves (Ok command) earlier = refl
  command_leaves (Err why) earlier = refl

  line_leaves : (line : List ℕ) (earlier : List Event) → leaves (with_line setting line earlier) ≡ after_line setting (leaves earlier) line
  line_leaves line earlier =
      elim (is_too_long line) as (λ b. leaves (cond b earlier (with_command (command_in setting.root line) earlier)) ≡ cond b (leaves earlier) (after_command setting.limits (leaves earlier) (command_in setting.root line))) [
        | true ↦ refl
        | false ↦ command_leaves (command_in setting.root line) earlier
      ]

  lines_leave : (lines : List (List ℕ)) (earlier : List Event) → leaves (with_lines setting lines earlier) ≡ state_after (serving setting) (leaves earlier) lines
  unfolding state_after
  lines_leave [] earlier = refl
  lines_leave (line ∷ lines) earlier = lines_leave lines (with_line setting line earlier) ∙ ap (λ s. state_after (serving setting) s lines) (line_leaves line earlier)

  command_lives : (read : Result Command Shape) (earlier : List Event) → IsLived setting.limits first earlier → IsLived setting.limits first (with_command read earlier)
  command_lives (Ok command) earlier lived = lived
  command_lives (Err why) earlier lived = lived

  line_lives : (line : List ℕ) (earlier : List Event) → IsLived setting.limits first earlier → IsLived setting.limits first (with_line setting line earlier)
  line_lives line earlier lived =
      elim (is_too_long line) as (λ b. IsLived setting.limits first (cond b earlier (with_command (command_in setting.root line) earlier))) [
        | true ↦ lived
        | false ↦ command_lives (command_in setting.root line) earlier lived
      ]

  lines_live : (lines : List (List ℕ)) (earlier : List Event) → IsLived setting.limits first earlier → IsLived setting.limits first (with_lines setting lines earlier)
  lines_live [] earlier lived = lived
  lines_live (line ∷ lines) earlier lived = lines_live lines (with_line setting line earlier) (line_lives line earlier lived)

pub lines_are_events : LinesAreEvents
lines_are_events setting first lines count = record {
  lived = lines_live setting first (take count lines) [] tt;
  same = lines_leave setting first (take count lines) [];
  sound = λ begins. sound_at setting.limits (behind setting first lines) (front_next setting first lines)
      (subst (λ (s : State). IsHistory s setting.limits) (sym (front_begins setting first lines)) begins) count;
}
