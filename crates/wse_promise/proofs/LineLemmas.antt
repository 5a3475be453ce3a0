-- What a line of a store's machine leaves, and the states behind fronts of lines.
use Rattle.std.proofs.Common.{◌≡◌, ℕ, zero, suc, true, false, cond, List, [], ◌∷◌, length, Some, None, Result, Ok, Err, refl, sym, ap, ◌∙◌}
use Rattle.std.specs.Prelude.{slice_get}
use Rattle.std.proofs.lemmas.Option.{none-some, same_Some}
use Rattle.wse_path.specs.declared.command.Command.{Command}
use Rattle.wse_path.specs.declared.limits.Limits.{Limits}
use Rattle.wse_element.specs.State.{State}
use Rattle.wse_json.specs.Commands.{command_in}
use Rattle.wse_json.specs.declared.shape.Shape.{Shape}
use Rattle.wse_history.specs.declared.answer.Answer.{Answer}
use Rattle.wse_history.specs.Step.{outcome, step}
use Rattle.wse_reply.specs.declared.reply.Reply.TheVariants as replies
use Rattle.wse_stream.specs.Machine.{state_after}
use Rattle.wse_store.specs.Store.{Setting, reply_to, after_command, is_too_long, reply, after_line}
use Rattle.wse_promise.specs.Fronts.{behind}
use Rattle.wse_promise.proofs.NextLemmas.{IsNext}

same_next : (limits : Limits) (s : State) → IsNext limits s s
same_next limits s = record { command = None; is = refl }

command_next : (limits : Limits) (s : State) (read : Result Command Shape) → IsNext limits s (after_command limits s read)
command_next limits s (Ok command) = record { command = Some command; is = refl }
command_next limits s (Err why) = same_next limits s

line_next : (setting : Setting) (s : State) (line : List ℕ) → IsNext setting.limits s (after_line setting s line)
line_next setting s line =
    elim (is_too_long line) as (λ b. IsNext setting.limits s (cond b s (after_command setting.limits s (command_in setting.root line)))) [
      | true ↦ same_next setting.limits s
      | false ↦ command_next setting.limits s (command_in setting.root line)
    ]

-- a line with this answer is its command
pub line_done : (setting : Setting) (s : State) (line : List ℕ) (command : Command) (answer : Answer) → command_in setting.root line ≡ Ok command → reply setting s line ≡ replies.Answer answer
    → ((outcome setting.limits s command).answer ≡ answer) × (after_line setting s line ≡ step setting.limits s command)
line_done setting s line command answer asks is =
    elim (is_too_long line) as (λ b. cond b (replies.TooLong (length line)) (reply_to setting.limits s (command_in setting.root line)) ≡ replies.Answer answer
    → ((outcome setting.limits s command).answer ≡ answer) × (cond b s (after_command setting.limits s (command_in setting.root line)) ≡ step setting.limits s command)) [
      | true ↦ λ e. cc
      | false ↦ λ e.
          let told : replies.Answer (outcome setting.limits s command).answer ≡ replies.Answer answer = sym (ap (reply_to setting.limits s) asks) ∙ e in
          (cc, ap (after_command setting.limits s) asks)
    ] is

-- ---- fronts

pub front_next : (setting : Setting) (first : State) (lines : List (List ℕ)) (k : ℕ) → IsNext setting.limits (behind setting first lines k) (behind setting first lines (suc k))
unfolding state_after
front_next setting first [] zero = same_next setting.limits first
front_next setting first [] (suc k) = same_next setting.limits first
front_next setting first (line ∷ lines) zero = line_next setting first line
front_next setting first (line ∷ lines) (suc k) = front_next setting (after_line setting first line) lines k

pub front_begins : (setting : Setting) (first : State) (lines : List (List ℕ)) → behind setting first lines zero ≡ first
unfolding state_after
front_begins setting first lines = refl

pub front_line : (setting : Setting) (first : State) (lines : List (List ℕ)) (k : ℕ) (line : List ℕ) → slice_get lines k ≡ Some line
    → behind setting first lines (suc k) ≡ after_line setting (behind setting first lines k) line
unfolding state_after
front_line setting first [] k line is = absurd (none-some line is)
front_line setting first (x ∷ lines) zero line is = ap (after_line setting first) (same_Some x line is)
front_line setting first (x ∷ lines) (suc k) line is = front_line setting (after_line setting first x) lines k line is
