-- The machine of a store: what a line is answered, what it leaves of the state, and which image of a disk stands for a state.
-- This project's own rule.
use Rattle.std.specs.Prelude.{ℕ, Bool, List, Result, Ok, Err, length, nat_lt, if◌then◌else◌}
use Rattle.url.specs.Parts.{Parts}
use Rattle.wse_path.specs.declared.command.Command.{Command}
use Rattle.wse_path.specs.declared.limits.Limits.{Limits}
use Rattle.wse_element.specs.State.{State}
use Rattle.wse_json.specs.Commands.{command_in}
use Rattle.wse_json.specs.declared.shape.Shape.{Shape}
use Rattle.wse_txn.specs.Stands.{StandsFor}
use Rattle.wse_history.specs.Step.{outcome, step}
use Rattle.wse_stream.specs.Longest.{longest_line}
use Rattle.wse_stream.specs.Machine.{Machine}
use Rattle.wse_reply.specs.Reply.{reply_text}
use Rattle.wse_reply.specs.declared.reply.Reply.{Reply}
use Rattle.wse_reply.specs.declared.reply.Reply.TheVariants as replies

-- What stays the same from line to line: the root below which paths lie, and the limits.
pub record Setting : Type 0 where
  pub root : Parts
  pub limits : Limits

-- A command is answered by the history, and a line that is none by the check that it fails.
abbrev pub reply_to : Limits → State → Result Command Shape → Reply
reply_to limits s (Ok command) = replies.Answer (outcome limits s command).answer
reply_to limits s (Err why) = replies.Shape why

abbrev pub after_command : Limits → State → Result Command Shape → State
after_command limits s (Ok command) = step limits s command
after_command limits s (Err why) = s

abbrev pub is_too_long : List ℕ → Bool
is_too_long line = nat_lt longest_line (length line)

-- What a line is answered, and what it leaves. Of one that is too long only the number of its bytes counts.
abbrev pub reply : Setting → State → List ℕ → Reply
reply setting s line = if is_too_long line then replies.TooLong (length line) else reply_to setting.limits s (command_in setting.root line)

abbrev pub after_line : Setting → State → List ℕ → State
after_line setting s line = if is_too_long line then s else after_command setting.limits s (command_in setting.root line)

abbrev pub serving : Setting → Machine State
serving setting = record {
  answer = λ n s line. reply_text n (reply setting s line);
  after = after_line setting;
  stands = StandsFor;
}
