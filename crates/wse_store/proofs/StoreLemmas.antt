-- What is left of an engine that hands out an answer, and what lines of each length are answered.
use Rattle.std.proofs.Common.{◌≡◌, ℕ, ◌<◌, ◌≤◌, List, Result, length, cond, ap, ◌∙◌}
use Rattle.std.proofs.lemmas.Bool.{lt-ltb, le-ltb}
use Rattle.wse_element.specs.State.{State}
use Rattle.wse_engine.specs.Engine.{EngineNow}
use Rattle.wse_history.specs.declared.answer.Answer.{Answer}
use Rattle.wse_json.specs.Commands.{command_in}
use Rattle.wse_json.specs.declared.shape.Shape.{Shape}
use Rattle.wse_path.specs.declared.command.Command.{Command}
use Rattle.wse_stream.specs.Longest.{longest_line}
use Rattle.wse_store.specs.Store.{Setting, reply, reply_to, after_line, after_command}
use Rattle.wse_reply.specs.Reply.{reply_text}
use Rattle.wse_reply.specs.declared.reply.Reply.TheVariants as replies

pub same_state : {D : Type 0} (left engine : EngineNow D) (s : State) → engine.state ≡ s → left ≡ engine → left.state ≡ s
same_state {D} left engine s is same = ap (λ (e : EngineNow D). e.state) same ∙ is

pub same_text : (text : List ℕ) (n : ℕ) (answer told : Answer) → answer ≡ told → text ≡ reply_text n (replies.Answer answer) → text ≡ reply_text n (replies.Answer told)
same_text text n answer told is same = same ∙ ap (λ a. reply_text n (replies.Answer a)) is

-- A line that is too long is answered by the number of its bytes.
pub reply_too_long : (setting : Setting) (s : State) (line : List ℕ) (bytes : ℕ) → longest_line < bytes → length line ≡ bytes → reply setting s line ≡ replies.TooLong bytes
reply_too_long setting s line bytes long is =
    ap (λ b. cond b (replies.TooLong (length line)) (reply_to setting.limits s (command_in setting.root line))) (lt-ltb longest_line (length line) (rw is long)) ∙ ap replies.TooLong is

-- Any other is looked at as a command.
pub after_read : (setting : Setting) (s : State) (line : List ℕ) (read : Result Command Shape) → length line ≤ longest_line → command_in setting.root line ≡ read → after_line setting s line ≡ after_command setting.limits s read
after_read setting s line read short is =
    ap (λ b. cond b s (after_command setting.limits s (command_in setting.root line))) (le-ltb longest_line (length line) short) ∙ ap (after_command setting.limits s) is

pub reply_read : (setting : Setting) (s : State) (line : List ℕ) (read : Result Command Shape) → length line ≤ longest_line → command_in setting.root line ≡ read → reply setting s line ≡ reply_to setting.limits s read
reply_read setting s line read short is =
    ap (λ b. cond b (replies.TooLong (length line)) (reply_to setting.limits s (command_in setting.root line))) (le-ltb longest_line (length line) short) ∙ ap (reply_to setting.limits s) is
