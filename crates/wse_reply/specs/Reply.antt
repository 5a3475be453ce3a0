-- Replies and their texts. All of this is this project's own rule.
use Rattle.std.specs.Prelude.{ℕ, List, [], ◌∷◌, ◌++◌, codes}
use Rattle.serde_json.specs.Data.{Data, Members, object}
use Rattle.serde_json.specs.Written.{compact_text}
use Rattle.wse_history.specs.declared.answer.Answer.{Answer}
use Rattle.wse_history.specs.declared.answer.Answer.TheVariants as answers
use Rattle.wse_reply.specs.Edited.{edit_members}
use Rattle.wse_reply.specs.Moved.{move_members}
use Rattle.wse_reply.specs.Told.{result_members, files_members, not_held_members, recorded_members, refused_members, look_members}
use Rattle.wse_reply.specs.Refusals.{shape_data, too_long_data}
use Rattle.wse_reply.specs.declared.reply.Reply.{Reply}
use Rattle.wse_reply.specs.declared.reply.Reply.TheVariants as replies

-- The members of the answer to line n.
abbrev pub answer_members : ℕ → Answer → Members
answer_members n (answers.Edit changed element failed limit skipped) = edit_members n changed element failed limit skipped
answer_members n (answers.Move split end) = move_members n split end
answer_members n answers.Taken = result_members n (codes "taken")
answer_members n (answers.Held files) = files_members n files (codes "held")
answer_members n answers.Freed = result_members n (codes "freed")
answer_members n (answers.NotHeld file) = not_held_members n file
answer_members n answers.Left = result_members n (codes "left")
answer_members n (answers.Recorded changed) = recorded_members n changed
answer_members n answers.Same = result_members n (codes "same")
answer_members n (answers.OutsideInTheWay files) = files_members n files (codes "in the way")
answer_members n (answers.Refused hit) = refused_members n hit
answer_members n answers.Forgotten = result_members n (codes "forgotten")
answer_members n answers.NothingThere = result_members n (codes "nothing")
answer_members n (answers.Look bytes text version past future holder) = look_members n bytes text version past future holder

-- The reply to line n as a JSON value.
abbrev pub reply_data : ℕ → Reply → Data
reply_data n (replies.Answer answer) = object (answer_members n answer)
reply_data n (replies.Shape shape) = shape_data n shape
reply_data n (replies.TooLong bytes) = too_long_data n bytes

-- The reply to line n: compact JSON and a line's end.
abbrev pub reply_text : ℕ → Reply → List ℕ
reply_text n reply = compact_text (reply_data n reply) ++ 10 ∷ []
