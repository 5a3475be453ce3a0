-- No reply has a number with a point.
use Rattle.std.proofs.Common.{◌≡◌, ℕ, false, List, [], ◌∷◌, Option, Some, None, refl}
use Rattle.std.proofs.lemmas.Bool.{or_parts}
use Rattle.std.specs.Cmp.Lexicographic.{slice_cmp}
use Rattle.std.specs.Ordering.{nat_cmp, match_ordering}
use Rattle.std.specs.declared.cmp.Ordering.TheVariants.{Less, Equal, Greater}
use Rattle.serde_json.specs.Data.{Data, Members, no_members, member, put}
use Rattle.serde_json.specs.Written.{has_float, items_have_float, members_have_float}
use Rattle.wse_path.specs.Path.{Path, text_of}
use Rattle.wse_path.specs.declared.change.Numbered.{Numbered}
use Rattle.wse_path.specs.declared.limits.Hit.{Hit}
use Rattle.wse_apply.specs.declared.reason.Reason.{Reason}
use Rattle.wse_apply.specs.declared.skips.Skip.{Skip}
use Rattle.wse_json.specs.declared.shape.Shape.{Shape}
use Rattle.wse_json.specs.declared.shape.Shape.TheVariants as shapes
use Rattle.wse_history.specs.declared.answer.Answer.{Answer}
use Rattle.wse_history.specs.declared.answer.Answer.TheVariants as answers
use Rattle.wse_history.specs.declared.answer.MoveEnd.{MoveEnd}
use Rattle.wse_history.specs.declared.answer.MoveEnd.TheVariants as ends
use Rattle.wse_history.specs.declared.answer.SplitNote.{SplitNote}
use Rattle.wse_reply.specs.Values.{put_versions, versions_data, number_data, number_or_null, text_or_null, files_data, edit_items, skips_data}
use Rattle.wse_reply.specs.Edited.{edit_members}
use Rattle.wse_reply.specs.Moved.{end_members, note_data, move_members}
use Rattle.wse_reply.specs.Told.{look_members}
use Rattle.wse_reply.specs.Refusals.{shape_data}
use Rattle.wse_reply.specs.Reply.{answer_members, reply_data}
use Rattle.wse_reply.specs.declared.reply.Reply.{Reply}
use Rattle.wse_reply.specs.declared.reply.Reply.TheVariants as replies

-- one member more without a number with a point
put_no_float : (k : List ℕ) (d : Data) (ms : Members) → has_float d ≡ false → members_have_float ms ≡ false → members_have_float (put k d ms) ≡ false
put_no_float k d no_members e h = rw e refl
put_no_float k d (member l x ms) e h =
    let parts = or_parts (has_float x) (members_have_float ms) h in
    elim (slice_cmp nat_cmp k l) as (λ o. members_have_float (match_ordering o (member k d (member l x ms)) (member l d ms) (member l x (put k d ms))) ≡ false) [
      | Less ↦ rw e h
      | Equal ↦ rw e parts.1
      | Greater ↦ rw (parts.0) (put_no_float k d ms e parts.1)
    ]

versions_no_float : (bs : List Numbered) (ms : Members) → members_have_float ms ≡ false → members_have_float (put_versions bs ms) ≡ false
versions_no_float [] ms h = h
versions_no_float (b ∷ bs) ms h = versions_no_float bs _ (put_no_float (text_of b.path) (number_data b.number) ms refl h)

changed_no_float : (bs : List Numbered) → has_float (versions_data bs) ≡ false
changed_no_float bs = versions_no_float bs no_members refl

number_no_float : (o : Option ℕ) → has_float (number_or_null o) ≡ false
number_no_float (Some n) = refl
number_no_float None = refl

text_no_float : (o : Option (List ℕ)) → has_float (text_or_null o) ≡ false
text_no_float (Some t) = refl
text_no_float None = refl

edit_items_no_float : (o : Option ℕ) → items_have_float (edit_items o) ≡ false
edit_items_no_float (Some n) = refl
edit_items_no_float None = refl

skips_no_float : (skips : List Skip) → has_float (skips_data skips) ≡ false
skips_no_float [] = refl
skips_no_float (s ∷ skips) = rw (edit_items_no_float s.edit) (skips_no_float skips)

files_no_float : (files : List Path) → has_float (files_data files) ≡ false
files_no_float [] = refl
files_no_float (f ∷ files) = files_no_float files

edit_no_float : (n : ℕ) (changed : List Numbered) (element : Option ℕ) (failed : Option (ℕ × Reason)) (limit : Option Hit) (skipped : List Skip) → members_have_float (edit_members n changed element failed limit skipped) ≡ false
edit_no_float n c e (Some failed) limit s = rw (changed_no_float c, number_no_float e, skips_no_float s) refl
edit_no_float n c e None (Some hit) s = rw (skips_no_float s) refl
edit_no_float n c e None None s = rw (changed_no_float c, number_no_float e, skips_no_float s) refl

end_no_float : (n : ℕ) (end : MoveEnd) → members_have_float (end_members n end) ≡ false
end_no_float n ends.Nothing = refl
end_no_float n (ends.Cancelled id) = refl
end_no_float n (ends.Done id changed) = rw (changed_no_float changed) refl
end_no_float n (ends.Locked files) = rw (files_no_float files) refl
end_no_float n (ends.Flushed cause files dropped) = rw (files_no_float files, files_no_float dropped) refl
end_no_float n (ends.InTheWay id files) = rw (files_no_float files) refl
end_no_float n (ends.Limit id hit) = refl

note_no_float : (note : SplitNote) → has_float (note_data note) ≡ false
note_no_float note = rw (files_no_float note.files) refl

move_no_float : (n : ℕ) (split : Option SplitNote) (end : MoveEnd) → members_have_float (move_members n split end) ≡ false
move_no_float n (Some note) end = put_no_float _ (note_data note) (end_members n end) (note_no_float note) (end_no_float n end)
move_no_float n None end = end_no_float n end

look_no_float : (n : ℕ) (bytes : Option ℕ) (text : Option (List ℕ)) (version : ℕ) (past future holder : Option ℕ) → members_have_float (look_members n bytes text version past future holder) ≡ false
look_no_float n bytes text version past future holder =
    rw (number_no_float bytes, number_no_float future, number_no_float holder, number_no_float past, text_no_float text) refl

answer_no_float : (n : ℕ) (answer : Answer) → members_have_float (answer_members n answer) ≡ false
answer_no_float n (answers.Edit changed element failed limit skipped) = edit_no_float n changed element failed limit skipped
answer_no_float n (answers.Move split end) = move_no_float n split end
answer_no_float n answers.Taken = refl
answer_no_float n (answers.Held files) = rw (files_no_float files) refl
answer_no_float n answers.Freed = refl
answer_no_float n (answers.NotHeld file) = refl
answer_no_float n answers.Left = refl
answer_no_float n (answers.Recorded changed) = rw (changed_no_float changed) refl
answer_no_float n answers.Same = refl
answer_no_float n (answers.OutsideInTheWay files) = rw (files_no_float files) refl
answer_no_float n (answers.Refused hit) = refl
answer_no_float n answers.Forgotten = refl
answer_no_float n answers.NothingThere = refl
answer_no_float n (answers.Look bytes text version past future holder) = look_no_float n bytes text version past future holder

shape_no_float : (n : ℕ) (shape : Shape) → has_float (shape_data n shape) ≡ false
shape_no_float n shapes.NotJson = refl
shape_no_float n (shapes.Field pointer) = refl
shape_no_float n (shapes.Uri pointer why) = refl
shape_no_float n (shapes.Annotation id) = refl
shape_no_float n shapes.Memory = refl

pub reply_no_float : (n : ℕ) (reply : Reply) → has_float (reply_data n reply) ≡ false
reply_no_float n (replies.Answer answer) = answer_no_float n answer
reply_no_float n (replies.Shape shape) = shape_no_float n shape
reply_no_float n (replies.TooLong bytes) = refl
