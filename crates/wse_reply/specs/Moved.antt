-- The answer to an undo or a redo, as JSON with the members in byte order of their names. This project's own rule.
use Rattle.std.specs.Prelude.{ℕ, List, codes, Option, Some, None}
use Rattle.serde_json.specs.Data.{Data, Members, no_members, member, put, object, string}
use Rattle.wse_rules.specs.declared.ruling.Cause.{Cause}
use Rattle.wse_rules.specs.declared.ruling.Cause.TheVariants as causes
use Rattle.wse_history.specs.declared.answer.MoveEnd.{MoveEnd}
use Rattle.wse_history.specs.declared.answer.MoveEnd.TheVariants as ends
use Rattle.wse_history.specs.declared.answer.SplitNote.{SplitNote}
use Rattle.wse_reply.specs.Limits.{limit_name}
use Rattle.wse_reply.specs.Values.{number_data, versions_data, files_data}

-- The cause's text.
abbrev pub cause_name : Cause → List ℕ
cause_name causes.Removed = codes "removed"
cause_name causes.Changed = codes "changed"
cause_name causes.Locked = codes "locked"
cause_name causes.Invalid = codes "invalid"
cause_name causes.Chosen = codes "chosen"
cause_name causes.Meantime = codes "meantime"

-- How the move ended.
abbrev pub end_members : ℕ → MoveEnd → Members
end_members n ends.Nothing =
    (member (codes "n") (number_data n)
    (member (codes "result") (string (codes "nothing")) no_members))
end_members n (ends.Cancelled id) =
    (member (codes "element") (number_data id)
    (member (codes "n") (number_data n)
    (member (codes "result") (string (codes "cancelled")) no_members)))
end_members n (ends.Done id changed) =
    (member (codes "changed") (versions_data changed)
    (member (codes "element") (number_data id)
    (member (codes "n") (number_data n)
    (member (codes "result") (string (codes "done")) no_members))))
end_members n (ends.Locked files) =
    (member (codes "files") (files_data files)
    (member (codes "n") (number_data n)
    (member (codes "result") (string (codes "locked")) no_members)))
end_members n (ends.Flushed cause files dropped) =
    (member (codes "cause") (string (cause_name cause))
    (member (codes "dropped") (files_data dropped)
    (member (codes "files") (files_data files)
    (member (codes "n") (number_data n)
    (member (codes "result") (string (codes "flushed")) no_members)))))
end_members n (ends.InTheWay id files) =
    (member (codes "element") (number_data id)
    (member (codes "files") (files_data files)
    (member (codes "n") (number_data n)
    (member (codes "result") (string (codes "in the way")) no_members))))
end_members n (ends.Limit id hit) =
    (member (codes "element") (number_data id)
    (member (codes "n") (number_data n)
    (member (codes "result") (string (codes "limit"))
    (member (codes "which") (string (limit_name hit.which))
    (member (codes "would_be") (number_data hit.would_be) no_members)))))

-- Why which element was split, and for which files.
abbrev pub note_data : SplitNote → Data
note_data note = object
    (member (codes "cause") (string (cause_name note.cause))
    (member (codes "files") (files_data note.files)
    (member (codes "id") (number_data note.id) no_members)))

-- An element that was split first is told beside how the move ended.
abbrev pub put_note : Option SplitNote → Members → Members
put_note (Some note) members = put (codes "split") (note_data note) members
put_note None members = members

abbrev pub move_members : ℕ → Option SplitNote → MoveEnd → Members
move_members n split end = put_note split (end_members n end)
