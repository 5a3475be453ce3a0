-- One operation of an edit: the files that it leaves, or the first reason why it is refused. The order of the reasons is
-- this project's own rule.
use Rattle.std.specs.Prelude.{ℕ, ℤ, pos, List, Option, Some, None, Result, Ok, Err, if◌then◌else◌}
use Rattle.std.specs.Option.{option_or}
use Rattle.std.specs.Ordering.{int_eq}
use Rattle.std.specs.Str.{is_utf8}
use Rattle.std.specs.Str.Lossy.{utf8_valid_len}
use Rattle.wse_path.specs.Path.{Path}
use Rattle.wse_path.specs.Tree.{Entries, content, is_folder, put_file}
use Rattle.wse_path.specs.Versions.{version_of}
use Rattle.wse_path.specs.declared.edit.Operation.{Operation}
use Rattle.wse_path.specs.declared.edit.What.{What}
use Rattle.wse_path.specs.declared.edit.What.TheVariants.{Text, Resource}
use Rattle.wse_path.specs.declared.operation.ResourceOp.{ResourceOp}
use Rattle.wse_path.specs.declared.position.TextEdit.{TextEdit}
use Rattle.wse_edits.specs.Edited.{edited}
use Rattle.wse_edits.specs.Refusal.{refusal}
use Rattle.wse_edits.specs.declared.refused.EditsRefused.{EditsRefused}
use Rattle.wse_edits.specs.declared.refused.EditsRefused.TheVariants.{Inside, Overlap, Memory}
use Rattle.wse_resource.specs.Operated.{operated}
use Rattle.wse_resource.specs.declared.refused.OpRefused.{OpRefused}
use Rattle.wse_resource.specs.declared.refused.OpRefused.TheVariants.{IsFolder, NotFound}
use Rattle.wse_apply.specs.Setting.{SettingState}
use Rattle.wse_apply.specs.Stop.{unless, changed_to}
use Rattle.wse_apply.specs.declared.reason.Reason.{Reason}
use Rattle.wse_apply.specs.declared.reason.Reason.TheVariants as reason

-- ---- a resource operation

abbrev pub changed_by : SettingState → Entries → Result Entries OpRefused → Result Entries Reason
changed_by setting files (Ok new) = changed_to setting files new
changed_by setting files (Err why) = Err (reason.Op why)

abbrev pub resource_next : SettingState → Entries → ResourceOp → Result Entries Reason
resource_next setting files op = changed_by setting files (operated files op)

-- ---- edits of a text

-- The version that is wanted isn't the one that the path has.
abbrev pub version_refusal : Option ℤ → ℕ → Option Reason
version_refusal None have = None
version_refusal (Some want) have = if int_eq want (pos have) then None else Some (reason.Version have want)

abbrev pub not_text : List ℕ → Option Reason
not_text bytes = if is_utf8 bytes then None else Some (reason.NotText (utf8_valid_len bytes))

-- A refusal of edits as a reason. No definition refuses for want of memory.
abbrev pub edits_reason : Option EditsRefused → Option Reason
edits_reason None = None
edits_reason (Some (Inside edit char_start)) = Some (reason.Inside edit char_start)
edits_reason (Some (Overlap first second)) = Some (reason.Overlap first second)
edits_reason (Some Memory) = None

-- Why the text at the path can't be edited.
abbrev pub text_refusal : SettingState → Path → Option ℤ → List TextEdit → List ℕ → Option Reason
text_refusal setting p version edits bytes =
    option_or (version_refusal version (version_of setting.versions p))
    (option_or (not_text bytes) (edits_reason (refusal bytes setting.encoding edits)))

abbrev pub text_over : SettingState → Entries → Path → Option ℤ → List TextEdit → Option (List ℕ) → Result Entries Reason
text_over setting files p version edits None = Err (reason.Op NotFound)
text_over setting files p version edits (Some bytes) =
    unless (text_refusal setting p version edits bytes)
    (changed_to setting files (put_file files p (edited bytes setting.encoding edits)))

abbrev pub text_next : SettingState → Entries → Path → Option ℤ → List TextEdit → Result Entries Reason
text_next setting files p version edits =
    if is_folder files p then Err (reason.Op IsFolder)
    else text_over setting files p version edits (content files p)

-- ---- an operation

abbrev pub done_next : SettingState → Entries → What → Result Entries Reason
done_next setting files (Text p version edits) = text_next setting files p version edits
done_next setting files (Resource op) = resource_next setting files op

-- A skipped operation leaves the files as they are.
abbrev pub next : SettingState → Entries → Operation → Result Entries Reason
next setting files operation = if operation.skipped then Ok files else done_next setting files operation.what
