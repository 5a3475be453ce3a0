-- No definition refuses an operation for want of memory.
use Rattle.std.proofs.Common.{◌≡◌, ℕ, ℤ, pos, Bool, true, false, not, ◌&&◌, List, [], ◌∷◌, Option, Some, None, option_map, Result, Ok, Err, refl, sym, subst, ◌∙◌, ap}
use Rattle.std.specs.Prelude.{⊤, if◌then◌else◌}
use Rattle.std.specs.Option.{option_or}
use Rattle.std.specs.Result.{result_err}
use Rattle.std.specs.Ordering.{eq_by_cmp, int_eq}
use Rattle.std.specs.Str.{is_utf8}
use Rattle.std.specs.Str.Lossy.{utf8_valid_len}
use Rattle.wse_path.specs.Path.{Path, is_under}
use Rattle.wse_path.specs.Order.{path_cmp}
use Rattle.wse_path.specs.Tree.{Entries, content, file_above, is_folder, is_present, put_file}
use Rattle.wse_path.specs.Changes.{changes_between}
use Rattle.wse_path.specs.Versions.{version_of}
use Rattle.wse_path.specs.declared.edit.Operation.{Operation}
use Rattle.wse_path.specs.declared.edit.What.{What}
use Rattle.wse_path.specs.declared.edit.What.TheVariants.{Text, Resource}
use Rattle.wse_path.specs.declared.limits.Hit.{Hit}
use Rattle.wse_path.specs.declared.operation.ResourceOp.{ResourceOp}
use Rattle.wse_path.specs.declared.operation.ResourceOp.TheVariants.{Create, Rename, Delete}
use Rattle.wse_path.specs.declared.position.TextEdit.{TextEdit}
use Rattle.wse_edits.specs.Edited.{edited}
use Rattle.wse_edits.specs.Refusal.{refusal}
use Rattle.wse_edits.specs.declared.refused.EditsRefused.{EditsRefused}
use Rattle.wse_edits.specs.declared.refused.EditsRefused.TheVariants as edits
use Rattle.wse_resource.specs.Table.{Outcome, is_there, outcome, past_limit, unless_beneath, unless_past_limit, unless_taken}
use Rattle.wse_resource.specs.Table.Outcome.{Nothing, Done, Refused}
use Rattle.wse_resource.specs.After.{after_operation}
use Rattle.wse_resource.specs.Operated.{tree_by}
use Rattle.wse_resource.specs.declared.refused.OpRefused.{OpRefused}
use Rattle.wse_resource.specs.declared.refused.OpRefused.TheVariants.{Exists, IsFolder, NotFound, NotEmpty, IntoItself, HoldsSource}
use Rattle.wse_apply.specs.Setting.{SettingState}
use Rattle.wse_apply.specs.Limit.{limit_hit}
use Rattle.wse_apply.specs.Stop.{changed_to, held_among, locked_by, stop, unless}
use Rattle.wse_apply.specs.Next.{changed_by, done_next, edits_reason, next, not_text, resource_next, text_next, text_over, text_refusal, version_refusal}
use Rattle.wse_apply.specs.Course.{failure_of, first_refusal, left, one_later, refusals}
use Rattle.wse_apply.specs.Want.{fails_for_memory, is_want_of_memory}
use Rattle.wse_apply.specs.declared.reason.Reason.{Reason}
use Rattle.wse_apply.specs.declared.reason.Reason.TheVariants as reason

-- ---- a resource operation

abbrev OutcomeIsClean : Outcome → Type 0
OutcomeIsClean Nothing = ⊤
OutcomeIsClean Done = ⊤
OutcomeIsClean (Refused why) = is_want_of_memory (reason.Op why) ≡ false

either : (b : Bool) (x y : Outcome) → OutcomeIsClean x → OutcomeIsClean y → OutcomeIsClean (if b then x else y)
either true x y h k = h
either false x y h k = k

beneath : (above : Option Path) (rest : Outcome) → OutcomeIsClean rest → OutcomeIsClean (unless_beneath above rest)
beneath None rest h = h
beneath (Some file) rest h = refl

past : (from : Option Path) → OutcomeIsClean (unless_past_limit from)
past None = tt
past (Some from) = refl

taken : (there overwrite ignore : Bool) (rest : Outcome) → OutcomeIsClean rest → OutcomeIsClean (unless_taken there overwrite ignore rest)
taken there overwrite ignore rest h =
    either (there && not overwrite) (if ignore then Nothing else Refused Exists) rest (either ignore Nothing (Refused Exists) tt refl) h

clean_outcome : (files : Entries) (op : ResourceOp) → OutcomeIsClean (outcome files op)
clean_outcome files (Create p overwrite ignore) =
    let onto = unless_taken (is_present files p) overwrite ignore Done in
    either (is_folder files p) (Refused IsFolder) (unless_beneath (file_above files p) onto) refl
    (beneath (file_above files p) onto (taken (is_present files p) overwrite ignore Done tt))
clean_outcome files (Rename from to overwrite ignore) =
    let last = unless_past_limit (past_limit files from to) in
    let onto = unless_taken (is_there files to) overwrite ignore last in
    let free = unless_beneath (file_above files to) onto in
    let holds = if is_under from to then Refused HoldsSource else free in
    let into = if is_under to from then Refused IntoItself else holds in
    either (not (is_there files from)) (Refused NotFound) (if eq_by_cmp path_cmp from to then Nothing else into) refl
    (either (eq_by_cmp path_cmp from to) Nothing into tt
    (either (is_under to from) (Refused IntoItself) holds refl
    (either (is_under from to) (Refused HoldsSource) free refl
    (beneath (file_above files to) onto (taken (is_there files to) overwrite ignore last (past (past_limit files from to)))))))
clean_outcome files (Delete p recursive ignore) =
    let folder = if recursive then Done else Refused NotEmpty in
    let none = if ignore then Nothing else Refused NotFound in
    either (is_present files p) Done (if is_folder files p then folder else none) tt
    (either (is_folder files p) folder none (either recursive Done (Refused NotEmpty) tt refl) (either ignore Nothing (Refused NotFound) tt refl))

-- ---- reasons

abbrev ReasonIsClean : Option Reason → Type 0
ReasonIsClean None = ⊤
ReasonIsClean (Some why) = is_want_of_memory why ≡ false

abbrev ResultIsClean : Result Entries Reason → Type 0
ResultIsClean (Ok new) = ⊤
ResultIsClean (Err why) = is_want_of_memory why ≡ false

chosen : (b : Bool) (x y : Option Reason) → ReasonIsClean x → ReasonIsClean y → ReasonIsClean (if b then x else y)
chosen true x y h k = h
chosen false x y h k = k

first : (a b : Option Reason) → ReasonIsClean a → ReasonIsClean b → ReasonIsClean (option_or a b)
first None b h k = k
first (Some why) b h k = h

unless_clean : (why : Option Reason) (given : Result Entries Reason) → ReasonIsClean why → ResultIsClean given → ResultIsClean (unless why given)
unless_clean None given h k = k
unless_clean (Some why) given h k = h

locked : (paths : List Path) → ReasonIsClean (locked_by paths)
locked [] = tt
locked (p ∷ ps) = refl

limited : (hit : Option Hit) → ReasonIsClean (option_map reason.Limit hit)
limited None = tt
limited (Some hit) = refl

changed_clean : (setting : SettingState) (files new : Entries) → ResultIsClean (changed_to setting files new)
changed_clean setting files new =
    let paths = held_among setting.locks setting.by (changes_between files new) in
    let hit = limit_hit setting.limits new in
    unless_clean (stop setting files new) (Ok new) (first (locked_by paths) (option_map reason.Limit hit) (locked paths) (limited hit)) tt

done_by : (setting : SettingState) (files : Entries) (op : ResourceOp) (o : Outcome) → OutcomeIsClean o → ResultIsClean (changed_by setting files (tree_by files op o))
done_by setting files op Nothing h = changed_clean setting files files
done_by setting files op Done h = changed_clean setting files (after_operation files op)
done_by setting files op (Refused why) h = h

-- ---- edits of a text

version_clean : (want : Option ℤ) (have : ℕ) → ReasonIsClean (version_refusal want have)
version_clean None have = tt
version_clean (Some want) have = chosen (int_eq want (pos have)) None (Some (reason.Version have want)) tt refl

edits_clean : (why : Option EditsRefused) → ReasonIsClean (edits_reason why)
edits_clean None = tt
edits_clean (Some (edits.Inside edit char_start)) = refl
edits_clean (Some (edits.Overlap one other)) = refl
edits_clean (Some edits.Memory) = tt

refusal_clean : (setting : SettingState) (p : Path) (version : Option ℤ) (given : List TextEdit) (bytes : List ℕ) → ReasonIsClean (text_refusal setting p version given bytes)
refusal_clean setting p version given bytes =
    let by_version = version_refusal version (version_of setting.versions p) in
    let by_edits = edits_reason (refusal bytes setting.encoding given) in
    first by_version (option_or (not_text bytes) by_edits) (version_clean version (version_of setting.versions p))
    (first (not_text bytes) by_edits (chosen (is_utf8 bytes) None (Some (reason.NotText (utf8_valid_len bytes))) tt refl) (edits_clean (refusal bytes setting.encoding given)))

over_clean : (setting : SettingState) (files : Entries) (p : Path) (version : Option ℤ) (given : List TextEdit) (was : Option (List ℕ)) → ResultIsClean (text_over setting files p version given was)
over_clean setting files p version given None = refl
over_clean setting files p version given (Some bytes) =
    let new = put_file files p (edited bytes setting.encoding given) in
    unless_clean (text_refusal setting p version given bytes) (changed_to setting files new) (refusal_clean setting p version given bytes) (changed_clean setting files new)

-- ---- operations

picked : (b : Bool) (x y : Result Entries Reason) → ResultIsClean x → ResultIsClean y → ResultIsClean (if b then x else y)
picked true x y h k = h
picked false x y h k = k

done_clean : (setting : SettingState) (files : Entries) (what : What) → ResultIsClean (done_next setting files what)
done_clean setting files (Text p version given) =
    let over = text_over setting files p version given (content files p) in
    picked (is_folder files p) (Err (reason.Op IsFolder)) over refl (over_clean setting files p version given (content files p))
done_clean setting files (Resource op) = done_by setting files op (outcome files op) (clean_outcome files op)

next_clean : (setting : SettingState) (files : Entries) (o : Operation) → ResultIsClean (next setting files o)
next_clean setting files o = picked o.skipped (Ok files) (done_next setting files o.what) tt (done_clean setting files o.what)

later : (found : Option (ℕ × Reason)) → fails_for_memory found ≡ false → fails_for_memory (option_map one_later found) ≡ false
later None h = refl
later (Some failed) h = h

by_first : (given : Result Entries Reason) (more : List (Option Reason)) → ResultIsClean given → fails_for_memory (first_refusal more) ≡ false → fails_for_memory (first_refusal (result_err given ∷ more)) ≡ false
by_first (Ok new) more h k = later (first_refusal more) k
by_first (Err why) more h k = h

-- no operation of an edit fails for want of memory
pub failure_clean : (setting : SettingState) (files : Entries) (operations : List Operation) → fails_for_memory (failure_of setting files operations) ≡ false
failure_clean setting files [] = refl
failure_clean setting files (o ∷ os) =
    by_first (next setting files o) (refusals setting (left files (next setting files o)) os) (next_clean setting files o) (failure_clean setting (left files (next setting files o)) os)

-- and so none of those that are told
pub told_clean : (setting : SettingState) (files : Entries) (operations : List Operation) (failed : Option (ℕ × Reason)) → failed ≡ failure_of setting files operations → fails_for_memory failed ≡ false
told_clean setting files operations failed is = ap fails_for_memory is ∙ failure_clean setting files operations
