-- Where a URI is refused for want of memory the definitions say just that: no refusal of theirs has it as a URI's cause.
use Rattle.std.proofs.Common.{ℕ, ◌+◌, Bool, false, List, codes, [], Option, Some, None, Result, Ok, Err, inl, inr, IfErr, sym, subst}
use Rattle.std.specs.Option.{option_and_then}
use Rattle.std.specs.Prelude.{⊤}
use Rattle.serde_json.specs.Data.{Data, Items, no_items, item, Members, no_members, member}
use Rattle.serde_json.specs.Find.{as_bool, as_str, as_array, as_object}
use Rattle.url.specs.Parts.{Parts}
use Rattle.wse_path.specs.Path.{Path}
use Rattle.wse_path.specs.declared.command.Choice.TheVariants as choices
use Rattle.wse_path.specs.declared.command.Direction.{Direction}
use Rattle.wse_path.specs.declared.command.Direction.TheVariants.{Back, Forward}
use Rattle.wse_path.specs.declared.edit.FailureKind.TheVariants as failures
use Rattle.wse_path.specs.declared.position.Encoding.TheVariants as encodings
use Rattle.wse_uri.specs.Reading.{path_of}
use Rattle.wse_uri.specs.declared.refused.UriRefused.{UriRefused}
use Rattle.wse_uri.specs.declared.refused.UriRefused.TheVariants as uris
use Rattle.wse_json.specs.declared.command.Verb.{Verb}
use Rattle.wse_json.specs.declared.command.Verb.TheVariants as verbs
use Rattle.wse_json.specs.declared.operations.Kind.{Kind}
use Rattle.wse_json.specs.declared.operations.Kind.TheVariants as kinds
use Rattle.wse_json.specs.declared.shape.Shape.{Shape}
use Rattle.wse_json.specs.declared.shape.Shape.TheVariants.{NotJson, Field, Uri, Annotation, Memory}
use Rattle.wse_json.specs.Annotations.{annotation_check, annotation_checks, annotations_in, Waits, waits_of, waiting_at, waiting, skipped_in}
use Rattle.wse_json.specs.Commands.{failure_names, encoding_names, choice_names, verb_names, a_text, texts_of, confirmed_in, workspace_edit_of, edit_in, move_in, path_item, paths_of, paths_in, outside_in, command_by, command_of}
use Rattle.wse_json.specs.Kinds.{an_object, a_whole, a_whole_up_to, a_text_up_to, one_of, or_standard, required, standard, perhaps, within, if_there, within_or, items_from, entries_of}
use Rattle.wse_json.specs.Members.{is_among, optional}
use Rattle.wse_json.specs.Operations.{a_version, kind_names, path_if, path_named, path_at, flags_of, options_in, create_of, rename_of, delete_of, document_of, text_change_of, operation_by, operation_of, document_changes_of, entry_of, changes_of, listed_or_changes, operations_in}
use Rattle.wse_json.specs.Shapes.{behind, under, or_field, to_member, to_item, Gives, HasUriCause, ◌>>=◌}
use Rattle.wse_json.specs.TextEdits.{position_of, range_of, text_edit_of, text_edits_of}

abbrev pub IsCaused : {X : Type 0} → Result X Shape → Type 0
IsCaused (Ok x) = ⊤
IsCaused (Err why) = HasUriCause why

-- ---- steps

then_caused : {X Y : Type 0} (r : Result X Shape) (next : X → Result Y Shape) → IsCaused r → ((x : X) → IsCaused (next x)) → IsCaused (r >>= next)
then_caused (Ok x) next first second = second x
then_caused (Err why) next first second = first

behind_caused : (step : List ℕ) (why : Shape) → HasUriCause why → HasUriCause (behind step why)
behind_caused step NotJson h = tt
behind_caused step (Field pointer) h = tt
behind_caused step (Uri pointer why) h = h
behind_caused step (Annotation id) h = tt
behind_caused step Memory h = tt

under_caused : {X : Type 0} (step : List ℕ) (r : Result X Shape) → IsCaused r → IsCaused (under step r)
under_caused step (Ok x) h = tt
under_caused step (Err why) h = behind_caused step why h

field_caused : {X : Type 0} (pointer : List ℕ) (o : Option X) → IsCaused (or_field pointer o)
field_caused pointer (Some x) = tt
field_caused pointer None = tt

or_standard_caused : {X : Type 0} (pointer : List ℕ) (kind : Data → Option X) (x : X) (o : Option Data) → IsCaused (or_standard pointer kind x o)
or_standard_caused pointer kind x None = tt
or_standard_caused pointer kind x (Some d) = field_caused pointer (kind d)

required_caused : {X : Type 0} (name : List ℕ) (kind : Data → Option X) (d : Data) → IsCaused (required name kind d)
required_caused name kind d = field_caused (to_member name) (option_and_then kind (optional name d))

standard_caused : {X : Type 0} (name : List ℕ) (kind : Data → Option X) (x : X) (d : Data) → IsCaused (standard name kind x d)
standard_caused name kind x d = or_standard_caused (to_member name) kind x (optional name d)

perhaps_caused : {X : Type 0} (name : List ℕ) (kind : Data → Option X) (d : Data) → IsCaused (perhaps name kind d)
perhaps_caused name kind d = standard_caused name _ None d

within_caused : {X Y : Type 0} (name : List ℕ) (kind : Data → Option X) (read : X → Result Y Shape) (d : Data) → ((x : X) → IsCaused (read x)) → IsCaused (within name kind read d)
within_caused name kind read d h = then_caused (required name kind d) (λ x. under (to_member name) (read x)) (required_caused name kind d) (λ x. under_caused (to_member name) (read x) (h x))

if_there_caused : {X Y : Type 0} (name : List ℕ) (read : X → Result Y Shape) (y : Y) (o : Option X) → ((x : X) → IsCaused (read x)) → IsCaused (if_there name read y o)
if_there_caused name read y None h = tt
if_there_caused name read y (Some x) h = under_caused (to_member name) (read x) (h x)

within_or_caused : {X Y : Type 0} (name : List ℕ) (kind : Data → Option X) (read : X → Result Y Shape) (y : Y) (d : Data) → ((x : X) → IsCaused (read x)) → IsCaused (within_or name kind read y d)
within_or_caused name kind read y d h = then_caused (perhaps name kind d) (if_there name read y) (perhaps_caused name kind d) (λ x. if_there_caused name read y x h)

items_caused : {X : Type 0} (read : Data → Result X Shape) → ((d : Data) → IsCaused (read d)) → (i : ℕ) (ds : Items) → IsCaused (items_from read i ds)
items_caused read h i no_items = tt
items_caused read h i (item d ds) =
    then_caused (under (to_item i) (read d)) _ (under_caused (to_item i) (read d) (h d)) (λ x.
    then_caused (items_from read (i + 1) ds) _ (items_caused read h (i + 1) ds) (λ xs. tt))

entries_caused : {X : Type 0} (read : List ℕ → Data → Result X Shape) → ((name : List ℕ) (d : Data) → IsCaused (read name d)) → (ms : Members) → IsCaused (entries_of read ms)
entries_caused read h no_members = tt
entries_caused read h (member name d ms) =
    then_caused (under (to_member name) (read name d)) _ (under_caused (to_member name) (read name d) (h name d)) (λ x. then_caused (entries_of read ms) _ (entries_caused read h ms) (λ xs. tt))

field_then : {X Y : Type 0} (pointer : List ℕ) (o : Option X) (next : X → Result Y Shape) → ((x : X) → IsCaused (next x)) → IsCaused (or_field pointer o >>= next)
field_then pointer o next h = then_caused (or_field pointer o) next (field_caused pointer o) h

required_then : {X Y : Type 0} (name : List ℕ) (kind : Data → Option X) (d : Data) (next : X → Result Y Shape) → ((x : X) → IsCaused (next x)) → IsCaused (required name kind d >>= next)
required_then name kind d next h = then_caused (required name kind d) next (required_caused name kind d) h

standard_then : {X Y : Type 0} (name : List ℕ) (kind : Data → Option X) (x : X) (d : Data) (next : X → Result Y Shape) → ((x : X) → IsCaused (next x)) → IsCaused (standard name kind x d >>= next)
standard_then name kind x d next h = then_caused (standard name kind x d) next (standard_caused name kind x d) h

perhaps_then : {X Y : Type 0} (name : List ℕ) (kind : Data → Option X) (d : Data) (next : Option X → Result Y Shape) → ((x : Option X) → IsCaused (next x)) → IsCaused (perhaps name kind d >>= next)
perhaps_then name kind d next h = then_caused (perhaps name kind d) next (perhaps_caused name kind d) h

within_then : {X Y Z : Type 0} (name : List ℕ) (kind : Data → Option X) (read : X → Result Y Shape) (d : Data) (next : Y → Result Z Shape) → ((x : X) → IsCaused (read x)) → ((y : Y) → IsCaused (next y)) → IsCaused (within name kind read d >>= next)
within_then name kind read d next h k = then_caused (within name kind read d) next (within_caused name kind read d h) k

-- ---- annotations

annotation_caused : (d : Data) → IsCaused (annotation_check d)
unfolding annotation_check
annotation_caused d =
    field_then [] (an_object d) _ (λ e.
    required_then (codes "label") as_str e _ (λ l.
    standard_then (codes "needsConfirmation") as_bool false e _ (λ n.
    perhaps_then (codes "description") as_str e _ (λ t. tt))))

annotations_caused : (ms : Members) → IsCaused (annotation_checks ms)
annotations_caused no_members = tt
annotations_caused (member id d ms) = then_caused (under (to_member id) (annotation_check d)) (λ x. annotation_checks ms) (under_caused (to_member id) (annotation_check d) (annotation_caused d)) (λ x. annotations_caused ms)

annotations_in_caused : (d : Data) → IsCaused (annotations_in d)
unfolding annotations_in
annotations_in_caused d = within_or_caused (codes "changeAnnotations") as_object annotation_checks tt d annotations_caused

waiting_at_caused : (id : List ℕ) (o : Option Bool) → IsCaused (waiting_at id o)
waiting_at_caused id None = tt
waiting_at_caused id (Some b) = tt

waiting_caused : (waits : Waits) (o : Option (List ℕ)) → IsCaused (waiting waits o)
waiting_caused waits None = tt
waiting_caused waits (Some id) = waiting_at_caused id (waits id)

skipped_caused : (waits : Waits) (d : Data) → IsCaused (skipped_in waits d)
unfolding skipped_in
skipped_caused waits d = perhaps_then (codes "annotationId") as_str d (waiting waits) (waiting_caused waits)

-- ---- edits of texts

position_caused : (d : Data) → IsCaused (position_of d)
unfolding position_of
position_caused d = required_then (codes "line") a_whole d _ (λ l. required_then (codes "character") a_whole d _ (λ c. tt))

range_caused : (d : Data) → IsCaused (range_of d)
unfolding range_of
range_caused d =
    within_then (codes "start") an_object position_of d _ position_caused (λ s.
    within_then (codes "end") an_object position_of d _ position_caused (λ e. tt))

text_edit_caused : (waits : Waits) (d : Data) → IsCaused (text_edit_of waits d)
unfolding text_edit_of
text_edit_caused waits d =
    field_then [] (an_object d) _ (λ e.
    within_then (codes "range") an_object range_of e _ range_caused (λ p.
    required_then (codes "newText") as_str e _ (λ t.
    then_caused (skipped_in waits e) _ (skipped_caused waits e) (λ s. tt))))

text_edits_caused : (waits : Waits) (ds : Items) → IsCaused (text_edits_of waits ds)
unfolding text_edits_of
text_edits_caused waits ds = items_caused (text_edit_of waits) (text_edit_caused waits) 0 ds

-- ---- operations

path_if_caused : (r : Result Path UriRefused) → IsCaused (path_if r)
path_if_caused (Ok path) = tt
path_if_caused (Err uris.NotUrl) = λ e. cc
path_if_caused (Err uris.NotFile) = λ e. cc
path_if_caused (Err uris.HasHost) = λ e. cc
path_if_caused (Err uris.HasQuery) = λ e. cc
path_if_caused (Err uris.HasFragment) = λ e. cc
path_if_caused (Err uris.OutsideRoot) = λ e. cc
path_if_caused (Err uris.IsRoot) = λ e. cc
path_if_caused (Err (uris.Escape i)) = λ e. cc
path_if_caused (Err (uris.Path why)) = λ e. cc
path_if_caused (Err uris.Memory) = tt

path_named_caused : (root : Parts) (text : List ℕ) → IsCaused (path_named root text)
unfolding path_named
path_named_caused root text = path_if_caused (path_of root text)

path_at_caused : (root : Parts) (name : List ℕ) (d : Data) → IsCaused (path_at root name d)
unfolding path_at
path_at_caused root name d = within_caused name as_str (path_named root) d (path_named_caused root)

path_then : {Y : Type 0} (root : Parts) (name : List ℕ) (d : Data) (next : Path → Result Y Shape) → ((path : Path) → IsCaused (next path)) → IsCaused (path_at root name d >>= next)
path_then root name d next h = then_caused (path_at root name d) next (path_at_caused root name d) h

flags_caused : (first second : List ℕ) (d : Data) → IsCaused (flags_of first second d)
flags_caused first second d = standard_then first as_bool false d _ (λ a. standard_then second as_bool false d _ (λ b. tt))

options_caused : (first second : List ℕ) (d : Data) → IsCaused (options_in first second d)
unfolding options_in
options_caused first second d = within_or_caused (codes "options") an_object (flags_of first second) (false, false) d (flags_caused first second)

options_then : {Y : Type 0} (first second : List ℕ) (d : Data) (next : Bool × Bool → Result Y Shape) → ((flags : Bool × Bool) → IsCaused (next flags)) → IsCaused (options_in first second d >>= next)
options_then first second d next h = then_caused (options_in first second d) next (options_caused first second d) h

create_caused : (root : Parts) (waits : Waits) (d : Data) → IsCaused (create_of root waits d)
unfolding create_of
create_caused root waits d =
    path_then root (codes "uri") d _ (λ p.
    options_then (codes "overwrite") (codes "ignoreIfExists") d _ (λ f.
    then_caused (skipped_in waits d) _ (skipped_caused waits d) (λ s. tt)))

rename_caused : (root : Parts) (waits : Waits) (d : Data) → IsCaused (rename_of root waits d)
unfolding rename_of
rename_caused root waits d =
    path_then root (codes "oldUri") d _ (λ p.
    path_then root (codes "newUri") d _ (λ q.
    options_then (codes "overwrite") (codes "ignoreIfExists") d _ (λ f.
    then_caused (skipped_in waits d) _ (skipped_caused waits d) (λ s. tt))))

delete_caused : (root : Parts) (waits : Waits) (d : Data) → IsCaused (delete_of root waits d)
unfolding delete_of
delete_caused root waits d =
    path_then root (codes "uri") d _ (λ p.
    options_then (codes "recursive") (codes "ignoreIfNotExists") d _ (λ f.
    then_caused (skipped_in waits d) _ (skipped_caused waits d) (λ s. tt)))

document_caused : (root : Parts) (d : Data) → IsCaused (document_of root d)
unfolding document_of
document_caused root d = path_then root (codes "uri") d _ (λ p. perhaps_then (codes "version") a_version d _ (λ v. tt))

text_change_caused : (root : Parts) (waits : Waits) (d : Data) → IsCaused (text_change_of root waits d)
unfolding text_change_of
text_change_caused root waits d =
    within_then (codes "textDocument") an_object (document_of root) d _ (document_caused root) (λ f.
    within_then (codes "edits") as_array (text_edits_of waits) d _ (text_edits_caused waits) (λ e. tt))

operation_by_caused : (kind : Kind) (root : Parts) (waits : Waits) (d : Data) → IsCaused (operation_by kind root waits d)
operation_by_caused kinds.Text root waits d = text_change_caused root waits d
operation_by_caused kinds.Create root waits d = create_caused root waits d
operation_by_caused kinds.Rename root waits d = rename_caused root waits d
operation_by_caused kinds.Delete root waits d = delete_caused root waits d

operation_caused : (root : Parts) (waits : Waits) (d : Data) → IsCaused (operation_of root waits d)
unfolding operation_of
operation_caused root waits d =
    field_then [] (an_object d) _ (λ i.
    standard_then (codes "kind") (one_of kind_names) kinds.Text i _ (λ k. operation_by_caused k root waits i))

document_changes_caused : (root : Parts) (waits : Waits) (ds : Items) → IsCaused (document_changes_of root waits ds)
unfolding document_changes_of
document_changes_caused root waits ds = items_caused (operation_of root waits) (operation_caused root waits) 0 ds

entry_caused : (root : Parts) (waits : Waits) (name : List ℕ) (d : Data) → IsCaused (entry_of root waits name d)
unfolding entry_of
entry_caused root waits name d =
    then_caused (path_named root name) _ (path_named_caused root name) (λ p.
    field_then [] (as_array d) _ (λ i.
    then_caused (text_edits_of waits i) _ (text_edits_caused waits i) (λ e. tt)))

changes_caused : (root : Parts) (waits : Waits) (ms : Members) → IsCaused (changes_of root waits ms)
unfolding changes_of
changes_caused root waits ms = entries_caused (entry_of root waits) (entry_caused root waits) ms

listed_or_changes_caused : (root : Parts) (waits : Waits) (d : Data) (listed : Option Items) → IsCaused (listed_or_changes root waits d listed)
listed_or_changes_caused root waits d (Some ds) = under_caused (to_member (codes "documentChanges")) (document_changes_of root waits ds) (document_changes_caused root waits ds)
listed_or_changes_caused root waits d None = within_or_caused (codes "changes") as_object (changes_of root waits) [] d (changes_caused root waits)

operations_caused : (root : Parts) (waits : Waits) (d : Data) → IsCaused (operations_in root waits d)
unfolding operations_in
operations_caused root waits d = perhaps_then (codes "documentChanges") as_array d (listed_or_changes root waits d) (listed_or_changes_caused root waits d)

-- ---- commands

texts_caused : (ds : Items) → IsCaused (texts_of ds)
unfolding texts_of
texts_caused ds = items_caused a_text (λ d. field_caused [] (as_str d)) 0 ds

confirmed_caused : (d : Data) → IsCaused (confirmed_in d)
unfolding confirmed_in
confirmed_caused d = within_or_caused (codes "confirmed") as_array texts_of [] d texts_caused

workspace_edit_caused : (root : Parts) (confirmed : List ℕ → Bool) (d : Data) → IsCaused (workspace_edit_of root confirmed d)
unfolding workspace_edit_of
workspace_edit_caused root confirmed d = then_caused (annotations_in d) _ (annotations_in_caused d) (λ c. operations_caused root (waits_of (optional (codes "changeAnnotations") d) confirmed) d)

edit_caused : (root : Parts) (d : Data) → IsCaused (edit_in root d)
unfolding edit_in
edit_caused root d =
    standard_then (codes "label") (a_text_up_to 1024) [] d _ (λ l.
    standard_then (codes "failure") (one_of failure_names) failures.Abort d _ (λ f.
    standard_then (codes "encoding") (one_of encoding_names) encodings.Utf16 d _ (λ e.
    then_caused (confirmed_in d) _ (confirmed_caused d) (λ c.
    within_then (codes "edit") an_object (workspace_edit_of root (is_among c)) d _ (workspace_edit_caused root (is_among c)) (λ o. tt)))))

move_caused : (root : Parts) (by : ℕ) (direction : Direction) (d : Data) → IsCaused (move_in root by direction d)
unfolding move_in
move_caused root by direction d = path_then root (codes "uri") d _ (λ p. standard_then (codes "choice") (one_of choice_names) choices.All d _ (λ c. tt))

path_item_caused : (root : Parts) (d : Data) → IsCaused (path_item root d)
path_item_caused root d = field_then [] (as_str d) (path_named root) (path_named_caused root)

paths_caused : (root : Parts) (ds : Items) → IsCaused (paths_of root ds)
unfolding paths_of
paths_caused root ds = items_caused (path_item root) (path_item_caused root) 0 ds

paths_in_caused : (root : Parts) (d : Data) → IsCaused (paths_in root d)
unfolding paths_in
paths_in_caused root d = within_caused (codes "uris") as_array (paths_of root) d (paths_caused root)

outside_caused : (root : Parts) (d : Data) → IsCaused (outside_in root d)
unfolding outside_in
outside_caused root d = path_then root (codes "uri") d _ (λ p. perhaps_then (codes "text") as_str d _ (λ t. tt))

command_by_caused : (verb : Verb) (root : Parts) (by : ℕ) (d : Data) → IsCaused (command_by verb root by d)
unfolding command_by
command_by_caused verbs.Edit root by d = then_caused (edit_in root d) _ (edit_caused root d) (λ e. tt)
command_by_caused verbs.Undo root by d = move_caused root by Back d
command_by_caused verbs.Redo root by d = move_caused root by Forward d
command_by_caused verbs.Lock root by d = then_caused (paths_in root d) _ (paths_in_caused root d) (λ f. tt)
command_by_caused verbs.Unlock root by d = then_caused (paths_in root d) _ (paths_in_caused root d) (λ f. tt)
command_by_caused verbs.Leave root by d = tt
command_by_caused verbs.Outside root by d = outside_caused root d
command_by_caused verbs.Forget root by d = path_then root (codes "uri") d _ (λ p. tt)
command_by_caused verbs.Look root by d = path_then root (codes "uri") d _ (λ p. tt)

pub command_caused : (root : Parts) (d : Data) → IsCaused (command_of root d)
unfolding command_of
command_caused root d =
    field_then [] (an_object d) _ (λ line.
    standard_then (codes "by") (a_whole_up_to 4294967295) 0 line _ (λ by.
    required_then (codes "do") (one_of verb_names) line _ (λ verb. command_by_caused verb root by line)))

pub gives_caused : {X : Type 0} (r result : Result X Shape) → IsCaused r → Gives r result → IfErr result HasUriCause
gives_caused r (Ok x) caused h = tt
gives_caused r (Err why) caused (inl starved) = subst HasUriCause (sym starved) tt
gives_caused r (Err why) caused (inr refused) = subst IsCaused refused caused
