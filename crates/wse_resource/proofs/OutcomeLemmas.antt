-- What comes of an operation, and what it says of the tree that is left.
use Rattle.std.proofs.Common.{◌≡◌, Bool, true, false, not, Option, Some, None, Result, Ok, Err, refl, sym, ap, subst, ◌∙◌, if◌then◌else◌}
use Rattle.std.specs.Ordering.{eq_by_cmp}
use Rattle.wse_path.specs.Path.{Path, is_under}
use Rattle.wse_path.specs.Order.{path_cmp}
use Rattle.wse_path.specs.Tree.{Entries, is_present, is_folder, file_above, HasRoom, IsTree}
use Rattle.wse_path.specs.declared.operation.ResourceOp.{ResourceOp}
use Rattle.wse_path.specs.declared.operation.ResourceOp.TheVariants.{Create, Rename, Delete}
use Rattle.wse_resource.specs.declared.refused.OpRefused.{OpRefused}
use Rattle.wse_resource.specs.declared.refused.OpRefused.TheVariants.{IsFolder, NotFound, IntoItself, HoldsSource}
use Rattle.wse_resource.specs.Table.{Outcome, is_there, past_limit, unless_beneath, unless_past_limit, unless_taken, create_outcome, rename_outcome, outcome}
use Rattle.wse_resource.specs.Table.Outcome.{Nothing, Done, Refused}
use Rattle.wse_resource.specs.After.{after_operation}
use Rattle.wse_resource.specs.Operated.{tree_by, changes_to, changed, LeavesTree}
use Rattle.wse_resource.specs.Course.{limit_outcome}
use Rattle.wse_path.proofs.RoomLemmas.{room_where}
use Rattle.wse_resource.proofs.AfterLemmas.{content_is, tree_created, tree_renamed, tree_without}

-- ---- what a rename finds, by the answers of its tests

abbrev pub found_by : (there same into holds : Bool) → Option Path → Outcome → Outcome
found_by there same into holds above rest =
    if not there then Refused NotFound
    else (if same then Nothing
    else (if into then Refused IntoItself
    else (if holds then Refused HoldsSource
    else unless_beneath above rest)))

pub rename_by : (files : Entries) (from to : Path) (overwrite ignore there same into holds : Bool) → is_there files from ≡ there → eq_by_cmp path_cmp from to ≡ same → is_under to from ≡ into → is_under from to ≡ holds → rename_outcome files from to overwrite ignore ≡ found_by there same into holds (file_above files to) (unless_taken (is_there files to) overwrite ignore (unless_past_limit (past_limit files from to)))
rename_by files from to overwrite ignore there same into holds a b c d =
    λ i. found_by (a i) (b i) (c i) (d i) (file_above files to) (unless_taken (is_there files to) overwrite ignore (unless_past_limit (past_limit files from to)))

-- past its first tests, what stands at the target decides
pub rename_onto : (files : Entries) (from to : Path) (overwrite ignore taken : Bool) → is_there files from ≡ true → eq_by_cmp path_cmp from to ≡ false → is_under to from ≡ false → is_under from to ≡ false → file_above files to ≡ None → taken ≡ is_there files to → rename_outcome files from to overwrite ignore ≡ unless_taken taken overwrite ignore (unless_past_limit (past_limit files from to))
rename_onto files from to overwrite ignore taken a b c d above e =
    rename_by files from to overwrite ignore true false false false a b c d
    ∙ ap (λ x. unless_beneath x (unless_taken (is_there files to) overwrite ignore (unless_past_limit (past_limit files from to)))) above
    ∙ ap (λ t. unless_taken t overwrite ignore (unless_past_limit (past_limit files from to))) (sym e)

-- ---- what is done has no file above it

create_clear : (folder : Bool) (above : Option Path) (rest : Outcome) → (if folder then Refused IsFolder else unless_beneath above rest) ≡ Done → (folder ≡ false) × (above ≡ None)
create_clear true above rest e = cc
create_clear false (Some file) rest e = cc
create_clear false None rest e = (refl, refl)

rename_clear : (there same into holds : Bool) (above : Option Path) (rest : Outcome) (limit : Option Path) → found_by there same into holds above rest ≡ unless_past_limit limit → above ≡ None
rename_clear there same into holds None rest limit e = refl
rename_clear false same into holds (Some file) rest (Some p) e = cc
rename_clear false same into holds (Some file) rest None e = cc
rename_clear true true into holds (Some file) rest (Some p) e = cc
rename_clear true true into holds (Some file) rest None e = cc
rename_clear true false true holds (Some file) rest (Some p) e = cc
rename_clear true false true holds (Some file) rest None e = cc
rename_clear true false false true (Some file) rest (Some p) e = cc
rename_clear true false false true (Some file) rest None e = cc
rename_clear true false false false (Some file) rest (Some p) e = cc
rename_clear true false false false (Some file) rest None e = cc

-- an operation that nothing but a limit may stop leaves a tree
pub done_tree : (files : Entries) (op : ResourceOp) → IsTree files → outcome files op ≡ limit_outcome files op → IsTree (after_operation files op)
done_tree files (Create p overwrite ignore) tree e =
    let clear = create_clear (is_folder files p) (file_above files p) (unless_taken (is_present files p) overwrite ignore Done) e in
    tree_created files p tree clear.0 clear.1
done_tree files (Rename from to overwrite ignore) tree e =
    tree_renamed files from to overwrite ignore tree (rename_clear (is_there files from) (eq_by_cmp path_cmp from to) (is_under to from) (is_under from to) (file_above files to) _ (past_limit files from to) e)
done_tree files (Delete p recursive ignore) tree e = tree_without files p tree

rename_limit : (there same into holds : Bool) (above : Option Path) (taken overwrite ignore : Bool) (limit : Option Path) → found_by there same into holds above (unless_taken taken overwrite ignore (unless_past_limit limit)) ≡ Done → unless_past_limit limit ≡ Done
rename_limit there same into holds above taken overwrite ignore None e = refl
rename_limit false same into holds above taken overwrite ignore (Some p) e = cc
rename_limit true true into holds above taken overwrite ignore (Some p) e = cc
rename_limit true false true holds above taken overwrite ignore (Some p) e = cc
rename_limit true false false true above taken overwrite ignore (Some p) e = cc
rename_limit true false false false (Some file) taken overwrite ignore (Some p) e = cc
rename_limit true false false false None false overwrite ignore (Some p) e = cc
rename_limit true false false false None true true ignore (Some p) e = cc
rename_limit true false false false None true false true (Some p) e = cc
rename_limit true false false false None true false false (Some p) e = cc

pub done_limit : (files : Entries) (op : ResourceOp) → outcome files op ≡ Done → limit_outcome files op ≡ Done
done_limit files (Create p overwrite ignore) e = refl
done_limit files (Rename from to overwrite ignore) e =
    rename_limit (is_there files from) (eq_by_cmp path_cmp from to) (is_under to from) (is_under from to) (file_above files to) (is_there files to) overwrite ignore (past_limit files from to) e
done_limit files (Delete p recursive ignore) e = refl

same_ok : (a b : Entries) → ◌≡◌ {A = Result Entries OpRefused} (Ok a) (Ok b) → a ≡ b
same_ok a b e = cc

err_ok : (why : OpRefused) (new : Entries) → ◌≡◌ {A = Result Entries OpRefused} (Err why) (Ok new) → ⊥
err_ok why new e = cc

left_tree : (files : Entries) (op : ResourceOp) (o : Outcome) → IsTree files → outcome files op ≡ o → (new : Entries) → tree_by files op o ≡ Ok new → IsTree new
left_tree files op Nothing tree e new is = subst IsTree (same_ok files new is) tree
left_tree files op Done tree e new is = subst IsTree (same_ok (after_operation files op) new is) (done_tree files op tree (e ∙ sym (done_limit files op e)))
left_tree files op (Refused why) tree e new is = absurd (err_ok why new is)

pub leaves_tree : (files : Entries) (op : ResourceOp) → IsTree files → LeavesTree files op
leaves_tree files op tree = record {
  tree = left_tree files op (outcome files op) tree refl;
  each = λ _ q. content_is files op q tree.rises;
}

-- what is changed, by what comes of the operation
pub changed_by : (files : Entries) (op : ResourceOp) (o : Outcome) → outcome files op ≡ o → changed files op ≡ changes_to files (tree_by files op o)
changed_by files op o e = ap (λ x. changes_to files (tree_by files op x)) e

-- a create that goes has room
pub created_room : (files : Entries) (p : Path) (overwrite ignore : Bool) → create_outcome files p overwrite ignore ≡ Done → HasRoom files p
created_room files p overwrite ignore e =
    let clear = create_clear (is_folder files p) (file_above files p) (unless_taken (is_present files p) overwrite ignore Done) e in
    room_where files p clear.0 clear.1
