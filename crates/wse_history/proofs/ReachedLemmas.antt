-- What an edit reaches and keeps: a tree that passes no limit.
use Rattle.std.proofs.Common.{◌≡◌, ℕ, zero, suc, ◌≤◌, Bool, true, false, cond, List, [], ◌∷◌, map, Option, Some, None, Result, Ok, Err, refl, sym, ap, subst, ◌∙◌, arith}
use Rattle.std.specs.Prelude.{slice_index_or, ◌&&◌, if◌then◌else◌, ℤ}
use Rattle.std.specs.Result.{result_err}
use Rattle.std.proofs.lemmas.Bool.{ne_eqb}
use Rattle.std.specs.Ordering.{is_lt}
use Rattle.std.specs.FinMap.{is_sorted}
use Rattle.std.specs.FinMap.Entries.{below_all}
use Rattle.wse_path.specs.Order.{path_cmp}
use Rattle.wse_path.specs.Path.{Path}
use Rattle.wse_path.specs.Tree.{Entries, IsTree, content, is_folder, put_file}
use Rattle.wse_path.specs.Changes.{changes_between, contents_of, LeadToTree}
use Rattle.wse_path.specs.declared.change.Change.{Change}
use Rattle.wse_path.specs.declared.change.Numbered.{Numbered}
use Rattle.wse_path.specs.declared.edit.Edit.{Edit}
use Rattle.wse_path.specs.declared.edit.FailureKind.{FailureKind}
use Rattle.wse_path.specs.declared.edit.FailureKind.TheVariants.{Abort, Transactional, TextOnlyTransactional, Undo}
use Rattle.wse_path.specs.declared.edit.Operation.{Operation}
use Rattle.wse_path.specs.declared.edit.What.{What}
use Rattle.wse_path.specs.declared.edit.What.TheVariants.{Text, Resource}
use Rattle.wse_path.specs.declared.limits.Limits.{Limits}
use Rattle.wse_path.specs.declared.position.TextEdit.{TextEdit}
use Rattle.wse_path.proofs.LeadLemmas.{lead_rises}
use Rattle.wse_edits.specs.Edited.{edited}
use Rattle.wse_resource.specs.Operated.{operated}
use Rattle.wse_resource.specs.declared.refused.OpRefused.{OpRefused}
use Rattle.wse_resource.proofs.OutcomeLemmas.{leaves_tree}
use Rattle.wse_apply.specs.Setting.{SettingState}
use Rattle.wse_apply.specs.Limit.{limit_hit}
use Rattle.wse_apply.specs.Stop.{stop, unless, changed_to}
use Rattle.wse_apply.specs.Next.{changed_by, text_refusal, text_over, text_next, done_next, next}
use Rattle.wse_apply.specs.Course.{left, trees, refusals, done_before, failure_of, reached}
use Rattle.wse_apply.specs.Kept.{all_edit_texts, rule_of, rule_after, kept, bumps_by}
use Rattle.wse_apply.specs.Performed.{rule_for, performed_in}
use Rattle.wse_apply.specs.declared.reason.Reason.{Reason}
use Rattle.wse_apply.specs.declared.reason.Reason.TheVariants.{Op}
use Rattle.wse_resource.specs.declared.refused.OpRefused.TheVariants.{IsFolder}
use Rattle.wse_apply.proofs.StopLemmas.{fits_then}
use Rattle.wse_apply.proofs.TextLemmas.{change_leads}
use Rattle.wse_history.specs.Done.{pairs_of, AreRises, IsDoneWithin}

-- a tree that passes no limit
pub record Stands (limits : Limits) (files : Entries) : Type 0 where
  pub tree : IsTree files
  pub fits : limit_hit limits files ≡ None

bumps_some : (n : ℕ) (cs : List Change) → bumps_by (suc n) cs ≡ map {B = Numbered} (λ (c : Change). record { path = c.path; number = suc n }) cs
bumps_some n cs = ap (λ b. cond b [] (map {B = Numbered} (λ (c : Change). record { path = c.path; number = suc n }) cs)) (ne_eqb (suc n) 0 (λ e. absurd (omega (arith, e))))

-- ---- one operation

unless_ok : (why : Option Reason) (made new : Entries) → unless why (Ok made) ≡ Ok new → (why ≡ None) × (made ≡ new)
unless_ok None made new e = (refl, cc)
unless_ok (Some why) made new e = cc

changed_stands : (setting : SettingState) (files made new : Entries) → IsTree made → changed_to setting files made ≡ Ok new → Stands setting.limits new
changed_stands setting files made new tree e =
    let ok = unless_ok (stop setting files made) made new e in
    subst (λ (es : Entries). Stands setting.limits es) ok.1 (record { tree = tree; fits = fits_then setting files made ok.0 })

resource_stands : (setting : SettingState) (files new : Entries) (made : Result Entries OpRefused) → ((es : Entries) → made ≡ Ok es → IsTree es) → changed_by setting files made ≡ Ok new → Stands setting.limits new
resource_stands setting files new (Ok made) tree e = changed_stands setting files made new (tree made refl) e
resource_stands setting files new (Err why) tree e = cc

edited_stands : (setting : SettingState) (files new : Entries) (p : Path) (bytes after : List ℕ) (why : Option Reason) → IsTree files → content files p ≡ Some bytes → unless why (changed_to setting files (put_file files p after)) ≡ Ok new → Stands setting.limits new
edited_stands setting files new p bytes after None tree there e = changed_stands setting files (put_file files p after) new (change_leads files p bytes after tree there).tree e
edited_stands setting files new p bytes after (Some why) tree there e = cc

text_stands : (setting : SettingState) (files new : Entries) (p : Path) (version : Option ℤ) (es : List TextEdit) (o : Option (List ℕ)) → IsTree files → content files p ≡ o → text_over setting files p version es o ≡ Ok new → Stands setting.limits new
text_stands setting files new p version es None tree there e = cc
text_stands setting files new p version es (Some bytes) tree there e =
    edited_stands setting files new p bytes (edited bytes setting.encoding es) (text_refusal setting p version es bytes) tree there e

file_stands : (setting : SettingState) (files new : Entries) (p : Path) (version : Option ℤ) (es : List TextEdit) (folder : Bool) → IsTree files → is_folder files p ≡ folder → text_next setting files p version es ≡ Ok new → Stands setting.limits new
file_stands setting files new p version es true tree is e =
    let refused = sym (ap (λ b. if b then Err (Op IsFolder) else text_over setting files p version es (content files p)) is) ∙ e in cc
file_stands setting files new p version es false tree is e =
    text_stands setting files new p version es (content files p) tree refl
    (sym (ap (λ b. if b then Err (Op IsFolder) else text_over setting files p version es (content files p)) is) ∙ e)

done_stands : (setting : SettingState) (files new : Entries) (what : What) → IsTree files → done_next setting files what ≡ Ok new → Stands setting.limits new
done_stands setting files new (Text p version es) tree e = file_stands setting files new p version es (is_folder files p) tree refl e
done_stands setting files new (Resource op) tree e = resource_stands setting files new (operated files op) (λ made is. (leaves_tree files op tree).tree made is) e

same_ok : (a b : Entries) → ◌≡◌ {A = Result Entries Reason} (Ok a) (Ok b) → a ≡ b
same_ok a b e = cc

next_stands : (setting : SettingState) (files new : Entries) (o : Operation) (skipped : Bool) → o.skipped ≡ skipped → Stands setting.limits files → next setting files o ≡ Ok new → Stands setting.limits new
next_stands setting files new o true is now e =
    subst (λ (es : Entries). Stands setting.limits es) (same_ok files new (sym (ap (λ b. if b then Ok files else done_next setting files o.what) is) ∙ e)) now
next_stands setting files new o false is now e =
    done_stands setting files new o.what now.tree (sym (ap (λ b. if b then Ok files else done_next setting files o.what) is) ∙ e)

-- ---- all operations

course_stands : (setting : SettingState) (files given : Entries) (os : List Operation) → Stands setting.limits files → Stands setting.limits given → Stands setting.limits (slice_index_or (trees setting files os) (done_before (refusals setting files os)) given)
course_stands setting files given [] now other = now
course_stands setting files given (o ∷ os) now other =
    elim (next setting files o) as (λ r. next setting files o ≡ r → Stands setting.limits (slice_index_or (files ∷ trees setting (left files r) os) (done_before (result_err r ∷ refusals setting (left files r) os)) given)) [
      | Ok new ↦ λ e. course_stands setting new given os (next_stands setting files new o o.skipped refl now e) other
      | Err why ↦ λ e. now
    ] refl

module _ (setting : SettingState) (files : Entries) (now : Stands setting.limits files) where
  pub reached_stands : (os : List Operation) → Stands setting.limits (reached setting files os)
  reached_stands os = course_stands setting files files os now now

  -- what the edit reaches
  abbrev pub last : Edit → Entries
  last edit = reached setting files edit.operations

  -- what it keeps
  abbrev pub left_by : Edit → Entries
  left_by edit = kept (rule_for setting files edit) files (last edit)

  kept_stands : (keep : Bool) (es : Entries) → Stands setting.limits es → Stands setting.limits (if keep then es else files)
  kept_stands true es stands = stands
  kept_stands false es stands = now

  pub left_stands : (edit : Edit) → Stands setting.limits (left_by edit)
  left_stands edit = kept_stands (rule_for setting files edit).keeps (last edit) (reached_stands edit.operations)

  abbrev pub leads : (edit : Edit) → LeadToTree files (performed_in setting files edit).changes
  leads edit = record { old = now.tree; new = left_by edit; tree = (left_stands edit).tree; between = refl }

  reaches : (edit : Edit) → LeadToTree files (changes_between files (last edit))
  reaches edit = record { old = now.tree; new = last edit; tree = (reached_stands edit.operations).tree; between = refl }

  -- ---- versions

  pub bumps_sorted : (edit : Edit) → is_sorted path_cmp (pairs_of (performed_in setting files edit).bumps) ≡ true
  bumps_sorted edit = by_sorted (rule_for setting files edit).rise (changes_between files (last edit)) (lead_rises files (changes_between files (last edit)) (reaches edit))
    where
      below_alike : (x : Path) (rise : ℕ) (cs : List Change) → below_all path_cmp x (pairs_of (map (λ (c : Change). record { path = c.path; number = rise }) cs)) ≡ below_all path_cmp x (contents_of cs)
      below_alike x rise [] = refl
      below_alike x rise (c ∷ cs) = ap (λ b. is_lt (path_cmp x c.path) && b) (below_alike x rise cs)

      map_sorted : (rise : ℕ) (cs : List Change) → is_sorted path_cmp (pairs_of (map (λ (c : Change). record { path = c.path; number = rise }) cs)) ≡ is_sorted path_cmp (contents_of cs)
      map_sorted rise [] = refl
      map_sorted rise (c ∷ cs) = λ i. below_alike c.path rise cs i && map_sorted rise cs i

      by_sorted : (rise : ℕ) (cs : List Change) → is_sorted path_cmp (contents_of cs) ≡ true → is_sorted path_cmp (pairs_of (bumps_by rise cs)) ≡ true
      by_sorted zero cs s = refl
      by_sorted (suc n) cs s = ap (λ bs. is_sorted path_cmp (pairs_of bs)) (bumps_some n cs) ∙ map_sorted (suc n) cs ∙ s

  rise_of : (kind : FailureKind) (texts : Bool) → (rule_of kind texts).rise ≤ 2
  rise_of Abort texts = omega arith
  rise_of Transactional texts = omega arith
  rise_of TextOnlyTransactional true = omega arith
  rise_of TextOnlyTransactional false = omega arith
  rise_of Undo texts = omega arith

  rise_after : (failed : Option (ℕ × Reason)) (kind : FailureKind) (texts : Bool) → (rule_after failed kind texts).rise ≤ 2
  rise_after None kind texts = omega arith
  rise_after (Some why) kind texts = rise_of kind texts

  pub bumps_rise : (edit : Edit) → AreRises (performed_in setting files edit).bumps
  bumps_rise edit = by_rises (rule_for setting files edit).rise (changes_between files (last edit)) (rise_after (failure_of setting files edit.operations) edit.failure (all_edit_texts edit.operations))
    where
      map_rises : (rise : ℕ) (cs : List Change) → 1 ≤ rise → rise ≤ 2 → AreRises (map (λ (c : Change). record { path = c.path; number = rise }) cs)
      map_rises rise [] one two = tt
      map_rises rise (c ∷ cs) one two = ((one, two), map_rises rise cs one two)

      by_rises : (rise : ℕ) (cs : List Change) → rise ≤ 2 → AreRises (bumps_by rise cs)
      by_rises zero cs two = tt
      by_rises (suc n) cs two = subst AreRises (sym (bumps_some n cs)) (map_rises (suc n) cs (omega arith) two)

-- what is known of the edit that was performed
pub is_done : (setting : SettingState) (files : Entries) (edit : Edit) → IsTree files → limit_hit setting.limits files ≡ None → IsDoneWithin setting.limits files (performed_in setting files edit)
is_done setting files edit tree fits =
    let now : Stands setting.limits files = record { tree = tree; fits = fits } in
    record {
      is = record { lead = leads setting files now edit; sorted = bumps_sorted setting files now edit; rises = bumps_rise setting files now edit };
      fits = (left_stands setting files now edit).fits;
    }
