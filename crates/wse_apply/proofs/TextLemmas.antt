-- Edits of a text as the change of one file, and why they are refused.
use Rattle.std.proofs.Common.{◌≡◌, ℕ, ℤ, pos, true, false, cond, ◌⊎◌, inl, inr, List, [], ◌∷◌, ◌++◌, Option, Some, None, MatchOption, Err, refl, sym, ap, subst, ◌∙◌}
use Rattle.std.specs.Prelude.{is_some, if◌then◌else◌}
use Rattle.std.specs.Cmp.{signed_Decides}
use Rattle.std.specs.Option.{option_or}
use Rattle.std.specs.Ordering.{eq_by_cmp, int_eq}
use Rattle.std.specs.Str.{IsUtf8, is_utf8}
use Rattle.std.specs.Str.Lossy.{utf8_valid_len}
use Rattle.std.proofs.lemmas.List.{append-nil}
use Rattle.std.proofs.lemmas.Str.{is_utf8-from_IsUtf8, IsUtf8-from_is_utf8}
use Rattle.wse_path.specs.Path.{Path}
use Rattle.wse_path.specs.Order.{path_cmp}
use Rattle.wse_path.specs.Tree.{Entries, content, is_folder, put_file, IsTree}
use Rattle.wse_path.specs.Versions.{version_of}
use Rattle.wse_path.specs.Changes.{is_same}
use Rattle.wse_path.specs.declared.change.Change.{Change}
use Rattle.wse_path.specs.declared.position.Encoding.{Encoding}
use Rattle.wse_path.specs.declared.position.TextEdit.{TextEdit}
use Rattle.wse_path.proofs.TreeLemmas.{tree_put}
use Rattle.wse_path.proofs.ChangeLemmas.{content_put}
use Rattle.wse_path.proofs.GatheredLemmas.{changes_given}
use Rattle.wse_edits.specs.Edited.{edited}
use Rattle.wse_edits.specs.Refusal.{refusal}
use Rattle.wse_edits.specs.declared.refused.EditsRefused.{EditsRefused}
use Rattle.wse_edits.specs.declared.refused.EditsRefused.TheVariants as edits
use Rattle.wse_resource.specs.declared.refused.OpRefused.TheVariants.{IsFolder}
use Rattle.wse_apply.specs.Setting.{SettingState}
use Rattle.wse_apply.specs.Stop.{unless, changed_to}
use Rattle.wse_apply.specs.Next.{version_refusal, not_text, edits_reason, text_refusal, text_over, text_next}
use Rattle.wse_apply.specs.Draft.{LeadTo, IsDraftOf, IsStopOf, TellsReason, change_of}
use Rattle.wse_apply.specs.declared.reason.Reason.{Reason}
use Rattle.wse_apply.specs.declared.reason.Reason.TheVariants as reason
use Rattle.wse_apply.specs.declared.stop.Stop.{Stop}
use Rattle.wse_apply.specs.declared.stop.Stop.TheVariants.{Refused, Memory}

put_there : (files : Entries) (p q : Path) (after : List ℕ) → MatchOption (cond (eq_by_cmp path_cmp q p) (Some (Some after)) None) (content (put_file files p after) q ≡ content files q) (λ a. content (put_file files p after) q ≡ a)
put_there files p q after =
    let is = content_put files p after q in
    elim (eq_by_cmp path_cmp q p) as (λ b. content (put_file files p after) q ≡ cond b (Some after) (content files q) → MatchOption (cond b (Some (Some after)) None) (content (put_file files p after) q ≡ content files q) (λ a. content (put_file files p after) q ≡ a)) [
      | true ↦ λ e. e
      | false ↦ λ e. e
    ] is

-- the change of a file leads to the files with its new content
pub change_leads : (files : Entries) (p : Path) (before after : List ℕ) → IsTree files → content files p ≡ Some before → LeadTo files (change_of p before after) (put_file files p after)
change_leads files p before after tree is = record {
  tree = tree_put files p after tree (inl (ap is_some is));
  between =
      sym (append-nil (change_of p before after))
      ∙ ap (λ o. (if is_same o (Some after) then [] else record { path = p; before = o; after = Some after } ∷ []) ++ []) (sym is)
      ∙ changes_given files (put_file files p after) ((p, Some after) ∷ []) tree.rises refl (λ q. put_there files p q after);
}

-- ---- why a text can't be edited

pub utf8_none : (bytes : List ℕ) → IsUtf8 bytes → not_text bytes ≡ None
utf8_none bytes h = ap (λ b. if b then None else Some (reason.NotText (utf8_valid_len bytes))) (is_utf8-from_IsUtf8 bytes h)

pub utf8_some : (bytes : List ℕ) → ¬ (IsUtf8 bytes) → not_text bytes ≡ Some (reason.NotText (utf8_valid_len bytes))
utf8_some bytes h =
    elim (is_utf8 bytes) as (λ b. is_utf8 bytes ≡ b → (if b then None else Some (reason.NotText (utf8_valid_len bytes))) ≡ Some (reason.NotText (utf8_valid_len bytes))) [
      | true ↦ λ e. absurd (h (IsUtf8-from_is_utf8 bytes e))
      | false ↦ λ e. refl
    ] refl

told_none : (o : Option Reason) (stop : Stop) → TellsReason None stop → TellsReason o stop
told_none o (Refused why) h = cc
told_none o Memory h = tt

-- what is said against edits, where memory wasn't wanting
pub told_by : (o : Option EditsRefused) (why : EditsRefused) (stop : Stop) → (why ≡ edits.Memory) ⊎ (o ≡ Some why) → TellsReason (edits_reason (Some why)) stop → TellsReason (edits_reason o) stop
told_by o why stop (inl memory) h = told_none (edits_reason o) stop (subst (λ w. TellsReason (edits_reason (Some w)) stop) memory h)
told_by o why stop (inr is) h = subst (λ x. TellsReason (edits_reason x) stop) (sym is) h

pub version_same : (want : ℤ) (have : ℕ) → want ≡ pos have → version_refusal (Some want) have ≡ None
version_same want have e = ap (λ b. if b then None else Some (reason.Version have want)) ((signed_Decides want (pos have)).1 e)

pub version_other : (want : ℤ) (have : ℕ) → (want ≡ pos have → ⊥) → version_refusal (Some want) have ≡ Some (reason.Version have want)
version_other want have ne =
    elim (int_eq want (pos have)) as (λ b. int_eq want (pos have) ≡ b → (if b then None else Some (reason.Version have want)) ≡ Some (reason.Version have want)) [
      | true ↦ λ e. absurd (ne ((signed_Decides want (pos have)).0 e))
      | false ↦ λ e. refl
    ] refl

-- ---- the operation

pub text_folder : (setting : SettingState) (files : Entries) (p : Path) (version : Option ℤ) (es : List TextEdit) → is_folder files p ≡ true → text_next setting files p version es ≡ Err (reason.Op IsFolder)
text_folder setting files p version es folder = ap (λ b. if b then Err (reason.Op IsFolder) else text_over setting files p version es (content files p)) folder

pub text_at : (setting : SettingState) (files : Entries) (p : Path) (version : Option ℤ) (es : List TextEdit) (o : Option (List ℕ)) → is_folder files p ≡ false → content files p ≡ o → text_next setting files p version es ≡ text_over setting files p version es o
text_at setting files p version es o folder is =
    ap (λ b. if b then Err (reason.Op IsFolder) else text_over setting files p version es (content files p)) folder
    ∙ ap (text_over setting files p version es) is

pub text_refused : (setting : SettingState) (files : Entries) (p : Path) (version : Option ℤ) (es : List TextEdit) (bytes : List ℕ) (stop : Stop) → is_folder files p ≡ false → content files p ≡ Some bytes → TellsReason (text_refusal setting p version es bytes) stop → IsStopOf (text_next setting files p version es) stop
text_refused setting files p version es bytes (Refused why) folder is h =
    text_at setting files p version es (Some bytes) folder is
    ∙ ap (λ o. unless o (changed_to setting files (put_file files p (edited bytes setting.encoding es)))) h
text_refused setting files p version es bytes Memory folder is h = tt

told_first : (a b : Option Reason) (stop : Stop) → TellsReason a stop → TellsReason (option_or a b) stop
told_first a b (Refused why) h = ap (λ o. option_or o b) h
told_first a b Memory h = tt

told_second : (a b : Option Reason) (stop : Stop) → a ≡ None → TellsReason b stop → TellsReason (option_or a b) stop
told_second a b stop e h = subst (λ o. TellsReason (option_or o b) stop) (sym e) h

-- the text's version is another
pub text_version : (setting : SettingState) (files : Entries) (p : Path) (version : Option ℤ) (es : List TextEdit) (bytes : List ℕ) (have : ℕ) (stop : Stop) → is_folder files p ≡ false → content files p ≡ Some bytes → have ≡ version_of setting.versions p
    → TellsReason (version_refusal version have) stop → IsStopOf (text_next setting files p version es) stop
text_version setting files p version es bytes have stop folder is h told =
    text_refused setting files p version es bytes stop folder is
    (told_first (version_refusal version (version_of setting.versions p)) (option_or (not_text bytes) (edits_reason (refusal bytes setting.encoding es))) stop (subst (λ n. TellsReason (version_refusal version n) stop) h told))

-- the bytes are no text, or the edits can't be made
pub text_edits : (setting : SettingState) (files : Entries) (p : Path) (version : Option ℤ) (es : List TextEdit) (bytes : List ℕ) (have : ℕ) (stop : Stop) → is_folder files p ≡ false → content files p ≡ Some bytes → have ≡ version_of setting.versions p
    → version_refusal version have ≡ None → TellsReason (option_or (not_text bytes) (edits_reason (refusal bytes setting.encoding es))) stop → IsStopOf (text_next setting files p version es) stop
text_edits setting files p version es bytes have stop folder is h none told =
    text_refused setting files p version es bytes stop folder is
    (told_second (version_refusal version (version_of setting.versions p)) (option_or (not_text bytes) (edits_reason (refusal bytes setting.encoding es))) stop (ap (version_refusal version) (sym h) ∙ none) told)

-- nothing is said against the edits
pub text_draft : (setting : SettingState) (files : Entries) (p : Path) (version : Option ℤ) (es : List TextEdit) (bytes after : List ℕ) (have : ℕ) (cs : List Change) → IsTree files → is_folder files p ≡ false → content files p ≡ Some bytes → have ≡ version_of setting.versions p
    → version_refusal version have ≡ None → option_or (not_text bytes) (edits_reason (refusal bytes setting.encoding es)) ≡ None → after ≡ edited bytes setting.encoding es → cs ≡ change_of p bytes after
    → IsDraftOf setting files (text_next setting files p version es) cs
text_draft setting files p version es bytes after have cs tree folder is h none clear e changes =
    let new = edited bytes setting.encoding es in
    record {
      new = put_file files p new;
      leads = subst (λ l. LeadTo files l (put_file files p new)) (sym (changes ∙ ap (change_of p bytes) e)) (change_leads files p bytes new tree is);
      next_is =
          text_at setting files p version es (Some bytes) folder is
          ∙ ap (λ o. unless o (changed_to setting files (put_file files p new))) ((λ i. option_or ((ap (version_refusal version) (sym h) ∙ none) i) (clear i)));
    }

-- ---- bytes and their text

pub text_told : (text bytes : List ℕ) (enc : Encoding) (es : List TextEdit) (stop : Stop) → text ≡ bytes → IsUtf8 bytes → TellsReason (edits_reason (refusal text enc es)) stop → TellsReason (option_or (not_text bytes) (edits_reason (refusal bytes enc es))) stop
text_told text bytes enc es stop e utf8 h =
    told_second (not_text bytes) (edits_reason (refusal bytes enc es)) stop (utf8_none bytes utf8) (subst (λ b. TellsReason (edits_reason (refusal b enc es)) stop) e h)

pub text_clear : (text bytes : List ℕ) (enc : Encoding) (es : List TextEdit) → text ≡ bytes → IsUtf8 bytes → edits_reason (refusal text enc es) ≡ None → option_or (not_text bytes) (edits_reason (refusal bytes enc es)) ≡ None
text_clear text bytes enc es e utf8 h =
    ap (λ o. option_or o (edits_reason (refusal bytes enc es))) (utf8_none bytes utf8) ∙ ap (λ b. edits_reason (refusal b enc es)) (sym e) ∙ h

pub no_text : (bytes : List ℕ) (enc : Encoding) (es : List TextEdit) (at : ℕ) → ¬ (IsUtf8 bytes) → at ≡ utf8_valid_len bytes → option_or (not_text bytes) (edits_reason (refusal bytes enc es)) ≡ Some (reason.NotText at)
no_text bytes enc es at h e =
    ap (λ o. option_or o (edits_reason (refusal bytes enc es))) (utf8_some bytes h) ∙ ap (λ n. Some (reason.NotText n)) (sym e)

-- ---- the version, and then the text

-- nothing is said against either
pub clear_after : (setting : SettingState) (p : Path) (version : Option ℤ) (es : List TextEdit) (bytes : List ℕ) (have : ℕ) (enc : Encoding) → have ≡ version_of setting.versions p → enc ≡ setting.encoding → version_refusal version have ≡ None
    → option_or (not_text bytes) (edits_reason (refusal bytes enc es)) ≡ None → text_refusal setting p version es bytes ≡ None
clear_after setting p version es bytes have enc h e none clear =
    let text = ap (λ (x : Encoding). option_or (not_text bytes) (edits_reason (refusal bytes x es))) (sym e) ∙ clear in
    λ i. option_or ((ap (version_refusal version) (sym h) ∙ none) i) (text i)

-- something is said against the text
pub told_after : (setting : SettingState) (p : Path) (version : Option ℤ) (es : List TextEdit) (bytes : List ℕ) (have : ℕ) (enc : Encoding) (stop : Stop) → have ≡ version_of setting.versions p → enc ≡ setting.encoding → version_refusal version have ≡ None
    → TellsReason (option_or (not_text bytes) (edits_reason (refusal bytes enc es))) stop → TellsReason (text_refusal setting p version es bytes) stop
told_after setting p version es bytes have enc stop h e none told =
    told_second (version_refusal version (version_of setting.versions p)) (option_or (not_text bytes) (edits_reason (refusal bytes setting.encoding es))) stop (ap (version_refusal version) (sym h) ∙ none)
    (subst (λ (x : Encoding). TellsReason (option_or (not_text bytes) (edits_reason (refusal bytes x es))) stop) e told)
