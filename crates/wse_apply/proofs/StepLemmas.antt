-- One item more, in loops over the changes, the operations and their edits.
use Rattle.std.proofs.Common.{◌≡◌, ℕ, suc, ◌+◌, ◌<◌, ◌≤◌, Bool, true, false, cond, ◌||◌, List, [], ◌∷◌, ◌++◌, map, length, get_or, take, drop, None, refl, sym, ap, ◌∙◌, append_assoc, add-one}
use Rattle.std.proofs.Math.Seq.{drop-cons}
use Rattle.std.proofs.lemmas.List.{take_more, drop_all, append-nil}
use Rattle.std.specs.List.{filter}
use Rattle.std.specs.Option.{option_or}
use Rattle.wse_path.specs.Path.{Path}
use Rattle.wse_path.specs.Tree.{Entries}
use Rattle.wse_path.specs.Changes.{erased, erased_at}
use Rattle.wse_path.specs.declared.change.Change.{Change}
use Rattle.wse_path.specs.declared.edit.Operation.{Operation}
use Rattle.wse_path.specs.declared.position.TextEdit.{TextEdit}
use Rattle.wse_path.proofs.ChangeLemmas.{erased_more}
use Rattle.wse_locks.specs.Locks.{Holders, is_held}
use Rattle.wse_apply.specs.Stop.{held_among}
use Rattle.wse_apply.specs.Sizes.{first_after_above, bytes_above}
use Rattle.wse_apply.specs.Skips.{skips_edit, skipped_edits, skips_at, skips_from}

pub drop_next : {X : Type 0} (xs : List X) (i : ℕ) (d : X) → i < length xs → d ≡ get_or xs i d → drop i xs ≡ d ∷ drop (i + 1) xs
drop_next xs i d l e = drop-cons xs i d l ∙ ap (λ x. x ∷ drop (suc i) xs) (sym e) ∙ ap (λ n. d ∷ drop n xs) (sym (add-one i))

pub take_next : {X : Type 0} (xs : List X) (i : ℕ) (d : X) → i < length xs → d ≡ get_or xs i d → take (i + 1) xs ≡ take i xs ++ d ∷ []
take_next xs i d l e = take_more xs i d l ∙ ap (λ x. take i xs ++ x ∷ []) (sym e)

-- what is gathered so far, with what is left
pub gathered_more : {X : Type 0} (so_far more new rest left all : List X) → new ≡ so_far ++ more → left ≡ more ++ rest → so_far ++ left ≡ all → new ++ rest ≡ all
gathered_more so_far more new rest left all a b c = ap (λ l. l ++ rest) a ∙ append_assoc so_far more rest ∙ ap (λ l. so_far ++ l) (sym b) ∙ c

-- nothing is left
pub gathered_all : {X : Type 0} (so_far left all : List X) → left ≡ [] → so_far ++ left ≡ all → so_far ≡ all
gathered_all so_far left all a b = sym (append-nil so_far) ∙ ap (λ l. so_far ++ l) (sym a) ∙ b

held_one : (f : Path → Bool) (p : Path) (rest : List Path) → filter f (p ∷ rest) ≡ cond (f p) (p ∷ []) [] ++ filter f rest
held_one f p rest = elim (f p) as (λ b. cond b (p ∷ filter f rest) (filter f rest) ≡ cond b (p ∷ []) [] ++ filter f rest) [ true ↦ refl | false ↦ refl ]

pub held_next : (locks : Holders) (by : ℕ) (cs : List Change) (i : ℕ) (d : Change) → i < length cs → d ≡ get_or cs i d
    → held_among locks by (drop i cs) ≡ cond (is_held locks by d.path) (d.path ∷ []) [] ++ held_among locks by (drop (i + 1) cs)
held_next locks by cs i d l e =
    ap (held_among locks by) (drop_next cs i d l e) ∙ held_one (is_held locks by) d.path (map (λ c. c.path) (drop (i + 1) cs))

pub held_end : (locks : Holders) (by : ℕ) (cs : List Change) (i : ℕ) → length cs ≤ i → held_among locks by (drop i cs) ≡ []
held_end locks by cs i l = ap (held_among locks by) (drop_all i cs l)

pub first_next : (limit : ℕ) (cs : List Change) (i : ℕ) (d : Change) → i < length cs → d ≡ get_or cs i d
    → first_after_above limit (drop i cs) ≡ option_or (bytes_above limit d.after) (first_after_above limit (drop (i + 1) cs))
first_next limit cs i d l e = ap (first_after_above limit) (drop_next cs i d l e)

pub first_end : (limit : ℕ) (cs : List Change) (i : ℕ) → length cs ≤ i → first_after_above limit (drop i cs) ≡ None
first_end limit cs i l = ap (first_after_above limit) (drop_all i cs l)

pub erased_next : (cs : List Change) (i : ℕ) (d : Change) (files : Entries) → i < length cs → d ≡ get_or cs i d → erased (take (i + 1) cs) files ≡ erased_at d.path d.after (erased (take i cs) files)
erased_next cs i d files l e = ap (λ l. erased l files) (take_next cs i d l e) ∙ erased_more (take i cs) d files

pub edits_next : (operation : ℕ) (es : List TextEdit) (i : ℕ) (d : TextEdit) → i < length es → d ≡ get_or es i d
    → skipped_edits operation i (drop i es) ≡ skips_edit operation i d ++ skipped_edits operation (i + 1) (drop (i + 1) es)
edits_next operation es i d l e =
    ap (skipped_edits operation i) (drop_next es i d l e)
    ∙ ap (λ n. skips_edit operation i d ++ skipped_edits operation n (drop (i + 1) es)) (sym (add-one i))

pub edits_end : (operation : ℕ) (es : List TextEdit) (i : ℕ) → length es ≤ i → skipped_edits operation i (drop i es) ≡ []
edits_end operation es i l = ap (skipped_edits operation i) (drop_all i es l)

pub skips_next : (os : List Operation) (i : ℕ) (d : Operation) → i < length os → d ≡ get_or os i d → skips_from i (drop i os) ≡ skips_at i d ++ skips_from (i + 1) (drop (i + 1) os)
skips_next os i d l e =
    ap (skips_from i) (drop_next os i d l e) ∙ ap (λ n. skips_at i d ++ skips_from n (drop (i + 1) os)) (sym (add-one i))

pub skips_end : (os : List Operation) (i : ℕ) → length os ≤ i → skips_from i (drop i os) ≡ []
skips_end os i l = ap (skips_from i) (drop_all i os l)
