-- One effect after another leaves what the definition of a command's effects says.
use Rattle.std.proofs.Common.{◌≡◌, ℕ, ◌+◌, ◌<◌, ◌≤◌, List, [], ◌∷◌, length, drop, get_or, refl, sym, ap, ◌∙◌}
use Rattle.std.proofs.lemmas.List.{drop_more, drop_all}
use Rattle.wse_path.specs.Tree.{Entries, set_files}
use Rattle.wse_element.specs.declared.effect.Effect.{Effect}
use Rattle.wse_element.specs.State.{StacksState, State, stacks_of, kept_of}
use Rattle.wse_element.specs.Effects.{contents_set, after, after_each, files_after_each, versions_after_each, state_after}
use Rattle.wse_slow_history.specs.After.{after_effect, after_effects}

-- one more effect, with those that are left
pub after_more : (s last next : State) (es : List Effect) (i : ℕ) (e : Effect) → i < length es → e ≡ get_or es i e → next ≡ after_effect last e
    → after_effects last (drop i es) ≡ after_effects s es → after_effects next (drop (i + 1) es) ≡ after_effects s es
after_more s last next es i e lt is one so_far =
    ap (λ (x : State). after_effects x (drop (i + 1) es)) one
    ∙ ap (λ (x : Effect). after_effects last (x ∷ drop (i + 1) es)) is
    ∙ ap (λ (rest : List Effect). after_effects last rest) (sym (drop_more es i e lt))
    ∙ so_far

pub after_last : (s last : State) (es : List Effect) (i : ℕ) → length es ≤ i → after_effects last (drop i es) ≡ after_effects s es → last ≡ after_effects s es
after_last s last es i le so_far = ap (λ (rest : List Effect). after_effects last rest) (sym (drop_all i es le)) ∙ so_far

abbrev whole : State → List Effect → State
whole s es = record {
  files = files_after_each (stacks_of (kept_of s)) es s.files;
  versions = versions_after_each s.versions es;
  records = (after_each (stacks_of (kept_of s)) es).records;
  next_id = (after_each (stacks_of (kept_of s)) es).next_id;
  serial = (after_each (stacks_of (kept_of s)) es).serial;
  locks = s.locks;
}

whole_is : (s : State) (es : List Effect) → after_effects s es ≡ whole s es
whole_is s [] = refl
whole_is s (e ∷ es) = whole_is (after_effect s e) es

-- the serial number says nothing of files
files_alike : (n : ℕ) (h : StacksState) (es : List Effect) (files : Entries) → files_after_each (record h { serial = n }) es files ≡ files_after_each h es files
files_alike n h [] files = refl
files_alike n h (e ∷ es) files = files_alike n (after h e) es (set_files (contents_set h.records e) files)

pub state_is : (s : State) (es : List Effect) → after_effects (record s { serial = s.serial + 1 }) es ≡ state_after s es
state_is s es =
    whole_is (record s { serial = s.serial + 1 }) es
    ∙ ap (λ (files : Entries). record (state_after s es) { files = files }) (files_alike (s.serial + 1) (stacks_of (kept_of s)) es s.files)
