-- The effects of one record tried one by one. This project's own rule.
use Rattle.std.specs.Prelude.{ℕ, ◌+◌, Bool, true, false, not, ◌&&◌, ◌||◌, List, [], ◌∷◌, ◌++◌}
use Rattle.wse_path.specs.Path.{Path}
use Rattle.wse_element.specs.declared.effect.Effect.{Effect}
use Rattle.wse_element.specs.Content.{Content}
use Rattle.wse_element.specs.State.{StacksState, Kept, stacks_of}
use Rattle.wse_element.specs.Numbers.{is_bounded, are_versions_bounded, is_known_bounded}
use Rattle.wse_element.specs.Effects.{after, contents_set, versions_after}
use Rattle.wse_element.specs.Applicable.{sets_tree, is_applicable, keeps_versions}

-- What the effects so far leave, where the serial number counts the record; whether one of them sets paths of the tree; and
-- what they set.
pub record DraftState : Type 0 where
  pub kept : Kept
  pub setting : Bool
  pub sets : List (Path × Content)

abbrev pub draft_of : StacksState → (versions : List (Path × ℕ)) → Bool → List (Path × Content) → DraftState
draft_of h versions setting sets = record {
  kept = record { versions = versions; records = h.records; next_id = h.next_id; serial = h.serial };
  setting = setting;
  sets = sets;
}

abbrev pub next_draft : DraftState → Effect → DraftState
next_draft d effect =
    draft_of (after (stacks_of d.kept) effect) (versions_after d.kept.versions effect) (d.setting || sets_tree effect)
    (d.sets ++ contents_set d.kept.records effect)

abbrev pub next_drafts : DraftState → List Effect → DraftState
next_drafts d [] = d
next_drafts d (effect ∷ more) = next_drafts (next_draft d effect) more

-- The effect is applicable behind those so far, and keeps the versions within their bounds.
abbrev pub is_next : DraftState → Effect → Bool
is_next d effect =
    not (sets_tree effect && d.setting) && (is_applicable (stacks_of d.kept) effect && keeps_versions d.kept.serial d.kept.versions effect)

abbrev pub all_next : DraftState → List Effect → Bool
all_next d [] = true
all_next d (effect ∷ more) = is_next d effect && all_next (next_draft d effect) more

-- Nothing of the record is done yet, but it is counted.
abbrev pub begun_draft : Kept → DraftState
begun_draft kept = record { kept = record kept { serial = kept.serial + 1 }; setting = false; sets = [] }

-- The numbers are within their bounds.
abbrev pub is_draft_bounded : Kept → Bool
is_draft_bounded kept =
    is_bounded (stacks_of kept) && (are_versions_bounded kept.serial kept.versions && is_known_bounded kept.versions)
