-- An undo or a redo at parts, which are those of a record or the one of its piece. This project's own rule.
use Rattle.std.specs.Prelude.{◌≡◌, ◌≢◌, ℕ, ◌^◌, ◌≤◌, true, List, [], ◌∷◌, ◌++◌, map, flat_map, length, Option, Some, None, if◌then◌else◌}
use Rattle.std.specs.FinMap.{is_sorted}
use Rattle.wse_path.specs.Path.{Path}
use Rattle.wse_path.specs.Order.{path_cmp}
use Rattle.wse_path.specs.Tree.{set_files, IsTree}
use Rattle.wse_path.specs.declared.command.Direction.{Direction}
use Rattle.wse_path.specs.declared.command.Direction.TheVariants.{Back, Forward}
use Rattle.wse_path.specs.declared.limits.Limits.{Limits}
use Rattle.wse_element.specs.declared.state.PartState.TheVariants.{Closed}
use Rattle.wse_element.specs.declared.effect.Effect.{Effect}
use Rattle.wse_element.specs.declared.effect.Effect.TheVariants.{Split, Drop}
use Rattle.wse_element.specs.Content.{Content, old_content, new_content}
use Rattle.wse_element.specs.Record.{RecordPart, by_path}
use Rattle.wse_element.specs.State.{State}
use Rattle.wse_element.specs.Effects.{state_after}
use Rattle.wse_codec.specs.Spelling.{effect_bytes}
use Rattle.wse_history.specs.declared.answer.SplitNote.{SplitNote}
use Rattle.wse_history.specs.declared.answer.MoveEnd.{MoveEnd}
use Rattle.wse_history.specs.declared.answer.MoveEnd.TheVariants as ends
use Rattle.wse_history.specs.declared.answer.Answer.TheVariants.{Move}
use Rattle.wse_history.specs.declared.asked.Asked.{Asked}
use Rattle.wse_history.specs.Laws.{MayApply}
use Rattle.wse_history.specs.Limits.{hit_of, within_limits}
use Rattle.wse_history.specs.Moves.{move_effect}
use Rattle.wse_history.specs.Outcome.{Outcome, stays, is_some_of, numbered, bump_each}
use Rattle.wse_element.specs.Way.{in_the_way}

-- What the part's path gets.
abbrev pub content_to : Direction → RecordPart → Content
content_to Back part = old_content part.body
content_to Forward part = new_content part.body

abbrev pub contents_to : Direction → List RecordPart → List (Path × Content)
contents_to direction parts = map (λ part. (part.path, content_to direction part)) parts

abbrev pub paths_of : List RecordPart → List Path
paths_of parts = map (λ part. part.path) parts

abbrev pub split_before : Option SplitNote → ℕ → List Effect
split_before None next_id = []
split_before (Some note) next_id = Split note.id next_id ∷ []

-- The split, if one came, then the record is moved, and the versions of its paths rise.
abbrev pub moved_effects : State → Asked → ℕ → List RecordPart → List Effect
moved_effects s asked id parts = split_before asked.split s.next_id ++ (move_effect asked.direction id ∷ bump_each (paths_of parts))

-- The parts are moved, unless files are in the way.
abbrev pub moved_outcome : Limits → State → Asked → ℕ → List RecordPart → Outcome
moved_outcome limits s asked id parts =
    let blocking = in_the_way s.files (contents_to asked.direction parts) in
    if is_some_of blocking then stays (Move None (ends.InTheWay asked.id blocking))
    else within_limits limits s (moved_effects s asked id parts) (λ hit. Move None (ends.Limit asked.id hit)) (λ next. Move asked.split (ends.Done id (numbered next (paths_of parts))))

-- The parts rise. Where nothing is in the way they leave a tree, and where no limit is passed they may be moved.
pub record MayMove (limits : Limits) (s : State) (asked : Asked) (id : ℕ) (parts : List RecordPart) : Type 0 where
  pub rise : is_sorted path_cmp (by_path parts) ≡ true
  pub files : (state_after s (moved_effects s asked id parts)).files ≡ set_files (contents_to asked.direction parts) s.files
  pub tree : in_the_way s.files (contents_to asked.direction parts) ≡ [] → IsTree (set_files (contents_to asked.direction parts) s.files)
  pub may : in_the_way s.files (contents_to asked.direction parts) ≡ [] → hit_of limits (moved_effects s asked id parts) (state_after s (moved_effects s asked id parts)) ≡ None
      → MayApply limits s (moved_effects s asked id parts)

abbrev pub closings : List Path → List Effect
closings paths = map (λ p. Drop p Closed) paths

-- The split, if one came, then all live parts at the paths are closed.
abbrev pub closed_effects : State → Asked → List Path → List Effect
closed_effects s asked paths = split_before asked.split s.next_id ++ closings paths

abbrev pub closed_outcome : Limits → State → Asked → List Path → MoveEnd → Outcome
closed_outcome limits s asked paths end =
    within_limits limits s (closed_effects s asked paths) (λ hit. Move None (ends.Limit asked.id hit)) (λ next. Move asked.split end)

-- The closings are short enough to be written, and where no limit is passed they may come.
pub record MayClose (limits : Limits) (s : State) (asked : Asked) (paths : List Path) : Type 0 where
  pub short : length (flat_map effect_bytes (closings paths)) ≤ 2 ^ 30
  pub may : closed_effects s asked paths ≢ [] → hit_of limits (closed_effects s asked paths) (state_after s (closed_effects s asked paths)) ≡ None
      → MayApply limits s (closed_effects s asked paths)
