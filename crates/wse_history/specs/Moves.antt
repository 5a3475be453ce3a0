-- What an undo or a redo does to the history, and its answer. This project's own rule.
use Rattle.std.specs.Prelude.{ℕ, List, [], ◌∷◌, ◌++◌, map, filter, Option, Some, None, if◌then◌else◌}
use Rattle.std.specs.List.{list_any}
use Rattle.std.specs.Option.{option_map_or}
use Rattle.wse_path.specs.Path.{Path}
use Rattle.wse_path.specs.declared.command.Choice.{Choice}
use Rattle.wse_path.specs.declared.command.Direction.{Direction}
use Rattle.wse_path.specs.declared.command.Direction.TheVariants.{Back, Forward}
use Rattle.wse_path.specs.declared.limits.Limits.{Limits}
use Rattle.wse_element.specs.declared.state.PartState.TheVariants.{Closed}
use Rattle.wse_element.specs.declared.effect.Effect.{Effect}
use Rattle.wse_element.specs.declared.effect.Effect.TheVariants.{MoveBack, MoveForward, Split, Drop}
use Rattle.wse_element.specs.Record.{Record}
use Rattle.wse_element.specs.Live.{is_live_at}
use Rattle.wse_element.specs.Stacks.{record_of}
use Rattle.wse_element.specs.Split.{split}
use Rattle.wse_element.specs.State.{State}
use Rattle.wse_element.specs.Effects.{contents_set}
use Rattle.wse_rules.specs.Ruling.{closest, one_ruling, all_paths, ruling}
use Rattle.wse_rules.specs.declared.ruling.Ruling.{Ruling}
use Rattle.wse_rules.specs.declared.ruling.Ruling.TheVariants as rulings
use Rattle.wse_history.specs.declared.answer.SplitNote.{SplitNote}
use Rattle.wse_history.specs.declared.answer.MoveEnd.{MoveEnd}
use Rattle.wse_history.specs.declared.answer.MoveEnd.TheVariants as ends
use Rattle.wse_history.specs.declared.answer.Answer.TheVariants.{Move}
use Rattle.wse_element.specs.Way.{in_the_way}
use Rattle.wse_history.specs.Outcome.{Outcome, stays, is_some_of, numbered, bump_each}
use Rattle.wse_history.specs.Limits.{within_limits}

-- An undo or a redo as it goes on: the records and the effects so far, which are those of a split if one came, and its note;
-- and the id of the record that was closest before.
pub record Course : Type 0 where
  pub direction : Direction
  pub records : List Record
  pub effects : List Effect
  pub note : Option SplitNote
  pub asked : ℕ

abbrev pub move_effect : Direction → ℕ → Effect
move_effect Back id = MoveBack id
move_effect Forward id = MoveForward id

-- The course's effects and these are recorded, unless that would pass a limit.
abbrev pub ended : Limits → State → Course → List Effect → (State → MoveEnd) → Outcome
ended limits s course effects end =
    within_limits limits s (course.effects ++ effects) (λ hit. Move None (ends.Limit course.asked hit)) (λ next. Move course.note (end next))

-- The record is moved at all its paths, unless files are in the way.
abbrev pub gone : Limits → State → Course → ℕ → Outcome
gone limits s course id =
    let paths = option_map_or all_paths (record_of course.records id) [] in
    let blocking = in_the_way s.files (contents_set course.records (move_effect course.direction id)) in
    if is_some_of blocking then stays (Move None (ends.InTheWay course.asked blocking))
    else ended limits s course (move_effect course.direction id ∷ bump_each paths) (λ next. ends.Done id (numbered next paths))

-- All live parts at each of the paths are closed.
abbrev pub close_each : List Record → List Path → List Effect
close_each records paths = map (λ p. Drop p Closed) (filter (λ p. list_any (is_live_at p) records) paths)

-- What a ruling leads to. After a split no second one comes.
abbrev pub ruled : Limits → State → Course → Ruling → Outcome
ruled limits s course rulings.Nothing = stays (Move None ends.Nothing)
ruled limits s course (rulings.Cancelled id) = stays (Move None (ends.Cancelled id))
ruled limits s course (rulings.Go id) = gone limits s course id
ruled limits s course (rulings.Split id cause files) = stays (Move None ends.Nothing)
ruled limits s course (rulings.Flush cause files dropped) =
    ended limits s course (close_each course.records dropped) (λ next. ends.Flushed cause files dropped)
ruled limits s course (rulings.Locked files) =
    if is_some_of course.effects then ended limits s course [] (λ next. ends.Locked files) else stays (Move None (ends.Locked files))

abbrev pub begun_course : State → Direction → Path → Course
begun_course s direction p =
    record { direction = direction; records = s.records; effects = []; note = None; asked = option_map_or (λ r. r.id) (closest direction s.records p) 0 }

-- After a split the new record at the path is ruled on by itself.
abbrev pub split_outcome : Limits → State → (by : ℕ) → Path → Course → SplitNote → Outcome
split_outcome limits s by p course note =
    let left = split s.records note.id s.next_id in
    ruled limits s (record course { records = left; effects = Split note.id s.next_id ∷ []; note = Some note })
    (option_map_or (one_ruling s.locks by p) (closest course.direction left p) rulings.Nothing)

abbrev pub first_ruled : Limits → State → (by : ℕ) → Path → Course → Ruling → Outcome
first_ruled limits s by p course (rulings.Split id cause files) = split_outcome limits s by p course (record { id = id; cause = cause; files = files })
first_ruled limits s by p course ruling = ruled limits s course ruling

abbrev pub move_outcome : Limits → State → (by : ℕ) → Direction → Path → Choice → Outcome
move_outcome limits s by direction p choice =
    first_ruled limits s by p (begun_course s direction p) (ruling direction s.records s.locks by p choice)
