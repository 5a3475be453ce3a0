-- What an undo or a redo records may come, and leaves a state that the type of histories keeps.
use Rattle.std.proofs.Common.{◌≡◌, ◌≢◌, ℕ, ◌<◌, true, false, cond, List, [], ◌∷◌, Option, Some, None, refl, subst}
use Rattle.std.specs.Prelude.{filter}
use Rattle.std.specs.List.{list_any}
use Rattle.std.specs.Option.{option_map_or}
use Rattle.wse_path.specs.Path.{Path}
use Rattle.wse_path.specs.declared.command.Choice.{Choice}
use Rattle.wse_path.specs.declared.command.Direction.{Direction}
use Rattle.wse_path.specs.declared.command.Direction.TheVariants.{Back, Forward}
use Rattle.wse_path.specs.declared.limits.Limits.{Limits}
use Rattle.wse_element.specs.declared.effect.Effect.{Effect}
use Rattle.wse_element.specs.declared.effect.Effect.TheVariants.{Split}
use Rattle.wse_element.specs.Record.{Record}
use Rattle.wse_element.specs.Live.{is_live_at}
use Rattle.wse_element.specs.State.{State}
use Rattle.wse_element.specs.Effects.{contents_set}
use Rattle.wse_element.specs.Applicable.{may_come}
use Rattle.wse_rules.specs.Ruling.{closest, one_ruling, ruling}
use Rattle.wse_rules.specs.declared.ruling.Cause.{Cause}
use Rattle.wse_rules.specs.declared.ruling.Ruling.{Ruling}
use Rattle.wse_rules.specs.declared.ruling.Ruling.TheVariants as rulings
use Rattle.wse_history.specs.declared.answer.SplitNote.{SplitNote}
use Rattle.wse_history.specs.declared.answer.MoveEnd.{MoveEnd}
use Rattle.wse_history.specs.declared.answer.MoveEnd.TheVariants as ends
use Rattle.wse_history.specs.declared.answer.Answer.TheVariants.{Move}
use Rattle.wse_history.proofs.GoLemmas.{goes_may, splits_may}
use Rattle.wse_history.proofs.AloneLemmas.{pieces_go, linked_split_state}
use Rattle.wse_history.proofs.FlushLemmas.{flushes_may, closes_may, one_flush}
use Rattle.wse_history.proofs.ShapeLemmas.{now, positive_of, linked_now, may_apply, serial_within, limited, drops_come, split_drops_come, paths_of, nothing_in, move_comes, split_now, split_move_comes}
use Rattle.wse_history.specs.Outcome.{stays, is_some_of, numbered, bump_each}
use Rattle.wse_element.specs.Way.{in_the_way}
use Rattle.wse_history.specs.History.{IsHistory}
use Rattle.wse_history.specs.Laws.{MayApply}
use Rattle.wse_history.specs.Moves.{Course, move_effect, ended, gone, close_each, ruled, begun_course, first_ruled, move_outcome}
use Rattle.wse_history.proofs.Words.{AreLinked, are_distinct}

-- What is shown of each outcome.
abbrev Shown : Limits → State → List Effect → Type 0
Shown limits s effects = effects ≢ [] → MayApply limits s effects

shown_none : (limits : Limits) (s : State) → Shown limits s []
shown_none limits s some = absurd (some refl)

-- ---- without a split

pub goes_here : (direction : Direction) (s : State) (by : ℕ) (p : Path) (choice : Choice) (id : ℕ) → AreLinked (now s) → ruling direction s.records s.locks by p choice ≡ rulings.Go id → may_come (now s) (move_effect direction id) ≡ true
goes_here Back s by p choice id all go = goes_may Back (now s) s.locks by p choice id all go
goes_here Forward s by p choice id all go = goes_may Forward (now s) s.locks by p choice id all go

go_shown : (limits : Limits) (s : State) (by : ℕ) (direction : Direction) (p : Path) (choice : Choice) (id : ℕ) → IsHistory s limits → ruling direction s.records s.locks by p choice ≡ rulings.Go id → Shown limits s (gone limits s (begun_course s direction p) id).effects
go_shown limits s by direction p choice id set go =
    let course = begun_course s direction p in
    let blocking = in_the_way s.files (contents_set s.records (move_effect direction id)) in
    let paths = paths_of s.records id in
    let effects = move_effect direction id ∷ bump_each paths in
    elim (is_some_of blocking) as (λ b. is_some_of blocking ≡ b → Shown limits s (cond b (stays (Move None (ends.InTheWay course.asked blocking))) (ended limits s course effects (λ next. ends.Done id (numbered next paths)))).effects) [
      | true ↦ λ _. shown_none limits s
      | false ↦ λ e. limited limits s effects (λ hit. Move None (ends.Limit course.asked hit)) (λ next. Move None (ends.Done id (numbered next paths))) (Shown limits s) (shown_none limits s)
          (λ none some. may_apply limits s effects set some (move_comes limits s direction id set (goes_here direction s by p choice id (linked_now limits s set) go) (nothing_in blocking e) none))
    ] refl

flush_shown : (limits : Limits) (s : State) (by : ℕ) (direction : Direction) (p : Path) (choice : Choice) (cause : Cause) (files dropped : List Path) → IsHistory s limits → ruling direction s.records s.locks by p choice ≡ rulings.Flush cause files dropped
    → Shown limits s (ended limits s (begun_course s direction p) (close_each s.records dropped) (λ next. ends.Flushed cause files dropped)).effects
flush_shown limits s by direction p choice cause files dropped set go =
    let effects = close_each s.records dropped in
    limited limits s effects (λ hit. Move None (ends.Limit (begun_course s direction p).asked hit)) (λ next. Move None (ends.Flushed cause files dropped)) (Shown limits s) (shown_none limits s)
    (λ none some. may_apply limits s effects set some (drops_come limits s (filter (λ q. list_any (is_live_at q) s.records) dropped) set (serial_within limits s effects set none)
    (flushes_may direction (now s) s.locks by p choice cause files dropped (linked_now limits s set) go)))

-- ---- after a split

abbrev split_course : State → Direction → Path → SplitNote → Course
split_course s direction p note =
    record { direction = direction; records = (split_now s note.id).records; effects = Split note.id s.next_id ∷ []; note = Some note; asked = (begun_course s direction p).asked }

pub piece_goes : (direction : Direction) (s : State) (by : ℕ) (p : Path) (choice : Choice) (id : ℕ) (cause : Cause) (files : List Path) (piece : Record) (moved : ℕ) → AreLinked (now s) → 0 < s.next_id → ruling direction s.records s.locks by p choice ≡ rulings.Split id cause files
    → closest direction (split_now s id).records p ≡ Some piece → one_ruling s.locks by p piece ≡ rulings.Go moved → may_come (split_now s id) (move_effect direction moved) ≡ true
piece_goes Back s by p choice id cause files piece moved all positive go is one = pieces_go Back (now s) s.locks by p choice id cause files piece moved all positive go is one
piece_goes Forward s by p choice id cause files piece moved all positive go is one = pieces_go Forward (now s) s.locks by p choice id cause files piece moved all positive go is one

-- What is known of a split that is ruled.
record Splits (limits : Limits) (s : State) (id : ℕ) : Type 0 where
  set : IsHistory s limits
  may : may_come (now s) (Split id s.next_id) ≡ true
  linked : AreLinked (split_now s id)

split_go_shown : (limits : Limits) (s : State) (direction : Direction) (p : Path) (note : SplitNote) (moved : ℕ) → Splits limits s note.id → may_come (split_now s note.id) (move_effect direction moved) ≡ true
    → Shown limits s (gone limits s (split_course s direction p note) moved).effects
split_go_shown limits s direction p note moved splits may =
    let course = split_course s direction p note in
    let h = split_now s note.id in
    let blocking = in_the_way s.files (contents_set h.records (move_effect direction moved)) in
    let paths = paths_of h.records moved in
    let rest = move_effect direction moved ∷ bump_each paths in
    let effects = Split note.id s.next_id ∷ rest in
    elim (is_some_of blocking) as (λ b. is_some_of blocking ≡ b → Shown limits s (cond b (stays (Move None (ends.InTheWay course.asked blocking))) (ended limits s course rest (λ next. ends.Done moved (numbered next paths)))).effects) [
      | true ↦ λ _. shown_none limits s
      | false ↦ λ e. limited limits s effects (λ hit. Move None (ends.Limit course.asked hit)) (λ next. Move (Some note) (ends.Done moved (numbered next paths))) (Shown limits s) (shown_none limits s)
          (λ none some. may_apply limits s effects splits.set some (split_move_comes limits s direction note.id moved splits.set splits.linked splits.may may (nothing_in blocking e) none))
    ] refl

split_flush_shown : (limits : Limits) (s : State) (direction : Direction) (p : Path) (note : SplitNote) (cause : Cause) (files dropped : List Path) → Splits limits s note.id → are_distinct dropped ≡ true
    → Shown limits s (ended limits s (split_course s direction p note) (close_each (split_now s note.id).records dropped) (λ next. ends.Flushed cause files dropped)).effects
split_flush_shown limits s direction p note cause files dropped splits distinct =
    let course = split_course s direction p note in
    let h = split_now s note.id in
    let effects = Split note.id s.next_id ∷ close_each h.records dropped in
    limited limits s effects (λ hit. Move None (ends.Limit course.asked hit)) (λ next. Move (Some note) (ends.Flushed cause files dropped)) (Shown limits s) (shown_none limits s)
    (λ none some. may_apply limits s effects splits.set some (split_drops_come limits s note.id (filter (λ q. list_any (is_live_at q) h.records) dropped) splits.set (serial_within limits s effects splits.set none) splits.may (closes_may h dropped distinct)))

split_alone_shown : (limits : Limits) (s : State) (direction : Direction) (p : Path) (note : SplitNote) (end : State → MoveEnd) → Splits limits s note.id → Shown limits s (ended limits s (split_course s direction p note) [] end).effects
split_alone_shown limits s direction p note end splits =
    let course = split_course s direction p note in
    let effects = Split note.id s.next_id ∷ [] in
    limited limits s effects (λ hit. Move None (ends.Limit course.asked hit)) (λ next. Move (Some note) (end next)) (Shown limits s) (shown_none limits s)
    (λ none some. may_apply limits s effects splits.set some (split_drops_come limits s note.id [] splits.set (serial_within limits s effects splits.set none) splits.may tt))

-- the ruling on the piece
second_shown : (limits : Limits) (s : State) (by : ℕ) (direction : Direction) (p : Path) (note : SplitNote) (piece : Record) (r : Ruling) → Splits limits s note.id
    → ((moved : ℕ) → one_ruling s.locks by p piece ≡ rulings.Go moved → may_come (split_now s note.id) (move_effect direction moved) ≡ true)
    → one_ruling s.locks by p piece ≡ r → Shown limits s (ruled limits s (split_course s direction p note) r).effects
second_shown limits s by direction p note piece rulings.Nothing splits goes is = shown_none limits s
second_shown limits s by direction p note piece (rulings.Cancelled id) splits goes is = shown_none limits s
second_shown limits s by direction p note piece (rulings.Go moved) splits goes is = split_go_shown limits s direction p note moved splits (goes moved is)
second_shown limits s by direction p note piece (rulings.Split id cause files) splits goes is = shown_none limits s
second_shown limits s by direction p note piece (rulings.Flush cause files dropped) splits goes is =
    split_flush_shown limits s direction p note cause files dropped splits (subst (λ ps. are_distinct ps ≡ true) (one_flush s.locks by p piece cause files dropped is) refl)
second_shown limits s by direction p note piece (rulings.Locked files) splits goes is =
    let course = split_course s direction p note in
    elim (is_some_of course.effects) as (λ b. Shown limits s (cond b (ended limits s course [] (λ next. ends.Locked files)) (stays (Move None (ends.Locked files)))).effects) [
      | true ↦ split_alone_shown limits s direction p note (λ next. ends.Locked files) splits
      | false ↦ shown_none limits s
    ]

split_shown : (limits : Limits) (s : State) (by : ℕ) (direction : Direction) (p : Path) (note : SplitNote) (o : Option Record) → Splits limits s note.id
    → ((piece : Record) (moved : ℕ) → closest direction (split_now s note.id).records p ≡ Some piece → one_ruling s.locks by p piece ≡ rulings.Go moved → may_come (split_now s note.id) (move_effect direction moved) ≡ true)
    → closest direction (split_now s note.id).records p ≡ o → Shown limits s (ruled limits s (split_course s direction p note) (option_map_or (one_ruling s.locks by p) o rulings.Nothing)).effects
split_shown limits s by direction p note None splits goes is = shown_none limits s
split_shown limits s by direction p note (Some piece) splits goes is = second_shown limits s by direction p note piece (one_ruling s.locks by p piece) splits (λ moved. goes piece moved is) refl

-- ---- the first ruling

first_shown : (limits : Limits) (s : State) (by : ℕ) (direction : Direction) (p : Path) (choice : Choice) (r : Ruling) → IsHistory s limits → ruling direction s.records s.locks by p choice ≡ r → Shown limits s (first_ruled limits s by p (begun_course s direction p) r).effects
first_shown limits s by direction p choice rulings.Nothing set is = shown_none limits s
first_shown limits s by direction p choice (rulings.Cancelled id) set is = shown_none limits s
first_shown limits s by direction p choice (rulings.Go id) set is = go_shown limits s by direction p choice id set is
first_shown limits s by direction p choice (rulings.Split id cause files) set is =
    let note : SplitNote = record { id = id; cause = cause; files = files } in
    let all = linked_now limits s set in
    let may = splits_may direction (now s) s.locks by p choice id cause files all is in
    let splits : Splits limits s id = record { set = set; may = may; linked = linked_split_state (now s) id all (positive_of limits s set) may } in
    split_shown limits s by direction p note (closest direction (split_now s id).records p) splits
    (λ piece moved there one. piece_goes direction s by p choice id cause files piece moved all (positive_of limits s set) is there one) refl
first_shown limits s by direction p choice (rulings.Flush cause files dropped) set is = flush_shown limits s by direction p choice cause files dropped set is
first_shown limits s by direction p choice (rulings.Locked files) set is =
    let course = begun_course s direction p in
    elim (is_some_of course.effects) as (λ b. Shown limits s (cond b (ended limits s course [] (λ next. ends.Locked files)) (stays (Move None (ends.Locked files)))).effects) [
      | true ↦ limited limits s [] (λ hit. Move None (ends.Limit course.asked hit)) (λ next. Move None (ends.Locked files)) (Shown limits s) (shown_none limits s) (λ none. shown_none limits s)
      | false ↦ shown_none limits s
    ]

-- what an undo or a redo records may come, and leaves a state that the type of histories keeps
pub moves_apply : (limits : Limits) (s : State) (by : ℕ) (direction : Direction) (p : Path) (choice : Choice) → IsHistory s limits → Shown limits s (move_outcome limits s by direction p choice).effects
moves_apply limits s by direction p choice set = first_shown limits s by direction p choice (ruling direction s.records s.locks by p choice) set refl
