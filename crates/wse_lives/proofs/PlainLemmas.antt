-- Only an edit pushes a record.
use Rattle.std.proofs.Common.{ℕ, true, false, cond, List, [], ◌∷◌, ◌++◌, map, Some, None}
use Rattle.std.specs.Prelude.{⊤, filter}
use Rattle.std.specs.List.{list_any, AllByRecursion}
use Rattle.std.specs.Option.{option_map_or}
use Rattle.wse_path.specs.Path.{Path}
use Rattle.wse_path.specs.Tree.{content}
use Rattle.wse_path.specs.Changes.{is_same}
use Rattle.wse_path.specs.declared.command.Choice.{Choice}
use Rattle.wse_path.specs.declared.command.Direction.{Direction}
use Rattle.wse_path.specs.declared.command.Direction.TheVariants.{Back, Forward}
use Rattle.wse_path.specs.declared.limits.Limits.{Limits}
use Rattle.wse_element.specs.declared.state.PartState.TheVariants.{Closed}
use Rattle.wse_element.specs.declared.effect.Effect.{Effect}
use Rattle.wse_element.specs.declared.effect.Effect.TheVariants.{Push, Split, Drop, Invalidate, Bump, Set}
use Rattle.wse_element.specs.Content.{Content}
use Rattle.wse_element.specs.Live.{is_live_at, is_valid_at}
use Rattle.wse_element.specs.Split.{split}
use Rattle.wse_element.specs.Stacks.{record_of}
use Rattle.wse_element.specs.State.{State}
use Rattle.wse_element.specs.Effects.{contents_set}
use Rattle.wse_rules.specs.Ruling.{closest, one_ruling, ruling, all_paths}
use Rattle.wse_rules.specs.declared.ruling.Ruling.{Ruling}
use Rattle.wse_rules.specs.declared.ruling.Ruling.TheVariants as rulings
use Rattle.wse_history.specs.declared.answer.MoveEnd.{MoveEnd}
use Rattle.wse_history.specs.declared.answer.MoveEnd.TheVariants as ends
use Rattle.wse_history.specs.declared.answer.Answer.TheVariants.{Move, Recorded, Same, OutsideInTheWay, Refused, Forgotten, NothingThere}
use Rattle.wse_history.specs.declared.answer.SplitNote.{SplitNote}
use Rattle.wse_element.specs.Way.{in_the_way}
use Rattle.wse_history.specs.Outcome.{stays, is_some_of, numbered, bump_each}
use Rattle.wse_history.specs.Limits.{within_limits}
use Rattle.wse_history.specs.Moves.{Course, move_effect, ended, gone, close_each, ruled, begun_course, first_ruled, move_outcome}
use Rattle.wse_history.specs.Outsides.{outside_effects, outside_outcome}
use Rattle.wse_history.specs.Forgetting.{forget_outcome}
use Rattle.wse_history.proofs.ShapeLemmas.{limited}
use Rattle.wse_lives.proofs.StayLemmas.{all_append}

-- It doesn't push a record.
abbrev pub IsPlain : Effect → Type 0
IsPlain (Push r) = ⊥
IsPlain _ = ⊤

abbrev pub ArePlain : List Effect → Type 0
ArePlain effects = AllByRecursion IsPlain effects

pub plain_bumps : (ps : List Path) → ArePlain (bump_each ps)
plain_bumps [] = tt
plain_bumps (p ∷ ps) = (tt, plain_bumps ps)

plain_drops : (ps : List Path) → ArePlain (map (λ p. Drop p Closed) ps)
plain_drops [] = tt
plain_drops (p ∷ ps) = (tt, plain_drops ps)

plain_move : (direction : Direction) (id : ℕ) → IsPlain (move_effect direction id)
plain_move Back id = tt
plain_move Forward id = tt

module _ (limits : Limits) (s : State) where
  plain_ended : (course : Course) (effects : List Effect) (end : State → MoveEnd) → ArePlain course.effects → ArePlain effects → ArePlain (ended limits s course effects end).effects
  plain_ended course effects end before these =
      limited limits s (course.effects ++ effects) (λ hit. Move None (ends.Limit course.asked hit)) (λ next. Move course.note (end next)) ArePlain tt (λ _. all_append IsPlain course.effects effects before these)

  plain_gone : (course : Course) (id : ℕ) → ArePlain course.effects → ArePlain (gone limits s course id).effects
  plain_gone course id before =
      let paths = option_map_or all_paths (record_of course.records id) [] in
      let blocking = in_the_way s.files (contents_set course.records (move_effect course.direction id)) in
      let effects = move_effect course.direction id ∷ bump_each paths in
      elim (is_some_of blocking) as (λ b. ArePlain (cond b (stays (Move None (ends.InTheWay course.asked blocking))) (ended limits s course effects (λ next. ends.Done id (numbered next paths)))).effects) [
        | true ↦ tt
        | false ↦ plain_ended course effects (λ next. ends.Done id (numbered next paths)) before (plain_move course.direction id, plain_bumps paths)
      ]

  plain_ruled : (course : Course) (r : Ruling) → ArePlain course.effects → ArePlain (ruled limits s course r).effects
  plain_ruled course rulings.Nothing before = tt
  plain_ruled course (rulings.Cancelled id) before = tt
  plain_ruled course (rulings.Go id) before = plain_gone course id before
  plain_ruled course (rulings.Split id cause files) before = tt
  plain_ruled course (rulings.Flush cause files dropped) before =
      plain_ended course (close_each course.records dropped) (λ next. ends.Flushed cause files dropped) before (plain_drops (filter (λ p. list_any (is_live_at p) course.records) dropped))
  plain_ruled course (rulings.Locked files) before =
      elim (is_some_of course.effects) as (λ b. ArePlain (cond b (ended limits s course [] (λ next. ends.Locked files)) (stays (Move None (ends.Locked files)))).effects) [
        | true ↦ plain_ended course [] (λ next. ends.Locked files) before tt
        | false ↦ tt
      ]

  plain_first : (by : ℕ) (direction : Direction) (p : Path) (r : Ruling) → ArePlain (first_ruled limits s by p (begun_course s direction p) r).effects
  plain_first by direction p rulings.Nothing = tt
  plain_first by direction p (rulings.Cancelled id) = tt
  plain_first by direction p (rulings.Go id) = plain_ruled (begun_course s direction p) (rulings.Go id) tt
  plain_first by direction p (rulings.Split id cause files) =
      let note : SplitNote = record { id = id; cause = cause; files = files } in
      let course = begun_course s direction p in
      let left = split s.records id s.next_id in
      plain_ruled (record course { records = left; effects = Split id s.next_id ∷ []; note = Some note }) (option_map_or (one_ruling s.locks by p) (closest direction left p) rulings.Nothing) (tt, tt)
  plain_first by direction p (rulings.Flush cause files dropped) = plain_ruled (begun_course s direction p) (rulings.Flush cause files dropped) tt
  plain_first by direction p (rulings.Locked files) = plain_ruled (begun_course s direction p) (rulings.Locked files) tt

  pub plain_moves : (by : ℕ) (direction : Direction) (p : Path) (choice : Choice) → ArePlain (move_outcome limits s by direction p choice).effects
  plain_moves by direction p choice = plain_first by direction p (ruling direction s.records s.locks by p choice)

  pub plain_forgets : (p : Path) → ArePlain (forget_outcome limits s p).effects
  plain_forgets p =
      elim (list_any (is_live_at p) s.records) as (λ b. ArePlain (cond b (within_limits limits s (Drop p Closed ∷ []) (λ hit. Refused hit) (λ next. Forgotten)) (stays NothingThere)).effects) [
        | true ↦ limited limits s (Drop p Closed ∷ []) (λ hit. Refused hit) (λ next. Forgotten) ArePlain tt (λ _. (tt, tt))
        | false ↦ tt
      ]

  plain_outside : (p : Path) (bytes : Content) → ArePlain (outside_effects s.records p bytes)
  plain_outside p bytes = elim (list_any (is_valid_at p) s.records) as (λ b. ArePlain (cond b (Invalidate p ∷ []) [] ++ (Set p bytes ∷ Bump p 1 ∷ []))) [ true ↦ (tt, (tt, (tt, tt))) | false ↦ (tt, (tt, tt)) ]

  pub plain_outsides : (p : Path) (bytes : Content) → ArePlain (outside_outcome limits s p bytes).effects
  plain_outsides p bytes =
      let blocking = in_the_way s.files ((p, bytes) ∷ []) in
      let effects = outside_effects s.records p bytes in
      let done = within_limits limits s effects (λ hit. Refused hit) (λ next. Recorded (numbered next (p ∷ []))) in
      elim (is_same (content s.files p) bytes) as (λ same. ArePlain (cond same (stays Same) (cond (is_some_of blocking) (stays (OutsideInTheWay blocking)) done)).effects) [
        | true ↦ tt
        | false ↦ elim (is_some_of blocking) as (λ b. ArePlain (cond b (stays (OutsideInTheWay blocking)) done).effects) [
          | true ↦ tt
          | false ↦ limited limits s effects (λ hit. Refused hit) (λ next. Recorded (numbered next (p ∷ []))) ArePlain tt (λ _. plain_outside p bytes)
        ]
      ]
