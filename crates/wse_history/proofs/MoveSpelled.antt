-- What the effects of an undo and a redo spell.
use Rattle.std.proofs.Common.{◌≡◌, inl, ℕ, ◌+◌, ◌≤◌, Bool, true, false, cond, List, [], ◌∷◌, ◌++◌, map, length, Option, Some, None, refl, sym, ap, subst, arith}
use Rattle.std.specs.Prelude.{filter, sum_by}
use Rattle.std.specs.List.{flat_map, AllByRecursion}
use Rattle.std.proofs.lemmas.List.{length-append}
use Rattle.std.proofs.lemmas.List.Sums.{sum_by-cons}
use Rattle.wse_path.specs.Path.{Path, text_of}
use Rattle.wse_path.specs.declared.command.Direction.{Direction}
use Rattle.wse_path.specs.declared.command.Direction.TheVariants.{Back, Forward}
use Rattle.wse_element.specs.declared.state.PartState.TheVariants.{Closed}
use Rattle.wse_element.specs.declared.effect.Effect.{Effect}
use Rattle.wse_element.specs.declared.effect.Effect.TheVariants.{Split, Drop, Bump}
use Rattle.wse_element.specs.Record.{RecordPart}
use Rattle.wse_element.specs.Weight.{part_weight}
use Rattle.wse_codec.specs.Spelling.{path_bytes, state_byte, effect_bytes}
use Rattle.wse_codec.specs.Allowed.{IsSpellableEffect}
use Rattle.wse_history.specs.declared.answer.SplitNote.{SplitNote}
use Rattle.wse_history.specs.Done.{ones}
use Rattle.wse_history.specs.Moves.{move_effect}
use Rattle.wse_history.specs.Moving.{split_before, closings}
use Rattle.wse_history.specs.Outcome.{bump_each}
use Rattle.wse_history.proofs.BumpLemmas.{bumps}
use Rattle.wse_history.proofs.CountLemmas.{total}
use Rattle.wse_history.proofs.SpellingLemmas.{path_short, bumps_short}

-- ---- bumps

pub bump_each_is : (paths : List Path) → bump_each paths ≡ bumps (ones paths)
bump_each_is [] = refl
bump_each_is (p ∷ paths) = ap (λ es. Bump p 1 ∷ es) (bump_each_is paths)

-- the bumps of paths spell no more than what is known of them
bumps_long : (paths : List Path) → length (flat_map effect_bytes (bump_each paths)) ≤ total (ones paths)
bumps_long paths = subst (λ (es : List Effect). length (flat_map effect_bytes es) ≤ total (ones paths)) (sym (bump_each_is paths)) (bumps_short (ones paths))

spell_bumps : (paths : List Path) → AllByRecursion IsSpellableEffect (bump_each paths)
spell_bumps [] = tt
spell_bumps (p ∷ paths) = (inl refl, spell_bumps paths)

-- ---- moves

move_long : (direction : Direction) (id : ℕ) → length (effect_bytes (move_effect direction id)) ≡ 9
unfolding effect_bytes
move_long Back id = refl
move_long Forward id = refl

pub split_long : (id first : ℕ) → length (effect_bytes (Split id first)) ≡ 17
unfolding effect_bytes
split_long id first = refl

pub moved_long : (split : Option SplitNote) (first : ℕ) (direction : Direction) (id : ℕ) (paths : List Path) → length (flat_map effect_bytes (split_before split first ++ (move_effect direction id ∷ bump_each paths))) ≤ 26 + total (ones paths)
moved_long None first direction id paths = omega (arith, move_long direction id, bumps_long paths, length-append (effect_bytes (move_effect direction id)) (flat_map effect_bytes (bump_each paths)))
moved_long (Some note) first direction id paths =
    omega (
      arith,
      split_long note.id first,
      move_long direction id,
      bumps_long paths,
      length-append (effect_bytes (move_effect direction id)) (flat_map effect_bytes (bump_each paths)),
      length-append (effect_bytes (Split note.id first)) (flat_map effect_bytes (move_effect direction id ∷ bump_each paths)),
    )

spell_move : (direction : Direction) (id : ℕ) (paths : List Path) → AllByRecursion IsSpellableEffect (move_effect direction id ∷ bump_each paths)
spell_move Back id paths = (tt, spell_bumps paths)
spell_move Forward id paths = (tt, spell_bumps paths)

pub spell_moved : (split : Option SplitNote) (first : ℕ) (direction : Direction) (id : ℕ) (paths : List Path) → AllByRecursion IsSpellableEffect (split_before split first ++ (move_effect direction id ∷ bump_each paths))
spell_moved None first direction id paths = spell_move direction id paths
spell_moved (Some note) first direction id paths = (tt, spell_move direction id paths)

-- ---- closings

pub drop_text : (p : Path) → length (effect_bytes (Drop p Closed)) ≤ length (text_of p) + 4
unfolding effect_bytes
drop_text p = omega (arith, path_short p, length-append (path_bytes p) (state_byte Closed ∷ []))

pub text_in_part : (label : List ℕ) (part : RecordPart) → length (text_of part.path) + 4 ≤ part_weight label part
text_in_part label part = omega arith

-- closings at paths of a record spell no more than it counts for
pub closings_long : (test : Path → Bool) (label : List ℕ) (parts : List RecordPart) → length (flat_map effect_bytes (closings (filter test (map (λ part. part.path) parts)))) ≤ sum_by (part_weight label) parts
closings_long test label [] = omega arith
closings_long test label (part ∷ parts) =
    let rest = closings_long test label parts in
    let sums = sum_by-cons (part_weight label) part parts in
    let left = filter test (map (λ (x : RecordPart). x.path) parts) in
    elim (test part.path) as (λ b. length (flat_map effect_bytes (closings (cond b (part.path ∷ left) left))) ≤ sum_by (part_weight label) (part ∷ parts)) [
      | true ↦ omega (arith, rest, sums, text_in_part label part, drop_text part.path, length-append (effect_bytes (Drop part.path Closed)) (flat_map effect_bytes (closings left)))
      | false ↦ omega (arith, rest, sums)
    ]
