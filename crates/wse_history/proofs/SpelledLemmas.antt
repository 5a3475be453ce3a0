-- What an edit records may be written.
use Rattle.std.proofs.Common.{◌≡◌, ◌≢◌, inl, inr, ℕ, zero, suc, ◌+◌, ◌^◌, ◌<◌, ◌≤◌, true, List, [], ◌∷◌, ◌++◌, map, length, None, refl, arith}
use Rattle.std.specs.Prelude.{filter, sum_by}
use Rattle.std.specs.List.{flat_map, AllByRecursion}
use Rattle.std.proofs.lemmas.List.{length-append}
use Rattle.std.proofs.lemmas.List.Elements.{All-from_recursion}
use Rattle.wse_path.specs.Path.{Path}
use Rattle.wse_path.specs.Limits.{standard}
use Rattle.wse_path.specs.declared.change.Change.{Change}
use Rattle.wse_path.specs.declared.change.Numbered.{Numbered}
use Rattle.wse_path.specs.declared.edit.Edit.{Edit}
use Rattle.wse_path.specs.declared.limits.Limits.{Limits}
use Rattle.wse_element.specs.declared.effect.Effect.{Effect}
use Rattle.wse_element.specs.declared.effect.Effect.TheVariants.{Push}
use Rattle.wse_element.specs.Weight.{part_weight}
use Rattle.wse_element.specs.State.{State}
use Rattle.wse_element.specs.Effects.{state_after}
use Rattle.wse_element.specs.Linked.{IsStateLinked}
use Rattle.wse_element.specs.Applicable.{has_future}
use Rattle.wse_apply.specs.Limit.{are_within}
use Rattle.wse_apply.specs.declared.performed.Performed.{Performed}
use Rattle.wse_codec.specs.Spelling.{effect_bytes, record_bytes}
use Rattle.wse_codec.specs.Allowed.{IsSpellableEffect, IsSpellable, IsRise}
use Rattle.wse_history.specs.Edits.{part_of, made, push_of, edit_effects, edit_hit}
use Rattle.wse_history.specs.Done.{AreRises, IsDone}
use Rattle.wse_history.proofs.DropLemmas.{drops}
use Rattle.wse_history.proofs.MadeLemmas.{paths_of}
use Rattle.wse_history.proofs.BumpLemmas.{bumps}
use Rattle.wse_history.proofs.CountLemmas.{total}
use Rattle.wse_history.proofs.SpellingLemmas.{push_short, drops_short, bumps_short, record_short}
use Rattle.wse_history.proofs.EditLemmas.{made_weighs, bumps_known}

-- ---- short

length_behind : (es fs : List Effect) → length (flat_map effect_bytes (es ++ fs)) ≡ length (flat_map effect_bytes es) + length (flat_map effect_bytes fs)
length_behind [] fs = omega arith
length_behind (e ∷ es) fs =
    omega (arith, length_behind es fs, length-append (effect_bytes e) (flat_map effect_bytes (es ++ fs)), length-append (effect_bytes e) (flat_map effect_bytes es))

push_list_short : (s : State) (edit : Edit) (cs : List Change) → length (flat_map effect_bytes (push_of s edit cs)) ≤ sum_by (part_weight edit.label) (map part_of cs)
push_list_short s edit [] = omega arith
push_list_short s edit (c ∷ cs) =
    omega (arith, push_short (made s edit (c ∷ cs)) (part_of c) (map part_of cs) refl, length-append (effect_bytes (Push (made s edit (c ∷ cs)))) [])

steps_short : (s : State) (edit : Edit) (done : Performed) → sum_by (part_weight edit.label) (map part_of done.changes) ≤ 2 ^ 29 → total done.bumps ≤ 2 ^ 29 → length (record_bytes (edit_effects s edit done)) < 2 ^ 32
steps_short s edit done weighs knows =
    let a = length_behind (drops (filter (has_future s.records) (paths_of done.changes))) (push_of s edit done.changes ++ bumps done.bumps) in
    let b = length_behind (push_of s edit done.changes) (bumps done.bumps) in
    omega (arith, a, b, weighs, knows, drops_short (has_future s.records) edit.label done.changes, push_list_short s edit done.changes, bumps_short done.bumps, record_short (edit_effects s edit done))

rise_of : (n : ℕ) → 1 ≤ n → n ≤ 2 → IsRise n
rise_of zero one two = absurd (omega (arith, one))
rise_of (suc zero) one two = inl refl
rise_of (suc (suc zero)) one two = inr refl
rise_of (suc (suc (suc n))) one two = absurd (omega (arith, two))

spell_bumps : (bs : List Numbered) → AreRises bs → AllByRecursion IsSpellableEffect (bumps bs)
spell_bumps [] rises = tt
spell_bumps (b ∷ bs) rises = (rise_of b.number rises.0.0 rises.0.1, spell_bumps bs rises.1)

spell_push : (s : State) (edit : Edit) (cs : List Change) (bs : List Numbered) → AreRises bs → AllByRecursion IsSpellableEffect (push_of s edit cs ++ bumps bs)
spell_push s edit [] bs rises = spell_bumps bs rises
spell_push s edit (c ∷ cs) bs rises = (tt, spell_bumps bs rises)

spell_steps : (qs : List Path) (es : List Effect) → AllByRecursion IsSpellableEffect es → AllByRecursion IsSpellableEffect (drops qs ++ es)
spell_steps [] es all = all
spell_steps (q ∷ qs) es all = (inr refl, spell_steps qs es all)

module _ (limits : Limits) (s : State) (edit : Edit) (done : Performed) (linked : IsStateLinked s) (within : are_within limits standard ≡ true) (d : IsDone s.files done)
    (none : edit_hit limits (state_after s (edit_effects s edit done)) ≡ None) (some : edit_effects s edit done ≢ []) where
  short : length (record_bytes (edit_effects s edit done)) < 2 ^ 32
  short = steps_short s edit done (made_weighs limits s edit done linked within d none) (bumps_known limits s edit done linked within d none)

  pub edits_spell : IsSpellable (edit_effects s edit done)
  edits_spell = record {
    some = some;
    each = All-from_recursion IsSpellableEffect (edit_effects s edit done)
        (spell_steps (filter (has_future s.records) (paths_of done.changes)) (push_of s edit done.changes ++ bumps done.bumps) (spell_push s edit done.changes done.bumps d.rises));
    short = short;
  }
