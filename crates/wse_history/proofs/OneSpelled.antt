-- What a path spells, and effects at one path.
use Rattle.std.proofs.Common.{◌≡◌, ℕ, suc, ◌+◌, ◌*◌, ◌^◌, ◌<◌, ◌≤◌, inl, List, [], ◌∷◌, length, Some, refl, arith}
use Rattle.std.specs.Prelude.{slice_get}
use Rattle.std.specs.List.{flat_map}
use Rattle.std.specs.Int.{w32, to_be_bytes}
use Rattle.std.proofs.lemmas.List.{length-append}
use Rattle.std.proofs.lemmas.List.Elements.{All-from_recursion}
use Rattle.wse_path.specs.Path.{Path}
use Rattle.wse_element.specs.declared.state.PartState.TheVariants.{Closed}
use Rattle.wse_element.specs.declared.effect.Effect.{Effect}
use Rattle.wse_element.specs.declared.effect.Effect.TheVariants.{Drop}
use Rattle.wse_codec.specs.Spelling.{segment_bytes, path_bytes, state_byte, effect_bytes, record_bytes}
use Rattle.wse_codec.specs.Allowed.{IsAllowedPath, IsSpellableEffect, IsSpellable}
use Rattle.wse_codec.proofs.SegmentLemmas.{few, short}

segments_within : (ss : Path) → ((i : ℕ) (s : List ℕ) → slice_get ss i ≡ Some s → length s < 2 ^ 8) → length (flat_map segment_bytes ss) ≤ 256 * length ss
unfolding segment_bytes
segments_within [] each = omega arith
segments_within (s ∷ ss) each =
    let here = each 0 s refl in
    let rest = segments_within ss (λ i t e. each (suc i) t e) in
    omega (arith, here, rest, length-append (length s ∷ s) (flat_map segment_bytes ss))

pub path_within : (p : Path) → IsAllowedPath p → length (path_bytes p) ≤ 16385
unfolding path_bytes
path_within p allowed = omega (arith, few p allowed.path, segments_within p (λ i s. short p i s allowed.path))

pub record_long : (effects : List Effect) → length (record_bytes effects) ≡ 5 + length (flat_map effect_bytes effects)
unfolding record_bytes
record_long effects = let four : length (to_be_bytes w32 (length effects)) ≡ 4 = refl in omega (arith, four, length-append (to_be_bytes w32 (length effects)) (flat_map effect_bytes effects))

drop_long : (p : Path) → length (effect_bytes (Drop p Closed)) ≡ length (path_bytes p) + 2
unfolding effect_bytes
drop_long p = omega (arith, length-append (path_bytes p) (state_byte Closed ∷ []))

pub drop_spells : (p : Path) → IsAllowedPath p → IsSpellable (Drop p Closed ∷ [])
drop_spells p allowed = record {
  some = λ e. cc;
  each = All-from_recursion IsSpellableEffect (Drop p Closed ∷ []) (inl refl, tt);
  short = omega (arith, path_within p allowed, drop_long p, record_long (Drop p Closed ∷ []), length-append (effect_bytes (Drop p Closed)) []);
}
