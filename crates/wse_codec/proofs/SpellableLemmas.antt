-- What is allowed may be written, where it is short enough.
use Rattle.std.proofs.Common.{◌^◌, ◌<◌, List, length}
use Rattle.std.specs.Prelude.{◌≢◌}
use Rattle.std.proofs.lemmas.List.Elements.{All-weaker}
use Rattle.wse_element.specs.declared.effect.Effect.{Effect}
use Rattle.wse_element.specs.declared.effect.Effect.TheVariants.{Push, MoveBack, MoveForward, Split, Drop, Invalidate, Bump, Set}
use Rattle.wse_codec.specs.declared.snapshot.Snapshot.{Snapshot}
use Rattle.wse_codec.specs.Spelling.{record_bytes, state_bytes}
use Rattle.wse_codec.specs.Allowed.{IsAllowedEffect, IsAllowedRecord, IsAllowedVersion, IsAllowedState, IsSpellableEffect, IsSpellable, IsSpellableState}

effect_spellable : (effect : Effect) → IsAllowedEffect effect → IsSpellableEffect effect
effect_spellable (Push element) h = tt
effect_spellable (MoveBack id) h = tt
effect_spellable (MoveForward id) h = tt
effect_spellable (Split id first) h = tt
effect_spellable (Drop path reason) h = h.1
effect_spellable (Invalidate path) h = tt
effect_spellable (Bump path by) h = h.1
effect_spellable (Set path content) h = tt

pub spellable : (effects : List Effect) → IsAllowedRecord effects → length (record_bytes effects) < 2 ^ 32 → IsSpellable effects
spellable effects h short = record {
  some = h.some;
  each = All-weaker IsAllowedEffect IsSpellableEffect effect_spellable effects h.each;
  short = short;
}

pub state_spellable : (s : Snapshot) → IsAllowedState s → length (state_bytes s) < 2 ^ 32 → IsSpellableState s
state_spellable s h short = record {
  rise = h.versions.rise;
  some = All-weaker IsAllowedVersion (λ version. version.number ≢ 0) (λ version v. v.some) s.versions h.versions.each;
  short = short;
}
