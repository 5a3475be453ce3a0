-- Effects that the types of paths, labels and elements let be written, and that are short, may be spelled.
use Rattle.std.proofs.Common.{◌^◌, ◌<◌, List, length, get_or, arith}
use Rattle.std.specs.List.{All}
use Rattle.wse_element.specs.declared.effect.Effect.{Effect}
use Rattle.wse_element.specs.declared.effect.Effect.TheVariants.{Push, MoveBack, MoveForward, Split, Drop, Invalidate, Bump, Set}
use Rattle.wse_element.specs.Record.{RecordPart, Record}
use Rattle.wse_codec.specs.Spelling.{part_bytes, element_bytes, effect_bytes}
use Rattle.wse_codec.specs.Allowed.{IsAllowedPart, IsAllowedElement, IsAllowedEffect, IsAllowedRecord, IsSpellableEffect, IsSpellable}
use Rattle.wse_codec.proofs.ShortLemmas.{item_within, part_old_short, part_new_short, parts_count_short, parts_row_short, element_parts_short, effects_count_short, push_short, set_short, record_row_short}
use Rattle.wse_history.specs.Written.{IsWrittenPart, IsWrittenElement, IsWrittenEffect}

part_allowed : (part : RecordPart) → IsWrittenPart part → length (part_bytes part) < 2 ^ 32 → IsAllowedPart part
part_allowed part w short = record { path = w.path; rule = w.rule; old = part_old_short part short; new = part_new_short part short }

element_allowed : (r : Record) → IsWrittenElement r → length (element_bytes r) < 2 ^ 32 → IsAllowedElement r
element_allowed r w short =
    let parts = element_parts_short r short in
    record {
      id = w.id;
      origin = w.origin;
      label = w.label;
      parts = w.parts;
      count = parts_count_short r.parts parts;
      each = λ i d lt. part_allowed (get_or r.parts i d) (w.each i d lt) (omega (arith, parts_row_short r.parts parts, item_within part_bytes r.parts i d lt));
    }

effect_allowed : (effect : Effect) → IsWrittenEffect effect → IsSpellableEffect effect → length (effect_bytes effect) < 2 ^ 32 → IsAllowedEffect effect
effect_allowed (Push element) w s short = element_allowed element w (push_short element short)
effect_allowed (MoveBack id) w s short = w
effect_allowed (MoveForward id) w s short = w
effect_allowed (Split id first) w s short = w
effect_allowed (Drop path reason) w s short = (w, s)
effect_allowed (Invalidate path) w s short = w
effect_allowed (Bump path by) w s short = (w, s)
effect_allowed (Set path content) w s short = (w, set_short path content short)

pub allowed : (effects : List Effect) → All IsWrittenEffect effects → IsSpellable effects → IsAllowedRecord effects
allowed effects w s =
    let row = record_row_short effects s.short in
    record {
      some = s.some;
      count = effects_count_short effects row;
      each = λ i d lt. effect_allowed (get_or effects i d) (w i d lt) (s.each i d lt) (omega (arith, row, item_within effect_bytes effects i d lt));
    }
