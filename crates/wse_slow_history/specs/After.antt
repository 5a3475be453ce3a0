-- One effect after another on a whole state. This project's own rule.
use Rattle.std.specs.Prelude.{◌+◌, List, [], ◌∷◌}
use Rattle.wse_path.specs.Tree.{set_files}
use Rattle.wse_element.specs.declared.effect.Effect.{Effect}
use Rattle.wse_element.specs.State.{State}
use Rattle.wse_element.specs.Effects.{contents_set, ids_taken, records_after, versions_after}

-- The state after one effect.
abbrev pub after_effect : State → Effect → State
after_effect s effect = record {
  files = set_files (contents_set s.records effect) s.files;
  versions = versions_after s.versions effect;
  records = records_after s.records effect;
  next_id = s.next_id + ids_taken s.records effect;
  serial = s.serial;
  locks = s.locks;
}

-- The state after one effect after another.
abbrev pub after_effects : State → List Effect → State
after_effects s [] = s
after_effects s (effect ∷ more) = after_effects (after_effect s effect) more
