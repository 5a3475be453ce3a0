use Rattle.std.proofs.Common.{◌≡◌, true, take, drop}
use Rattle.wse_element.specs.Numbers.{are_versions_bounded, is_known_bounded}
use Rattle.wse_element.specs.Effects.{versions_after_each}
use Rattle.wse_recover.specs.Keeps.{all_keep}
use Rattle.wse_recover.proofs.bumps.raise_each.Given as goal

abbrev pub invariant-loop-at : goal.invariant-loop-at
invariant-loop-at l = record {
  versions : l.versions.entries ≡ versions_after_each l.initial.versions.entries (take l.at l.effects);
  keep : all_keep l.serial l.initial.versions.entries l.effects ≡ all_keep l.serial l.versions.entries (drop l.at l.effects);
  bounded : are_versions_bounded l.serial l.versions.entries ≡ true;
  known : is_known_bounded l.versions.entries ≡ true;
}
