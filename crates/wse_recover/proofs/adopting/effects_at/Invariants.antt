use Rattle.std.proofs.Common.{◌≡◌, take}
use Rattle.std.specs.List.{All}
use Rattle.wse_codec.specs.Allowed.{IsAllowedPath}
use Rattle.wse_recover.specs.Adopting.{adopting}
use Rattle.wse_recover.proofs.adopting.effects_at.Given as goal

abbrev pub invariant-loop-path : goal.invariant-loop-path
invariant-loop-path l = record {
  effects : l.effects.items ≡ adopting (take l.path-index l.paths);
  allowed : All IsAllowedPath (take l.path-index l.paths);
}
