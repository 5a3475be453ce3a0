use Rattle.std.proofs.Common.{◌≡◌, take}
use Rattle.std.specs.Prelude.{filter}
use Rattle.std.specs.List.{list_any}
use Rattle.wse_element.specs.Live.{is_live_at}
use Rattle.wse_history.proofs.moves.live_of.Given as goal

abbrev pub invariant-loop-path : goal.invariant-loop-path
invariant-loop-path l = l.live.items ≡ filter (λ p. list_any (is_live_at p) l.stacks.state.records) (take l.path-index l.paths)
