use Rattle.std.proofs.Common.{◌≡◌, ◌++◌, not}
use Rattle.std.specs.List.{filter}
use Rattle.wse_path.specs.Order.{is_named}
use Rattle.wse_overlay.proofs.lookups.not_gone.Given as goal

abbrev pub invariant-loop-file : goal.invariant-loop-file
invariant-loop-file l = l.paths.items ++ filter (λ q. not (is_named l.gone.keys q)) l.file-iterator.rest.items ≡ filter (λ q. not (is_named l.gone.keys q)) l.fn.files.items
