use Rattle.std.proofs.Common.{◌≡◌, map, take, find, None}
use Rattle.wse_resource.specs.Table.{files_within, moved}
use Rattle.wse_resource.specs.Course.{is_past_limit}
use Rattle.wse_resource.proofs.over.moved_files.Given as goal

abbrev pub invariant-loop-source : goal.invariant-loop-source
invariant-loop-source g l = record {
  moved : l.moved.items ≡ map (λ e. (moved l.from l.to e.0, e.1)) (take l.source-index (files_within l.overlay.files l.from));
  fits : find (is_past_limit l.from l.to) (take l.source-index (map (λ e. e.0) (files_within l.overlay.files l.from))) ≡ None;
}
