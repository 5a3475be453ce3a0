use Rattle.std.proofs.Common.{◌≡◌, ◌&&◌, take, map, find, None}
use Rattle.wse_path.specs.Tree.{put_all}
use Rattle.wse_resource.specs.Table.{is_within}
use Rattle.wse_resource.specs.After.{without, moved_files}
use Rattle.wse_resource.specs.Course.{is_past_limit}
use Rattle.wse_resource.proofs.slowly.renamed_slowly.Given as goal

abbrev pub invariant-loop-index : goal.invariant-loop-index
invariant-loop-index l = record {
  files : l.new.files ≡ put_all (moved_files (take l.index l.tree.files) l.from l.to) (without (without l.tree.files l.from) l.to);
  fits : find (λ q. is_within q l.from && is_past_limit l.from l.to q) (take l.index (map (λ e. e.0) l.tree.files)) ≡ None;
}
