use Rattle.std.proofs.Common.{◌≡◌, take}
use Rattle.std.specs.List.{list_any}
use Rattle.indexmap.specs.IndexMap.{get}
use Rattle.wse_path.specs.Path.{Path}
use Rattle.wse_element.specs.Live.{is_live_part_at}
use Rattle.wse_stacks.specs.Indexed.{path_eq, noted}
use Rattle.wse_stacks.proofs.indexed.note_parts.Given as goal

abbrev pub invariant-loop-part : goal.invariant-loop-part
invariant-loop-part l = (p : Path) → get path_eq l.last p ≡ noted (list_any (is_live_part_at p) (take l.part-index l.parts)) l.at (get path_eq l.initial.last p)
