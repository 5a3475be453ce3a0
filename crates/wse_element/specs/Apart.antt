-- That the present contents of a record's live parts can be files of one tree. This project's own rule.
use Rattle.std.specs.Prelude.{Bool, not, ◌&&◌, List, map, filter, is_some}
use Rattle.std.specs.List.{list_any, list_all}
use Rattle.wse_path.specs.Path.{Path, is_under}
use Rattle.wse_element.specs.declared.body.Body.{Body}
use Rattle.wse_element.specs.Content.{Content, old_content, new_content}
use Rattle.wse_element.specs.Record.{RecordPart, Record}
use Rattle.wse_element.specs.Live.{is_live}

-- No path is under another.
abbrev pub are_apart : List Path → Bool
are_apart paths = list_all (λ p. not (list_any (is_under p) paths)) paths

-- The paths of live parts that have such a content.
abbrev pub paths_with : (Body → Content) → List RecordPart → List Path
paths_with content parts = map (λ part. part.path) (filter (λ part. is_some (content part.body)) (filter (λ part. is_live part.state) parts))

-- The paths of the live parts that have an old content, and of those that have a new one.
abbrev pub old_paths : Record → List Path
old_paths r = paths_with old_content r.parts

abbrev pub new_paths : Record → List Path
new_paths r = paths_with new_content r.parts

abbrev pub is_apart : Record → Bool
is_apart r = are_apart (old_paths r) && are_apart (new_paths r)
