-- Records and states read from bytes, and the place of the first field that is cut or not allowed. This project's own rule.
use Rattle.std.specs.Prelude.{ℕ, Bool, true, false, not, ◌&&◌, List, length, Option, Some, None, option_map, is_none, Result, Ok, Err, nat_le, ◌==◌, if◌then◌else◌}
use Rattle.std.specs.List.{list_all}
use Rattle.std.specs.Option.{option_map_or}
use Rattle.std.specs.Str.{is_utf8}
use Rattle.std.specs.Int.{w16, w32, w64}
use Rattle.std.specs.Ordering.{is_lt}
use Rattle.wse_path.specs.Path.{Path, refusal}
use Rattle.wse_path.specs.Order.{path_cmp}
use Rattle.wse_path.specs.Changes.{is_same}
use Rattle.wse_path.specs.declared.change.Numbered.{Numbered}
use Rattle.wse_element.specs.declared.state.PartState.{PartState}
use Rattle.wse_element.specs.declared.state.PartState.TheVariants.{Live, Closed, Incompatible}
use Rattle.wse_element.specs.declared.body.Body.{Body}
use Rattle.wse_element.specs.declared.body.Body.TheVariants.{Whole}
use Rattle.wse_element.specs.declared.effect.Effect.{Effect}
use Rattle.wse_element.specs.declared.effect.Effect.TheVariants.{Push, MoveBack, MoveForward, Split, Drop, Invalidate, Bump, Set}
use Rattle.wse_element.specs.Content.{Content}
use Rattle.wse_element.specs.Record.{RecordPart, Record}
use Rattle.wse_codec.specs.declared.snapshot.Snapshot.{Snapshot}
use Rattle.wse_codec.specs.Pieces.{Read, ◌>>=◌, where_allowed, byte_at, number_at, run_at, coded_at, count_at, row_at, whole, placed}

unfoldable pub segment_at : List ℕ → Read (List ℕ)
segment_at bytes = do
  len ← byte_at bytes
  run_at len.0 len.1

-- The segments are a path of texts.
unfoldable pub is_path : Path → Bool
is_path segments = is_none (refusal segments) && list_all is_utf8 segments

-- The path comes behind the other, where there is one.
unfoldable pub is_behind : Option Path → Path → Bool
is_behind before path = option_map_or (λ other. is_lt (path_cmp other path)) before true

-- A path whose fields are whole is refused at its first field.
unfoldable pub path_behind : Option Path → List ℕ → Read Path
path_behind before bytes = do
  count ← byte_at bytes
  segments ← row_at (λ last. segment_at) None count.0 count.1
  where_allowed (is_path segments.0 && is_behind before segments.0) bytes segments

abbrev pub path_at : List ℕ → Read Path
path_at bytes = path_behind None bytes

unfoldable pub counted_at : List ℕ → Read (List ℕ)
counted_at bytes = do
  len ← number_at w32 bytes
  run_at len.0 len.1

unfoldable pub flag_of : ℕ → Option Bool
flag_of b = if b == 0 then Some false else (if b == 1 then Some true else None)

abbrev pub flag_at : List ℕ → Read Bool
flag_at bytes = coded_at flag_of bytes

-- What a flag announces.
unfoldable pub content_behind : Bool → List ℕ → Read Content
content_behind false bytes = Ok (None, bytes)
content_behind true bytes = do
  run ← counted_at bytes
  Ok (Some run.0, run.1)

unfoldable pub content_at : List ℕ → Read Content
content_at bytes = do
  flag ← flag_at bytes
  content_behind flag.0 flag.1

-- A label that is too long is refused at its length, one that is no text at its bytes.
unfoldable pub label_at : List ℕ → Read (List ℕ)
label_at bytes = do
  len ← number_at w16 bytes
  short ← where_allowed (nat_le len.0 1024) bytes len
  text ← run_at short.0 short.1
  where_allowed (is_utf8 text.0) short.1 text

unfoldable pub state_of : ℕ → Option PartState
state_of b = if b == 0 then Some Live else (if b == 1 then Some Closed else (if b == 2 then Some Incompatible else None))

abbrev pub state_at : List ℕ → Read PartState
state_at bytes = coded_at state_of bytes

-- A live part changes its path's content. Any other part holds no contents.
unfoldable pub may_hold : PartState → Content → Content → Bool
may_hold Live was is = not (is_same was is)
may_hold Closed was is = is_none was && is_none is
may_hold Incompatible was is = is_none was && is_none is

-- Both contents, whole.
unfoldable pub contents_at : List ℕ → Read (Content × Content)
contents_at bytes = do
  was ← content_at bytes
  is ← content_at was.1
  Ok ((was.0, is.0), is.1)

-- A body whose fields are whole is refused at its form.
unfoldable pub body_at : PartState → List ℕ → Read Body
body_at state bytes = do
  form ← byte_at bytes
  known ← where_allowed (form.0 == 0) bytes form
  contents ← contents_at known.1
  where_allowed (may_hold state contents.0.0 contents.0.1) bytes (Whole contents.0.0 contents.0.1, contents.1)

unfoldable pub part_behind : Option RecordPart → List ℕ → Read RecordPart
part_behind before bytes = do
  path ← path_behind (option_map (λ part. part.path) before) bytes
  state ← state_at path.1
  valid ← flag_at state.1
  body ← body_at state.0 valid.1
  Ok (record { path = path.0; state = state.0; valid = valid.0; body = body.0 }, body.1)

-- Whether the element splits, and whether it is done.
unfoldable pub flags_of : ℕ → Option (Bool × Bool)
flags_of b =
    if b == 0 then Some (false, false)
    else (if b == 1 then Some (true, false)
    else (if b == 2 then Some (false, true)
    else (if b == 3 then Some (true, true) else None)))

abbrev pub flags_at : List ℕ → Read (Bool × Bool)
flags_at bytes = coded_at flags_of bytes

unfoldable pub parts_at : List ℕ → Read (List RecordPart)
parts_at bytes = do
  count ← count_at bytes
  row_at part_behind None count.0 count.1

unfoldable pub element_at : List ℕ → Read Record
element_at bytes = do
  id ← number_at w64 bytes
  origin ← number_at w64 id.1
  label ← label_at origin.1
  flags ← flags_at label.1
  parts ← parts_at flags.1
  Ok (record { id = id.0; origin = origin.0; label = label.0; splits = flags.0.0; done = flags.0.1; parts = parts.0 }, parts.1)

unfoldable pub push_at : List ℕ → Read Effect
push_at bytes = do
  element ← element_at bytes
  Ok (Push element.0, element.1)

unfoldable pub move_back_at : List ℕ → Read Effect
move_back_at bytes = do
  id ← number_at w64 bytes
  Ok (MoveBack id.0, id.1)

unfoldable pub move_forward_at : List ℕ → Read Effect
move_forward_at bytes = do
  id ← number_at w64 bytes
  Ok (MoveForward id.0, id.1)

unfoldable pub split_at : List ℕ → Read Effect
split_at bytes = do
  id ← number_at w64 bytes
  first ← number_at w64 id.1
  Ok (Split id.0 first.0, first.1)

unfoldable pub reason_of : ℕ → Option PartState
reason_of b = if b == 1 then Some Closed else (if b == 2 then Some Incompatible else None)

unfoldable pub drop_at : List ℕ → Read Effect
drop_at bytes = do
  path ← path_at bytes
  reason ← coded_at reason_of path.1
  Ok (Drop path.0 reason.0, reason.1)

unfoldable pub invalidate_at : List ℕ → Read Effect
invalidate_at bytes = do
  path ← path_at bytes
  Ok (Invalidate path.0, path.1)

unfoldable pub rise_of : ℕ → Option ℕ
rise_of b = if b == 1 then Some 1 else (if b == 2 then Some 2 else None)

unfoldable pub bump_at : List ℕ → Read Effect
bump_at bytes = do
  path ← path_at bytes
  by ← coded_at rise_of path.1
  Ok (Bump path.0 by.0, by.1)

unfoldable pub set_at : List ℕ → Read Effect
set_at bytes = do
  path ← path_at bytes
  content ← content_at path.1
  Ok (Set path.0 content.0, content.1)

-- The effect of this kind behind the byte that names it.
unfoldable pub effect_of_kind : ℕ → List ℕ → List ℕ → Read Effect
effect_of_kind kind field rest =
    if kind == 1 then push_at rest
    else (if kind == 2 then move_back_at rest
    else (if kind == 3 then move_forward_at rest
    else (if kind == 4 then split_at rest
    else (if kind == 5 then drop_at rest
    else (if kind == 6 then invalidate_at rest
    else (if kind == 7 then bump_at rest
    else (if kind == 8 then set_at rest
    else Err (length field))))))))

unfoldable pub effect_at : List ℕ → Read Effect
effect_at bytes = do
  kind ← byte_at bytes
  effect_of_kind kind.0 bytes kind.1

-- A record, and nothing behind it.
unfoldable pub record_at : List ℕ → Result (List Effect) ℕ
record_at bytes = do
  kind ← byte_at bytes
  known ← where_allowed (kind.0 == 1) bytes kind
  count ← count_at known.1
  effects ← row_at (λ last. effect_at) None count.0 count.1
  whole effects

unfoldable pub version_behind : Option Numbered → List ℕ → Read Numbered
version_behind before bytes = do
  path ← path_behind (option_map (λ version. version.path) before) bytes
  number ← count_at path.1
  Ok (record { path = path.0; number = number.0 }, number.1)

unfoldable pub versions_at : List ℕ → Read (List Numbered)
versions_at bytes = do
  count ← number_at w32 bytes
  row_at version_behind None count.0 count.1

unfoldable pub elements_at : List ℕ → Read (List Record)
elements_at bytes = do
  count ← number_at w32 bytes
  row_at (λ last. element_at) None count.0 count.1

-- A state, and nothing behind it.
unfoldable pub snapshot_at : List ℕ → Result Snapshot ℕ
snapshot_at bytes = do
  kind ← byte_at bytes
  known ← where_allowed (kind.0 == 0) bytes kind
  serial ← number_at w64 known.1
  next_id ← number_at w64 serial.1
  versions ← versions_at next_id.1
  elements ← elements_at versions.1
  whole (record { serial = serial.0; next_id = next_id.0; versions = versions.0; elements = elements.0 }, elements.1)

-- The effects that the bytes spell, or the place of the first field that is cut or not allowed, or of the first byte too
-- many.
abbrev pub read_effects : List ℕ → Result (List Effect) ℕ
read_effects body = placed body (record_at body)

-- The same for a state.
abbrev pub read_snapshot : List ℕ → Result Snapshot ℕ
read_snapshot body = placed body (snapshot_at body)
