-- The spelling of records and states as bytes: one definition for each row of the format. This project's own rule.
-- Numbers of more than one byte are big-endian.
use Rattle.std.specs.Prelude.{ℕ, ◌+◌, Bool, List, [], ◌∷◌, ◌++◌, length, Some, None, if◌then◌else◌}
use Rattle.std.specs.List.{flat_map}
use Rattle.std.specs.Int.{w16, w32, w64, to_be_bytes}
use Rattle.wse_path.specs.Path.{Path}
use Rattle.wse_path.specs.declared.change.Numbered.{Numbered}
use Rattle.wse_element.specs.declared.state.PartState.{PartState}
use Rattle.wse_element.specs.declared.state.PartState.TheVariants.{Live, Closed, Incompatible}
use Rattle.wse_element.specs.declared.body.Body.{Body}
use Rattle.wse_element.specs.declared.body.Body.TheVariants.{Whole}
use Rattle.wse_element.specs.declared.effect.Effect.{Effect}
use Rattle.wse_element.specs.declared.effect.Effect.TheVariants.{Push, MoveBack, MoveForward, Split, Drop, Invalidate, Bump, Set}
use Rattle.wse_element.specs.Content.{Content}
use Rattle.wse_element.specs.Record.{RecordPart, Record}
use Rattle.wse_codec.specs.declared.snapshot.Snapshot.{Snapshot}

-- A byte of length, and that many bytes.
unfoldable pub segment_bytes : List ℕ → List ℕ
segment_bytes segment = length segment ∷ segment

-- A byte that counts the segments, and the segments.
unfoldable pub path_bytes : Path → List ℕ
path_bytes path = length path ∷ flat_map segment_bytes path

-- Four bytes of length, and that many bytes.
unfoldable pub run_bytes : List ℕ → List ℕ
run_bytes bytes = to_be_bytes w32 (length bytes) ++ bytes

-- Content that is absent is a byte 0, and any other a byte 1 and its bytes.
unfoldable pub content_bytes : Content → List ℕ
content_bytes None = 0 ∷ []
content_bytes (Some bytes) = 1 ∷ run_bytes bytes

-- Two bytes of length, and the label's text.
unfoldable pub label_bytes : List ℕ → List ℕ
label_bytes text = to_be_bytes w16 (length text) ++ text

unfoldable pub state_byte : PartState → ℕ
state_byte Live = 0
state_byte Closed = 1
state_byte Incompatible = 2

unfoldable pub flag_byte : Bool → ℕ
flag_byte flag = if flag then 1 else 0

-- One for an element that splits, and two for one that is done.
unfoldable pub flags_byte : Bool → Bool → ℕ
flags_byte splits done = (if splits then 1 else 0) + (if done then 2 else 0)

-- The form 0, the old content and the new one.
unfoldable pub body_bytes : Body → List ℕ
body_bytes (Whole was is) = 0 ∷ (content_bytes was ++ content_bytes is)

unfoldable pub part_bytes : RecordPart → List ℕ
part_bytes part = path_bytes part.path ++ (state_byte part.state ∷ flag_byte part.valid ∷ body_bytes part.body)

-- Four bytes that count them, and the parts.
unfoldable pub parts_bytes : List RecordPart → List ℕ
parts_bytes parts = to_be_bytes w32 (length parts) ++ flat_map part_bytes parts

unfoldable pub element_bytes : Record → List ℕ
element_bytes r =
    to_be_bytes w64 r.id ++ (to_be_bytes w64 r.origin ++ (label_bytes r.label ++ (flags_byte r.splits r.done ∷ parts_bytes r.parts)))

unfoldable pub effect_bytes : Effect → List ℕ
effect_bytes (Push element) = 1 ∷ element_bytes element
effect_bytes (MoveBack id) = 2 ∷ to_be_bytes w64 id
effect_bytes (MoveForward id) = 3 ∷ to_be_bytes w64 id
effect_bytes (Split id first) = 4 ∷ (to_be_bytes w64 id ++ to_be_bytes w64 first)
effect_bytes (Drop path reason) = 5 ∷ (path_bytes path ++ (state_byte reason ∷ []))
effect_bytes (Invalidate path) = 6 ∷ path_bytes path
effect_bytes (Bump path by) = 7 ∷ (path_bytes path ++ (by ∷ []))
effect_bytes (Set path content) = 8 ∷ (path_bytes path ++ content_bytes content)

-- A record: the byte 1, four bytes that count them, and the effects of one command.
unfoldable pub record_bytes : List Effect → List ℕ
record_bytes effects = 1 ∷ (to_be_bytes w32 (length effects) ++ flat_map effect_bytes effects)

-- A path with its version.
unfoldable pub version_bytes : Numbered → List ℕ
version_bytes version = path_bytes version.path ++ to_be_bytes w32 version.number

unfoldable pub versions_bytes : List Numbered → List ℕ
versions_bytes versions = to_be_bytes w32 (length versions) ++ flat_map version_bytes versions

unfoldable pub elements_bytes : List Record → List ℕ
elements_bytes elements = to_be_bytes w32 (length elements) ++ flat_map element_bytes elements

-- A state: the byte 0, the serial number, the next free id, the versions and the elements.
unfoldable pub state_bytes : Snapshot → List ℕ
state_bytes s =
    0 ∷ (to_be_bytes w64 s.serial ++ (to_be_bytes w64 s.next_id ++ (versions_bytes s.versions ++ elements_bytes s.elements)))
