-- The elements of a store, as JSON with the members in byte order of their names. This project's own rule.
use Rattle.std.specs.Prelude.{ℕ, List, map, codes}
use Rattle.std.specs.List.{flat_map}
use Rattle.serde_json.specs.Data.{Data, no_members, member, no_items, item, object, array, boolean, number, string, unsigned}
use Rattle.serde_json.specs.View.{items_of}
use Rattle.wse_path.specs.Path.{text_of}
use Rattle.wse_element.specs.Record.{Record, RecordPart}
use Rattle.wse_element.specs.declared.state.PartState.{PartState}
use Rattle.wse_element.specs.declared.state.PartState.TheVariants.{Live, Closed, Incompatible}
use Rattle.wse_show.specs.Line.{line_of}

-- The state's text.
abbrev pub state_name : PartState → List ℕ
state_name Live = codes "live"
state_name Closed = codes "closed"
state_name Incompatible = codes "incompatible"

-- A part's path, its state and whether it is valid.
abbrev pub part_data : RecordPart → Data
part_data part = array
    (item (string (text_of part.path))
    (item (string (state_name part.state))
    (item (boolean part.valid) no_items)))

abbrev pub parts_data : List RecordPart → Data
parts_data parts = array (items_of (map part_data parts))

-- What is told of an element.
abbrev pub element_data : Record → Data
element_data r = object
    (member (codes "done") (boolean r.done)
    (member (codes "id") (number (unsigned r.id))
    (member (codes "label") (string r.label)
    (member (codes "origin") (number (unsigned r.origin))
    (member (codes "parts") (parts_data r.parts)
    (member (codes "splits") (boolean r.splits) no_members))))))

abbrev pub element_line : Record → List ℕ
element_line r = line_of (element_data r)

-- A line for each element, in order of making.
abbrev pub elements_text : List Record → List ℕ
elements_text records = flat_map element_line records
