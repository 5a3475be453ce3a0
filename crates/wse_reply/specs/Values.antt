-- What answers are made of, as JSON. This project's own rule.
use Rattle.std.specs.Prelude.{ℕ, List, [], ◌∷◌, map, Option, Some, None}
use Rattle.serde_json.specs.Data.{Data, Members, no_members, put, Items, no_items, item, object, array, null, number, string, unsigned}
use Rattle.serde_json.specs.View.{items_of}
use Rattle.wse_path.specs.Path.{Path, text_of}
use Rattle.wse_path.specs.declared.change.Numbered.{Numbered}
use Rattle.wse_apply.specs.declared.skips.Skip.{Skip}

abbrev pub number_data : ℕ → Data
number_data n = number (unsigned n)

abbrev pub number_or_null : Option ℕ → Data
number_or_null (Some n) = number_data n
number_or_null None = null

abbrev pub text_or_null : Option (List ℕ) → Data
text_or_null (Some text) = string text
text_or_null None = null

-- Members from each path's text to its version, put to the others in byte order of the texts.
abbrev pub put_versions : List Numbered → Members → Members
put_versions [] members = members
put_versions (b ∷ more) members = put_versions more (put (text_of b.path) (number_data b.number) members)

-- From each path's text to its version.
abbrev pub versions_data : List Numbered → Data
versions_data changed = object (put_versions changed no_members)

-- The paths' texts.
abbrev pub files_data : List Path → Data
files_data files = array (items_of (map (λ file. string (text_of file)) files))

abbrev pub edit_items : Option ℕ → Items
edit_items (Some edit) = item (number_data edit) no_items
edit_items None = no_items

-- The operation, and the edit of it where it isn't left out as a whole.
abbrev pub skip_data : Skip → Data
skip_data skip = array (item (number_data skip.operation) (edit_items skip.edit))

abbrev pub skips_data : List Skip → Data
skips_data skips = array (items_of (map skip_data skips))
