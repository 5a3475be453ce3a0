-- Records, the entries of the history: what one command did to some paths. All this is this project's own.
use Rattle.std.specs.Prelude.{◌≡◌, ◌≢◌, ℕ, Bool, true, List, [], map}
use Rattle.std.specs.FinMap.{is_sorted}
use Rattle.std.specs.List.{All}
use Rattle.wse_path.specs.Path.{Path}
use Rattle.wse_path.specs.Order.{path_cmp}
use Rattle.wse_element.specs.declared.state.PartState.{PartState}
use Rattle.wse_element.specs.declared.state.PartState.TheVariants.{Live, Closed, Incompatible}
use Rattle.wse_element.specs.declared.body.Body.{Body}
use Rattle.wse_element.specs.Content.{old_content, new_content, no_contents}

-- What a record says of one path.
pub record RecordPart : Type 0 where
  pub path : Path
  pub state : PartState
  pub valid : Bool
  pub body : Body

-- One entry of the history. Its origin is the id of the record that its command made, from which it was split.
pub record Record : Type 0 where
  pub id : ℕ
  pub origin : ℕ
  pub label : List ℕ
  pub splits : Bool
  pub done : Bool
  pub parts : List RecordPart

-- A live part changes its path's content. Any other part holds no contents.
abbrev pub IsBodyOf : PartState → Body → Type 0
IsBodyOf Live body = old_content body ≢ new_content body
IsBodyOf Closed body = body ≡ no_contents
IsBodyOf Incompatible body = body ≡ no_contents

-- The parts by their paths.
abbrev pub by_path : List RecordPart → List (Path × RecordPart)
by_path parts = map (λ part. (part.path, part)) parts

-- There is a part, and their paths rise.
pub record AreParts (parts : List RecordPart) : Type 0 where
  pub some : parts ≢ []
  pub rise : is_sorted path_cmp (by_path parts) ≡ true

-- What the type of elements keeps of each.
pub record IsRecord (r : Record) : Type 0 where
  pub parts : AreParts r.parts
  pub each : All (λ part. IsBodyOf part.state part.body) r.parts
