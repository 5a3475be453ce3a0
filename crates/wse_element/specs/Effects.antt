-- What effects do: to the list of records, to the next free id, to the tree and to the versions. The effects that one
-- command has are written together, as one record of the journal. This project's own rule.
use Rattle.std.specs.Prelude.{ℕ, ◌+◌, Bool, true, false, List, [], ◌∷◌, ◌++◌, map, length, if◌then◌else◌}
use Rattle.std.specs.Option.{option_map_or}
use Rattle.wse_path.specs.Path.{Path}
use Rattle.wse_path.specs.Tree.{Entries, set_files}
use Rattle.wse_path.specs.Versions.{Numbers, bumped}
use Rattle.wse_element.specs.declared.state.PartState.{PartState}
use Rattle.wse_element.specs.declared.state.PartState.TheVariants.{Live, Closed, Incompatible}
use Rattle.wse_element.specs.declared.effect.Effect.{Effect}
use Rattle.wse_element.specs.declared.effect.Effect.TheVariants.{Push, MoveBack, MoveForward, Split, Drop, Invalidate, Bump, Set}
use Rattle.wse_element.specs.Content.{Content, old_content, new_content}
use Rattle.wse_element.specs.Record.{Record}
use Rattle.wse_element.specs.Live.{live_parts}
use Rattle.wse_element.specs.Stacks.{has_id, record_of}
use Rattle.wse_element.specs.Losses.{flushed, dropped, invalidated}
use Rattle.wse_element.specs.Split.{split}
use Rattle.wse_element.specs.State.{StacksState, Kept, State, stacks_of, kept_of}

-- The record with the id is done now, or isn't any more.
abbrev pub marked_one : ℕ → Bool → Record → Record
marked_one id done r = if has_id id r then record r { done = done } else r

abbrev pub marked : List Record → ℕ → Bool → List Record
marked records id done = map (marked_one id done) records

-- What is lost at the path for this reason: with `Closed` all there, with `Incompatible` its future.
abbrev pub lost_for : List Record → Path → PartState → List Record
lost_for records path Live = records
lost_for records path Closed = flushed records path
lost_for records path Incompatible = dropped records path

-- The list after an effect.
abbrev pub records_after : List Record → Effect → List Record
records_after records (Push element) = records ++ element ∷ []
records_after records (MoveBack id) = marked records id false
records_after records (MoveForward id) = marked records id true
records_after records (Split id first) = split records id first
records_after records (Drop path reason) = lost_for records path reason
records_after records (Invalidate path) = invalidated records path
records_after records (Bump path by) = records
records_after records (Set path content) = records

-- How many ids an effect takes.
abbrev pub ids_taken : List Record → Effect → ℕ
ids_taken records (Push element) = 1
ids_taken records (Split id first) = option_map_or (λ r. length (live_parts r)) (record_of records id) 0
ids_taken records _ = 0

abbrev pub after : StacksState → Effect → StacksState
after h effect = record {
  records = records_after h.records effect;
  next_id = h.next_id + ids_taken h.records effect;
  serial = h.serial;
}

-- After one effect after another.
abbrev pub after_each : StacksState → List Effect → StacksState
after_each h [] = h
after_each h (effect ∷ more) = after_each (after h effect) more

-- One more command is recorded: the serial number that counts for its effects.
abbrev pub begun : StacksState → StacksState
begun h = record h { serial = h.serial + 1 }

-- What the effects of one command leave.
abbrev pub left_by : List Effect → StacksState → StacksState
left_by effects h = after_each (begun h) effects

abbrev pub old_contents : Record → List (Path × Content)
old_contents r = map (λ part. (part.path, old_content part.body)) r.parts

abbrev pub new_contents : Record → List (Path × Content)
new_contents r = map (λ part. (part.path, new_content part.body)) r.parts

-- The paths that an effect sets, each with what it has then.
abbrev pub contents_set : List Record → Effect → List (Path × Content)
contents_set records (Push element) = new_contents element
contents_set records (MoveBack id) = option_map_or old_contents (record_of records id) []
contents_set records (MoveForward id) = option_map_or new_contents (record_of records id) []
contents_set records (Set path content) = (path, content) ∷ []
contents_set records _ = []

-- The files after one effect after another.
abbrev pub files_after_each : StacksState → List Effect → Entries → Entries
files_after_each h [] files = files
files_after_each h (effect ∷ more) files = files_after_each (after h effect) more (set_files (contents_set h.records effect) files)

abbrev pub versions_after : Numbers → Effect → Numbers
versions_after versions (Bump path by) = bumped versions path by
versions_after versions _ = versions

abbrev pub versions_after_each : Numbers → List Effect → Numbers
versions_after_each versions [] = versions
versions_after_each versions (effect ∷ more) = versions_after_each (versions_after versions effect) more

-- What the effects of one command leave of what a journal keeps, and of the whole state.
abbrev pub kept_after : Kept → List Effect → Kept
kept_after kept effects =
    let h = left_by effects (stacks_of kept) in
    record { versions = versions_after_each kept.versions effects; records = h.records; next_id = h.next_id; serial = h.serial }

abbrev pub state_after : State → List Effect → State
state_after s effects =
    let kept = kept_after (kept_of s) effects in
    record {
      files = files_after_each (stacks_of (kept_of s)) effects s.files;
      versions = kept.versions;
      records = kept.records;
      next_id = kept.next_id;
      serial = kept.serial;
      locks = s.locks;
    }
