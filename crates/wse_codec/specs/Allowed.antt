-- What may be spelled: the format's orders, forms and counts, each length and number within its field. This project's own
-- rule.
use Rattle.std.specs.Prelude.{◌≡◌, ◌≢◌, ◌⊎◌, ℕ, ◌^◌, ◌<◌, true, List, [], length, map, IfSome}
use Rattle.std.specs.List.{All}
use Rattle.std.specs.Str.{IsUtf8}
use Rattle.std.specs.FinMap.{is_sorted}
use Rattle.wse_path.specs.Path.{Path, IsPath}
use Rattle.wse_path.specs.Order.{path_cmp}
use Rattle.wse_path.specs.Label.{IsLabel}
use Rattle.wse_path.specs.declared.change.Numbered.{Numbered}
use Rattle.wse_element.specs.declared.state.PartState.{PartState}
use Rattle.wse_element.specs.declared.state.PartState.TheVariants.{Closed, Incompatible}
use Rattle.wse_element.specs.declared.effect.Effect.{Effect}
use Rattle.wse_element.specs.declared.effect.Effect.TheVariants.{Push, MoveBack, MoveForward, Split, Drop, Invalidate, Bump, Set}
use Rattle.wse_element.specs.Content.{Content, old_content, new_content}
use Rattle.wse_element.specs.Record.{RecordPart, Record, IsBodyOf, AreParts}
use Rattle.wse_codec.specs.declared.snapshot.Snapshot.{Snapshot}
use Rattle.wse_codec.specs.Spelling.{record_bytes, state_bytes}

-- A path whose segments are texts.
pub record IsAllowedPath (segments : Path) : Type 0 where
  pub path : IsPath segments
  pub texts : All IsUtf8 segments

-- The length of what is there fits four bytes.
abbrev pub IsAllowedContent : Content → Type 0
IsAllowedContent content = IfSome content (λ bytes. length bytes < 2 ^ 32)

pub record IsAllowedLabel (label : List ℕ) : Type 0 where
  pub short : IsLabel label
  pub text : IsUtf8 label

pub record IsAllowedPart (part : RecordPart) : Type 0 where
  pub path : IsAllowedPath part.path
  pub rule : IsBodyOf part.state part.body
  pub old : IsAllowedContent (old_content part.body)
  pub new : IsAllowedContent (new_content part.body)

pub record IsAllowedElement (r : Record) : Type 0 where
  pub id : r.id < 2 ^ 64
  pub origin : r.origin < 2 ^ 64
  pub label : IsAllowedLabel r.label
  pub parts : AreParts r.parts
  pub count : length r.parts < 2 ^ 32
  pub each : All IsAllowedPart r.parts

-- Parts are dropped because they are closed or incompatible.
abbrev pub IsReason : PartState → Type 0
IsReason state = (state ≡ Closed) ⊎ (state ≡ Incompatible)

-- A version rises by one or two.
abbrev pub IsRise : ℕ → Type 0
IsRise by = (by ≡ 1) ⊎ (by ≡ 2)

abbrev pub IsAllowedEffect : Effect → Type 0
IsAllowedEffect (Push element) = IsAllowedElement element
IsAllowedEffect (MoveBack id) = id < 2 ^ 64
IsAllowedEffect (MoveForward id) = id < 2 ^ 64
IsAllowedEffect (Split id first) = (id < 2 ^ 64) × (first < 2 ^ 64)
IsAllowedEffect (Drop path reason) = IsAllowedPath path × IsReason reason
IsAllowedEffect (Invalidate path) = IsAllowedPath path
IsAllowedEffect (Bump path by) = IsAllowedPath path × IsRise by
IsAllowedEffect (Set path content) = IsAllowedPath path × IsAllowedContent content

-- A record has an effect at least.
pub record IsAllowedRecord (effects : List Effect) : Type 0 where
  pub some : effects ≢ []
  pub count : length effects < 2 ^ 32
  pub each : All IsAllowedEffect effects

-- Versions by their paths.
abbrev pub numbers_of : List Numbered → List (Path × ℕ)
numbers_of versions = map (λ version. (version.path, version.number)) versions

-- A path that has no version has no entry.
pub record IsAllowedVersion (version : Numbered) : Type 0 where
  pub path : IsAllowedPath version.path
  pub some : version.number ≢ 0
  pub fits : version.number < 2 ^ 32

pub record AreAllowedVersions (versions : List Numbered) : Type 0 where
  pub count : length versions < 2 ^ 32
  pub rise : is_sorted path_cmp (numbers_of versions) ≡ true
  pub each : All IsAllowedVersion versions

pub record AreAllowedElements (elements : List Record) : Type 0 where
  pub count : length elements < 2 ^ 32
  pub each : All IsAllowedElement elements

pub record IsAllowedState (s : Snapshot) : Type 0 where
  pub serial : s.serial < 2 ^ 64
  pub next_id : s.next_id < 2 ^ 64
  pub versions : AreAllowedVersions s.versions
  pub elements : AreAllowedElements s.elements

-- What the values' types don't keep of it: a drop has a reason, and a version rises by one or two.
abbrev pub IsSpellableEffect : Effect → Type 0
IsSpellableEffect (Push element) = Unit {0}
IsSpellableEffect (MoveBack id) = Unit {0}
IsSpellableEffect (MoveForward id) = Unit {0}
IsSpellableEffect (Split id first) = Unit {0}
IsSpellableEffect (Drop path reason) = IsReason reason
IsSpellableEffect (Invalidate path) = Unit {0}
IsSpellableEffect (Bump path by) = IsRise by
IsSpellableEffect (Set path content) = Unit {0}

-- A list of effects may be written: there is one, and all together are below 2^32 bytes.
pub record IsSpellable (effects : List Effect) : Type 0 where
  pub some : effects ≢ []
  pub each : All IsSpellableEffect effects
  pub short : length (record_bytes effects) < 2 ^ 32

-- A state may be written: its versions aren't 0 and stand in path order, and all together is below 2^32 bytes.
pub record IsSpellableState (s : Snapshot) : Type 0 where
  pub rise : is_sorted path_cmp (numbers_of s.versions) ≡ true
  pub some : All (λ version. version.number ≢ 0) s.versions
  pub short : length (state_bytes s) < 2 ^ 32
