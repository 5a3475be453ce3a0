-- The first versions of paths, one after the other.
use Rattle.std.specs.Prelude.{◌≤◌, Bool, true, List, [], ◌∷◌, ◌++◌, length, None, if◌then◌else◌}
use Rattle.std.specs.List.{last_or}
use Rattle.std.specs.Option.{option_map_or}
use Rattle.std.specs.Ordering.{is_lt}
use Rattle.wse_path.specs.Path.{Path, text_of}
use Rattle.wse_path.specs.Order.{path_cmp}
use Rattle.wse_path.specs.declared.change.Numbered.{Numbered}

-- The path comes behind the last one, where there is one.
abbrev pub is_behind_last : List Numbered → Path → Bool
is_behind_last versions p = option_map_or (λ v. is_lt (path_cmp v.path p)) (last_or None versions) true

-- The path with its first version behind the others, where it comes behind them.
abbrev pub with_first : List Numbered → Path → List Numbered
with_first versions p = if is_behind_last versions p then versions ++ record { path = p; number = 1 } ∷ [] else versions

-- Those paths one after the other.
abbrev pub with_firsts : List Numbered → List Path → List Numbered
with_firsts versions [] = versions
with_firsts versions (p ∷ ps) = with_firsts (with_first versions p) ps

-- The path's text has at most 4,096 bytes.
abbrev pub HasShortText : Numbered → Type 0
HasShortText version = length (text_of version.path) ≤ 4096
