-- The files that a ruling names. This project's own rule.
use Rattle.std.specs.Prelude.{Bool, false, List, [], ◌++◌, Option}
use Rattle.std.specs.Option.{option_map_or}
use Rattle.wse_path.specs.Path.{Path}
use Rattle.wse_path.specs.Order.{is_named}
use Rattle.wse_element.specs.Record.{Record}
use Rattle.wse_rules.specs.Ruling.{all_paths}
use Rattle.wse_rules.specs.declared.ruling.Cause.{Cause}
use Rattle.wse_rules.specs.declared.ruling.Cause.TheVariants as causes
use Rattle.wse_rules.specs.declared.ruling.Ruling.{Ruling}
use Rattle.wse_rules.specs.declared.ruling.Ruling.TheVariants as rulings

-- What the cause is about, where the ruling itself found it. The files of `Meantime` were handed in with the choice.
abbrev pub found : Cause → List Path → List Path
found causes.Meantime files = []
found _ files = files

-- The paths that a ruling found.
abbrev pub named : Ruling → List Path
named (rulings.Split id cause files) = found cause files
named (rulings.Flush cause files dropped) = found cause files ++ dropped
named (rulings.Locked files) = files
named _ = []

-- The record has a part at the path.
abbrev pub is_path_of : Option Record → Path → Bool
is_path_of r p = option_map_or (λ whole. is_named (all_paths whole) p) r false
