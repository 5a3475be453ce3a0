-- The limits of the program. This project's own rule.
use Rattle.wse_path.specs.declared.limits.Limits.{Limits}

-- The numbers that the program uses.
abbrev pub standard : Limits
standard = record {
  files = 65536;
  file_bytes = 16777216;
  tree_bytes = 268435456;
  known = 536870912;
  weight = 536870912;
  serial = 1073741823;
}
