-- Limits in words. This project's own rule.
use Rattle.std.specs.Prelude.{ℕ, List, ◌++◌, codes, decimal}
use Rattle.wse_path.specs.declared.limits.Hit.{Hit}
use Rattle.wse_path.specs.declared.limits.Which.{Which}
use Rattle.wse_path.specs.declared.limits.Which.TheVariants as limits

-- The limit's text.
abbrev pub limit_name : Which → List ℕ
limit_name limits.Files = codes "files"
limit_name limits.FileBytes = codes "file bytes"
limit_name limits.TreeBytes = codes "tree bytes"
limit_name limits.Known = codes "known"
limit_name limits.Weight = codes "weight"
limit_name limits.Serial = codes "serial"

-- The limit that would be passed, and the number that would pass it.
abbrev pub limit_text : Hit → List ℕ
limit_text hit = codes "limit " ++ (limit_name hit.which ++ (codes ": " ++ decimal hit.would_be))
