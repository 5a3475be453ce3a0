-- Why locks aren't taken or freed, in words. This project's own rule.
use Rattle.std.specs.Prelude.{ℕ, List, ◌++◌, codes, decimal}
use Rattle.std.specs.List.{join_by}
use Rattle.wse_path.specs.Path.{text_of}
use Rattle.wse_locks.specs.declared.refused.LockRefused.{LockRefused}
use Rattle.wse_locks.specs.declared.refused.LockRefused.TheVariants as refused
use Rattle.wse_locks.specs.declared.refused.NotHeld.{NotHeld}

abbrev pub refused_text : LockRefused → List ℕ
refused_text (refused.Held files) = codes "held: " ++ join_by text_of (codes ", ") files
refused_text refused.Memory = codes "out of memory"

abbrev pub not_held_text : NotHeld → List ℕ
not_held_text why = codes "path " ++ (decimal why.index ++ codes " is not held")
