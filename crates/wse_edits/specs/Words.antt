-- Why edits are refused, in words. This project's own rule.
use Rattle.std.specs.Prelude.{ℕ, List, ◌++◌, codes, decimal}
use Rattle.wse_edits.specs.declared.refused.EditsRefused.{EditsRefused}
use Rattle.wse_edits.specs.declared.refused.EditsRefused.TheVariants.{Inside, Overlap, Memory}

abbrev pub inside_text : (edit byte : ℕ) → List ℕ
inside_text edit byte = codes "edit " ++ (decimal edit ++ (codes ": inside the character at byte " ++ decimal byte))

abbrev pub overlap_text : (first second : ℕ) → List ℕ
overlap_text first second = codes "edits " ++ (decimal first ++ (codes " and " ++ (decimal second ++ codes " overlap")))

-- Why edits of a text can't be made.
abbrev pub refused_text : EditsRefused → List ℕ
refused_text (Inside edit char_start) = inside_text edit char_start
refused_text (Overlap first second) = overlap_text first second
refused_text Memory = codes "out of memory"
