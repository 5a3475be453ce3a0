-- Splices that leave a text as it is.
use Rattle.std.specs.Prelude.{ℕ, ◌-◌, Bool, List, take, drop}
use Rattle.std.specs.Str.{bytes_eq}
use Rattle.wse_splice.specs.declared.splice.Splice.{Splice}

-- The splice puts what stands at its range already.
abbrev pub leaves : List ℕ → Splice → Bool
leaves text s = bytes_eq (take (s.end - s.start) (drop s.start text)) s.text
