-- Why bytes are no text, and a position no place, in words. This project's own rule.
use Rattle.std.specs.Prelude.{ℕ, List, ◌++◌, codes, decimal}
use Rattle.wse_text.specs.declared.place.Inside.{Inside}
use Rattle.wse_text.specs.declared.utf8.NotText.{NotText}

abbrev pub inside_text : Inside → List ℕ
inside_text why = codes "inside the character at byte " ++ decimal why.char_start

abbrev pub not_text_text : NotText → List ℕ
not_text_text why = codes "not UTF-8 at byte " ++ decimal why.at
