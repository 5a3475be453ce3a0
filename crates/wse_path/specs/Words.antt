-- Why a text gives no path, in words. This project's own rule.
use Rattle.std.specs.Prelude.{ℕ, List, codes}
use Rattle.wse_path.specs.Path.{words_of}
use Rattle.wse_path.specs.declared.path_text.TextRefused.{TextRefused}
use Rattle.wse_path.specs.declared.path_text.TextRefused.TheVariants.{Path, Memory}

abbrev pub words_of_text : TextRefused → List ℕ
words_of_text (Path why) = words_of why
words_of_text Memory = codes "out of memory"
