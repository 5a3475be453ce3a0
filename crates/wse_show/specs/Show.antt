-- What a store holds, as lines of JSON. This project's own rule.
use Rattle.std.specs.Prelude.{ℕ, List, ◌++◌}
use Rattle.wse_element.specs.State.{State}
use Rattle.wse_show.specs.Elements.{elements_text}
use Rattle.wse_show.specs.Files.{files_text}

-- Its paths, and then its elements. Who holds which path isn't told.
abbrev pub show_text : State → List ℕ
show_text s = files_text s.files s.versions ++ elements_text s.records
