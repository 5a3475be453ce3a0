-- Where both begin: nothing is there. This project's own rule.
use Rattle.std.specs.Prelude.{[]}
use Rattle.wse_element.specs.State.{State}

abbrev pub empty : State
empty = record { files = []; versions = []; records = []; next_id = 1; serial = 0; locks = [] }
