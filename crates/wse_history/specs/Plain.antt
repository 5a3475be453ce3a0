-- Plans that record effects with their changes, and plans that record none. This project's own rule.
use Rattle.std.specs.Prelude.{List, [], Some, None}
use Rattle.wse_path.specs.declared.change.Change.{Change}
use Rattle.wse_locks.specs.Locks.{LocksState}
use Rattle.wse_element.specs.declared.effect.Effect.{Effect}
use Rattle.wse_history.specs.declared.answer.Answer.{Answer}
use Rattle.wse_history.specs.declared.planned.Planned.{Planned}

-- Nothing is recorded, and the locks stay.
abbrev pub unrecorded : Answer → Planned
unrecorded answer = record { plan = record { effects = []; changes = [] }; locks = None; answer = answer }

-- Nothing is recorded, and these are the locks.
abbrev pub relocked : LocksState → Answer → Planned
relocked locks answer = record { plan = record { effects = []; changes = [] }; locks = Some locks; answer = answer }

-- The effects are recorded.
abbrev pub recorded_with : List Effect → List Change → Answer → Planned
recorded_with effects changes answer = record { plan = record { effects = effects; changes = changes }; locks = None; answer = answer }
