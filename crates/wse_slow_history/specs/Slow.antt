-- What contracts see of a state in plain lists, of an outcome and of an undo or a redo that goes on. This project's own rule.
use Rattle.wse_element.specs.State.{State}
use Rattle.wse_history.specs.Moves.{Course}
use Rattle.wse_history.specs.Outcome.{Outcome}
use Rattle.wse_history.specs.Planning.{entries_of}
use Rattle.wse_slow_history.specs.declared.state.SlowState.{SlowState}
use Rattle.wse_slow_history.specs.declared.outcome.SlowOutcome.{SlowOutcome}
use Rattle.wse_slow_history.specs.declared.course.SlowCourse.{SlowCourse}

-- The state that the lists hold.
abbrev pub state_of : SlowState → State
state_of s = record {
  files = s.files.items;
  versions = s.versions.items;
  records = s.records.items;
  next_id = s.next_id;
  serial = s.serial;
  locks = s.locks.entries;
}

abbrev pub outcome_of : SlowOutcome → Outcome
outcome_of o = record { effects = o.effects.items; locks = entries_of o.locks; answer = o.answer }

abbrev pub course_of : SlowCourse → Course
course_of c = record { direction = c.direction; records = c.records.items; effects = c.effects.items; note = c.note; asked = c.asked }
