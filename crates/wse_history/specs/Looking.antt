-- What is known of a path. This project's own rule.
use Rattle.std.specs.Prelude.{ℕ, List, length, Option, Some, None, option_map, option_and_then, if◌then◌else◌}
use Rattle.std.specs.Str.{is_utf8}
use Rattle.wse_path.specs.Path.{Path}
use Rattle.wse_path.specs.Tree.{content}
use Rattle.wse_path.specs.Versions.{version_of}
use Rattle.wse_locks.specs.Locks.{holder}
use Rattle.wse_element.specs.Stacks.{closest_past, closest_future}
use Rattle.wse_element.specs.State.{State}
use Rattle.wse_history.specs.declared.answer.Answer.TheVariants.{Look}
use Rattle.wse_history.specs.Outcome.{Outcome, stays}

-- The bytes as a text, where they are UTF-8.
abbrev pub text_in : List ℕ → Option (List ℕ)
text_in bytes = if is_utf8 bytes then Some bytes else None

-- Nothing changes. The answer tells the number of the path's bytes and their text, its version, the records that an undo and
-- a redo there would be about, and who holds it.
abbrev pub look_outcome : State → Path → Outcome
look_outcome s p = stays (Look
    (option_map length (content s.files p)) (option_and_then text_in (content s.files p)) (version_of s.versions p)
    (option_map (λ r. r.id) (closest_past s.records p)) (option_map (λ r. r.id) (closest_future s.records p)) (holder s.locks p))
