use Rattle.std.proofs.Common.{◌≡◌, ◌≤◌, take, length}
use Rattle.wse_words.specs.Words.{without_slashes}
use Rattle.wse_words.proofs.places.trimmed.Given as goal

abbrev pub invariant-loop-end : goal.invariant-loop-end
invariant-loop-end l = record { within : l.end ≤ length l.word; same : without_slashes (take l.end l.word) ≡ without_slashes l.word }

abbrev pub decreases-loop-end : goal.decreases-loop-end
decreases-loop-end l = l.end
