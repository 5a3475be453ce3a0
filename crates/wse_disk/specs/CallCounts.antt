-- Counts of the calls of an object in memory, of which some are to fail. This project's own rule.
use Rattle.std.specs.Prelude.{ℕ, ◌+◌, ◌-◌, ◌^◌, ◌==◌, min, Bool, not, ◌&&◌, if◌then◌else◌, List, Result, is_err}
use Rattle.std.specs.List.{list_any}

-- The numbers of the calls that fail, counted from 1, how many calls there were, how many failed, and how many found no memory.
pub record CallState : Type 0 where
  pub fails : List ℕ
  pub calls : ℕ
  pub faults : ℕ
  pub starved : ℕ

-- No call was made yet.
abbrev pub uncalled : List ℕ → CallState
uncalled fails = record { fails = fails; calls = 0; faults = 0; starved = 0 }

-- One more, up to the largest number of 64 bits.
abbrev pub one_more : ℕ → ℕ
one_more n = min (n + 1) (2 ^ 64 - 1)

-- The number of the next call is one of those that fail.
abbrev pub next_fails : CallState → Bool
next_fails counts = list_any (λ number. number == one_more counts.calls) counts.fails

-- After one call more.
abbrev pub called : CallState → CallState
called counts = record counts { calls = one_more counts.calls; faults = if next_fails counts then one_more counts.faults else counts.faults }

-- The call that was counted last found no memory.
abbrev pub starved_once : CallState → CallState
starved_once counts = record counts { faults = one_more counts.faults; starved = one_more counts.starved }

-- After one call more that found no memory, also where its number is among those that fail.
abbrev pub starved_call : CallState → CallState
starved_call counts = record counts { calls = one_more counts.calls; faults = one_more counts.faults; starved = one_more counts.starved }

-- After one call more, which may have found no memory, whatever its number.
abbrev pub finished : CallState → Bool → CallState
finished counts no_memory = if no_memory then starved_call counts else called counts

-- After one call more, which may have found no memory.
abbrev pub after_call : CallState → Bool → CallState
after_call counts no_memory = if no_memory then starved_once (called counts) else called counts

-- A call that failed although its number let it pass found no memory.
abbrev pub is_starved : {T E : Type 0} → CallState → Result T E → Bool
is_starved counts result = is_err result && not (next_fails counts)
