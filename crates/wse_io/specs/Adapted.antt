-- std's readers and writers as sources and sinks.
use Rattle.std.specs.Prelude.{ℕ}

-- An adapter as contracts see it: what it adapts, and how often that failed.
pub record Adapted (Inner : Type 0) : Type 0 where
  pub inner : Inner
  pub faults : ℕ
